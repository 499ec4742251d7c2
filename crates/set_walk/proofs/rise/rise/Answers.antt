use Prim.Native.Nat.{◌*◌, ◌<◌}
use native.Mathlib.Omega.{arith}
use Rattle.set_walk.proofs.RisingLaws.{rising_room, rising_word}
use Rattle.set_walk.proofs.FirstBitsLaws.{word_fits}
use Rattle.set_walk.proofs.rise.rise.Goals as goal

pub rise_word-n-requires : goal.rise_word-n-requires
rise_word-n-requires g c =
    let a = c.args in
    let l = c.loop-k in
    let w = c.first_bits-w in
    let t : 32 * l.k < a.count = omega arith in
    record {
      from_bound = omega arith;
      word_value = word_fits a.words l.k a.count w.result t w.ensures (g.N.Number.kind.fits a.base) c.requires.count_value;
      word_in_bounds = rising_room l.k w.result t w.ensures l.invariant c.requires.count_in_bounds;
    }

pub loop-k-preserved : goal.loop-k-preserved
loop-k-preserved g c =
    let t : 32 * c.loop-k.k < c.args.count = omega arith in
    let r = c.rise_word-n.ensures in
    rising_word c.loop-k.k c.first_bits-w.result t c.first_bits-w.ensures c.loop-k.invariant r.value r.out_after
