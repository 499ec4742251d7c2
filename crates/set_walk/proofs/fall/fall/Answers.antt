use Prim.Native.Nat.{ℕ, ◌*◌, ◌-◌, ◌<◌}
use native.Mathlib.Omega.{arith}
use Rattle.set_walk.proofs.FallingLaws.{falling_word_room, falling_word}
use Rattle.set_walk.proofs.FirstBitsLaws.{word_fits}
use Rattle.set_walk.proofs.fall.fall.Goals as goal

pub fall_word-n-requires : goal.fall_word-n-requires
fall_word-n-requires g c =
    let a = c.args in
    let l = c.loop-k in
    let w = c.first_bits-w in
    let k : ℕ = l.k - 1 in
    let t : 32 * k < a.count = omega arith in
    record {
      from_bound = omega arith;
      word_value = word_fits a.words k a.count w.result t w.ensures (g.N.Number.kind.fits a.base) c.requires.count_value;
      word_in_bounds = falling_word_room k w.result t w.ensures (omega arith) l.invariant (omega (arith, c.requires.count_in_bounds));
    }

pub loop-k-preserved : goal.loop-k-preserved
loop-k-preserved g c =
    let l = c.loop-k in
    let r = c.fall_word-n.ensures in
    let t : 32 * (l.k - 1) < c.args.count = omega arith in
    falling_word (l.k - 1) c.first_bits-w.result t c.first_bits-w.ensures (omega arith) l.invariant r.value r.out_after
