use Prim.Native.Nat.{ℕ, ◌+◌, ◌*◌, ◌%◌, ◌<◌}
use mathlib.Core.Path.{◌≡◌, ap}
use native.Mathlib.Omega.{arith}
use Rattle.set_walk.proofs.ClimbsLaws.{climbs_one, climbs_two, climbs_three, climbs_four, left_four}
use Rattle.set_walk.proofs.ClimbsRestLaws.{climbs_asks, climbs_past, climbs_left, climbs_rest}
use Rattle.set_walk.proofs.rise.rise_word.Goals as goal

pub step-n-requires : goal.step-n-requires
step-n-requires g c =
    let t : 0 < c.loop-w.w * 16 % 4294967296 = omega arith in
    climbs_asks c.loop-w.invariant g.met.N.Number.laws c.args.base c.requires.word_value c.requires.word_in_bounds (left_four c.loop-w.w t).0

pub step-n-requires-in-loop-w : goal.step-n-requires-in-loop-w
step-n-requires-in-loop-w g c =
    let t : 0 < c.loop-w.w * 16 % 4294967296 = omega arith in
    let s = c.step-n.ensures in
    let l = climbs_one (g.N.Number.kind.plus c.args.base) t c.loop-w.invariant s.out_after s.value in
    climbs_asks l g.met.N.Number.laws c.args.base c.requires.word_value c.requires.word_in_bounds (left_four c.loop-w.w t).1

pub step-n-requires-in-loop-w-2 : goal.step-n-requires-in-loop-w-2
step-n-requires-in-loop-w-2 g c =
    let t : 0 < c.loop-w.w * 16 % 4294967296 = omega arith in
    let s = c.step-n.ensures in
    let s2 = c.step-n-in-loop-w.ensures in
    let l = climbs_two (g.N.Number.kind.plus c.args.base) t c.loop-w.invariant s.out_after s.value s2.out_after s2.value in
    climbs_asks l g.met.N.Number.laws c.args.base c.requires.word_value c.requires.word_in_bounds (left_four c.loop-w.w t).2

pub step-n-requires-in-loop-w-3 : goal.step-n-requires-in-loop-w-3
step-n-requires-in-loop-w-3 g c =
    let t : 0 < c.loop-w.w * 16 % 4294967296 = omega arith in
    let s = c.step-n.ensures in
    let s2 = c.step-n-in-loop-w.ensures in
    let s3 = c.step-n-in-loop-w-2.ensures in
    let l = climbs_three (g.N.Number.kind.plus c.args.base) t c.loop-w.invariant s.out_after s.value s2.out_after s2.value s3.out_after s3.value in
    climbs_asks l g.met.N.Number.laws c.args.base c.requires.word_value c.requires.word_in_bounds (left_four c.loop-w.w t).3

pub loop-w-preserved : goal.loop-w-preserved
loop-w-preserved g c =
    let t : 0 < c.loop-w.w * 16 % 4294967296 = omega arith in
    let s = c.step-n.ensures in
    let s2 = c.step-n-in-loop-w.ensures in
    let s3 = c.step-n-in-loop-w-2.ensures in
    let s4 = c.step-n-in-loop-w-3.ensures in
    climbs_four (g.N.Number.kind.plus c.args.base) t c.loop-w.invariant s.out_after s.value s2.out_after s2.value s3.out_after s3.value s4.out_after s4.value

pub rise_rest-requires : goal.rise_rest-requires
rise_rest-requires g c =
    let l = c.loop-w.invariant in
    record {
      from_bound = omega (arith, l.here, l.few);
      word_value = climbs_past l (g.N.Number.kind.fits c.args.base) c.requires.word_value;
      word_in_bounds = climbs_left l c.requires.word_in_bounds;
    }

pub returns : goal.returns
returns g c =
    let r = c.rise_rest.ensures in
    let a = c.args in
    let l = c.loop-w in
    let plus = g.N.Number.kind.plus a.base in
    climbs_rest l.invariant (λ (k : ℕ). plus (l.i + k)) (λ k. let e : l.i + k ≡ a.from + (l.invariant.j + k) = omega (arith, l.invariant.here) in ap plus e) _ _ r.value r.out_after
