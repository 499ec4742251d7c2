use mathlib.Core.Path.{refl}
use native.Mathlib.Omega.{arith}
use Rattle.set_walk.proofs.ClimbsLaws.{climbs_by}
use Rattle.set_walk.proofs.ClimbsRestLaws.{climbs_asks, climbs_done}
use Rattle.set_walk.proofs.rise.rise_rest.Goals as goal

pub step-n-requires : goal.step-n-requires
step-n-requires g c = climbs_asks c.loop-w.invariant g.met.N.Number.laws c.args.base c.requires.word_value c.requires.word_in_bounds (omega arith)

pub loop-w-preserved : goal.loop-w-preserved
loop-w-preserved g c =
    let s = c.step-n.ensures in
    climbs_by (g.N.Number.kind.plus c.args.base) c.loop-w.invariant s.out_after s.value refl refl (omega arith)

pub returns : goal.returns
returns g c = climbs_done c.loop-w.invariant c.loop-w-test.false
