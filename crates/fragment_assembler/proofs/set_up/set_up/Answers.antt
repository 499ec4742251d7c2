-- `fragment_assembler::set_up::set_up` meets its contract: each answer is a case of the definition. Assumes nothing.
use native.Mathlib.Omega.{arith}
use mathlib.Core.Logic.{⊎_elim}
use Rattle.fragment_assembler.proofs.SetUpLaws.{set_up_unit, set_up_none, set_up_much, set_up_short, set_up_done}
use Rattle.fragment_assembler.proofs.set_up.set_up.Goals as goal

pub returns-then-fragment_size-eq0 : goal.returns-then-fragment_size-eq0
returns-then-fragment_size-eq0 c =
    let x = c.args in
    ⊎_elim (λ f. set_up_unit x.t.now x.fragment_size x.reliable x.place_size f)
    (⊎_elim (λ p. set_up_none x.t.now x.fragment_size x.reliable x.place_size p.0 p.1) (λ l. set_up_much x.t.now x.fragment_size x.reliable x.place_size l.0 l.1 l.2)) c.then-fragment_size-eq0.either

pub returns-then-t-lt-ASSEMBLER_WORDS : goal.returns-then-t-lt-ASSEMBLER_WORDS
returns-then-t-lt-ASSEMBLER_WORDS c =
    let x = c.args in
    set_up_short x.t.now x.fragment_size x.reliable x.place_size c.if-fragment_size-eq0.false c.if-place_size-eq0.false c.if-place_size-gt-LARGEST_PLACE.false c.if-t-lt-ASSEMBLER_WORDS.true

pub returns : goal.returns
returns c =
    let x = c.args in
    set_up_done x.t.now x.fragment_size x.reliable x.place_size c.if-fragment_size-eq0.false c.if-place_size-eq0.false c.if-place_size-gt-LARGEST_PLACE.false _ c.if-t-lt-ASSEMBLER_WORDS.false
    (omega (arith, c.ranges.fragment_size.fits)) c.reset.ensures
