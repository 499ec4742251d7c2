-- Two answers that a promise allows are equal: what every crate's determination theorems cite. Assumes nothing.
use Prim.Native.Nat.{ℕ}
use mathlib.Core.Path.{◌≡◌, refl, ap, ◌∙◌, sym}
use mathlib.Core.Bool.{cond}
use lib.Dec.{eqb}
use Rattle.std.specs.Prelude.{Result, Ok, Err}
use Rattle.outcome.specs.Outcome.{Outcome, refused, done}
use Rattle.outcome.specs.Refusal.{number_of_refusal, said}
use Rattle.outcome.specs.declared.Refusal.{Refusal}
use Rattle.outcome.specs.declared.Refusal.TheVariants as row

-- a promise that is an equation
pub equal_determined : {A : Type 0} {r r' x : A} → r ≡ x → r' ≡ x → r ≡ r'
equal_determined p q = p ∙ sym q

-- an answer is known from what it says, where what it says can be turned back into it
pub said_determined : {E A : Type 0} (said : E → A) (back : A → E) → ((r : E) → back (said r) ≡ r) → (r r' : E) {x : A} → said r ≡ x → said r' ≡ x
    → r ≡ r'
said_determined said back b r r' p q = sym (b r) ∙ ap back (p ∙ sym q) ∙ b r'

-- the row with a number; that of any other number is the last
abbrev refusal_back : ℕ → Refusal
refusal_back n =
    cond (eqb n 1) row.EndsEarly
    (cond (eqb n 2) row.TooManyBits
    (cond (eqb n 3) row.ShortOutput
    (cond (eqb n 4) row.NoNumber
    (cond (eqb n 5) row.BackwardRange
    (cond (eqb n 6) row.OtherFragmentSize
    (cond (eqb n 7) row.ShortSample
    (cond (eqb n 8) row.LongSample
    (cond (eqb n 9) row.ManyFragments
    (cond (eqb n 10) row.EmptyRun
    (cond (eqb n 11) row.StartZero
    (cond (eqb n 12) row.RunPastEnd
    (cond (eqb n 13) row.ShortArea
    (cond (eqb n 14) row.BadSetUp row.NotRising)))))))))))))

refusal_back_number : (r : Refusal) → refusal_back (number_of_refusal r) ≡ r
refusal_back_number row.EndsEarly = refl
refusal_back_number row.TooManyBits = refl
refusal_back_number row.ShortOutput = refl
refusal_back_number row.NoNumber = refl
refusal_back_number row.BackwardRange = refl
refusal_back_number row.OtherFragmentSize = refl
refusal_back_number row.ShortSample = refl
refusal_back_number row.LongSample = refl
refusal_back_number row.ManyFragments = refl
refusal_back_number row.EmptyRun = refl
refusal_back_number row.StartZero = refl
refusal_back_number row.RunPastEnd = refl
refusal_back_number row.ShortArea = refl
refusal_back_number row.BadSetUp = refl
refusal_back_number row.NotRising = refl

-- two rows with one number are one
pub refusal_determined : (r r' : Refusal) {n : ℕ} → number_of_refusal r ≡ n → number_of_refusal r' ≡ n → r ≡ r'
refusal_determined = said_determined number_of_refusal refusal_back refusal_back_number

abbrev result_back : {A : Type 0} → Outcome A → Result A Refusal
result_back (refused n) = Err (refusal_back n)
result_back (done a) = Ok a

result_back_said : {A : Type 0} (r : Result A Refusal) → result_back (said r) ≡ r
result_back_said (Ok a) = refl
result_back_said (Err r) = ap Err (refusal_back_number r)

-- a call's result is known from what it says
pub result_determined : {A : Type 0} (r r' : Result A Refusal) {x : Outcome A} → said r ≡ x → said r' ≡ x → r ≡ r'
result_determined = said_determined said result_back result_back_said
