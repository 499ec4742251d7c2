-- Set-up on a record in use leaves one by the rules: a fresh one, or, refused, the one that was there. Assumes nothing.
use Rattle.std.proofs.Common.{◌≡◌, ℕ, Bool, eqb, List, length, sym, refl, ap, subst, arith}
use Rattle.std.specs.Prelude.{Result, Ok, Err}
use Rattle.outcome.specs.Answers.{SetUpReply}
use Rattle.outcome.specs.Outcome.{Outcome, refused, done}
use Rattle.outcome.proofs.Split.{split}
use Rattle.outcome.specs.Refusal.{number_of_refusal}
use Rattle.outcome.specs.declared.Refusal.{Refusal}
use Rattle.fragment_assembler.specs.SetUp.{set_up_assembler, set_up_refusal}
use Rattle.fragment_assembler.specs.Promise.{SetsUpAssembler}
use Rattle.assembly_record.specs.Rules.{GoodAssembler}
use Rattle.fragment_assembler.proofs.SetUpLaws.{set_up_record}

refused_leaves : (w : List ℕ) (f : ℕ) (reliable : Bool) (p : ℕ) (k : Refusal) (w' : List ℕ) → SetsUpAssembler w f reliable p (Err k) w' → w ≡ w'
unfolding set_up_assembler
refused_leaves w f reliable p k w' h =
    split (eqb (set_up_refusal f p (length w)) 0)
    (λ t.
    let u : ◌≡◌ {A = Outcome (Unit {0})} (refused (number_of_refusal k)) (done tt) = ap (λ (x : SetUpReply). x.answer) (rw t at h.same) in
    let z : ◌≡◌ {A = ℕ} 0 1 = cc in absurd (omega arith))
    (λ t. sym (ap (λ (x : SetUpReply). x.words) (rw t at h.same)))

pub set_up_keeps : (w : List ℕ) (f : ℕ) (reliable : Bool) (p : ℕ) (r : Result (Unit {0}) Refusal) (w' : List ℕ) → SetsUpAssembler w f reliable p r w'
    → GoodAssembler w → length w' ≡ 906 → GoodAssembler w'
set_up_keeps w f reliable p (Err k) w' h g l = subst GoodAssembler (refused_leaves w f reliable p k w' h) g
set_up_keeps w f reliable p (Ok tt) w' h g l = set_up_record w f reliable p (Ok tt) w' h l refl
