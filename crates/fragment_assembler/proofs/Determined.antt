-- Determination: two answers that a public call's promise allows, with the words and the lent bytes or entries that they leave, are equal.
-- Assumes nothing.
use Prim.Native.Nat.{ℕ}
use mathlib.Core.Path.{◌≡◌, refl, sym, ap, ◌∙◌}
use mathlib.Core.Bool.{Bool}
use mathlib.Core.List.{List}
use lib.IntN.{ℤ}
use Rattle.sequence_number.specs.Number.{number_of}
use Rattle.outcome.specs.Outcome.{Outcome, refused, done, found}
use Rattle.outcome.specs.Answers.{SetUpReply, set_up_reply, ListReply, list_reply}
use Rattle.outcome.specs.Refusal.{said}
use Rattle.outcome.specs.declared.Refusal.{Refusal}
use Rattle.std.specs.Prelude.{Result}
use Rattle.outcome.proofs.Determined.{equal_determined, result_determined}
use Rattle.fragment_assembler.specs.Call.{Fate, fate_of, fragment_said, fragment_reply, FragmentReply, kept, returned, dropped}
use Rattle.fragment_assembler.specs.Clean.{clean_reply, CleanReply}
use Rattle.fragment_assembler.specs.Promise.{SetsUpAssembler, TakesFragment, CleansAssembler, ListsFragments}
use Rattle.fragment_assembler.specs.Fragment.{Fragment}
use Rattle.assembly_record.specs.Rules.{GoodAssembler}
use Rattle.assembly_record.specs.Table.{is_partially_received, in_assembly}
use Rattle.fragment_assembler.specs.View.{viewed, view_start}
use Rattle.assembly_record.specs.Words.{assembler_of, assembler_words}
use Rattle.fragment_assembler.specs.declared.fragment.Answer.{Answer}
use Rattle.fragment_assembler.specs.declared.fragment.Answer.TheVariants as answer

-- ---- what an answer says determines it

abbrev fate_back : Fate → Answer
fate_back kept = answer.Kept
fate_back (returned n i d) = answer.Returned n i d
fate_back (dropped n) = answer.Dropped n

fate_back_of : (r : Answer) → fate_back (fate_of r) ≡ r
fate_back_of answer.Kept = refl
fate_back_of (answer.Returned n i d) = refl
fate_back_of (answer.Dropped n) = refl

found_back : (o : Outcome Answer) → found fate_back (found fate_of o) ≡ o
found_back (refused n) = refl
found_back (done r) = ap done (fate_back_of r)

-- words by the rules that stand for one state are equal
pub same_words : (w w' : List ℕ) → GoodAssembler w → GoodAssembler w' → assembler_of w ≡ assembler_of w' → w ≡ w'
same_words w w' g g' e = g.made ∙ ap assembler_words e ∙ sym g'.made

-- ---- the calls

pub set_up_determined : (w : List ℕ) (f : ℕ) (reliable : Bool) (p : ℕ) (r r' : Result (Unit {0}) Refusal) (w₁ w₂ : List ℕ)
    → SetsUpAssembler w f reliable p r w₁ → SetsUpAssembler w f reliable p r' w₂ → (r ≡ r') × (w₁ ≡ w₂)
set_up_determined w f reliable p r r' w₁ w₂ h k =
    let e : set_up_reply (said r) w₁ ≡ set_up_reply (said r') w₂ = h.same ∙ sym k.same in
    (result_determined r r' (ap (λ (s : SetUpReply). s.answer) e) refl, ap (λ (s : SetUpReply). s.words) e)

pub new_datafrag_determined : (w area : List ℕ) (c : Fragment) (r r' : Result Answer Refusal) (w₁ w₂ after after' : List ℕ)
    → TakesFragment w area c r w₁ after → TakesFragment w area c r' w₂ after' → (r ≡ r') × (w₁ ≡ w₂) × (after ≡ after')
new_datafrag_determined w area c r r' w₁ w₂ after after' h k =
    let e : fragment_reply (fragment_said r) (assembler_of w₁) after ≡ fragment_reply (fragment_said r') (assembler_of w₂) after' = h.same ∙ sym k.same in (
      result_determined r r' (sym (found_back (said r)) ∙ ap (λ (o : FragmentReply). found fate_back o.answer) e) (sym (found_back (said r'))),
      same_words w₁ w₂ h.good k.good (ap (λ (o : FragmentReply). o.state) e),
      ap (λ (o : FragmentReply). o.area) e,
    )

pub garbage_collect_before_determined : (w : List ℕ) (t : ℕ) (out : List ℤ) (r r' : Result ℕ Refusal) (w₁ w₂ : List ℕ) (after after' : List ℤ)
    → CleansAssembler w t out r w₁ after → CleansAssembler w t out r' w₂ after' → (r ≡ r') × (w₁ ≡ w₂) × (after ≡ after')
garbage_collect_before_determined w t out r r' w₁ w₂ after after' h k =
    let e : clean_reply (said r) (assembler_of w₁) after ≡ clean_reply (said r') (assembler_of w₂) after' = h.same ∙ sym k.same in (
      result_determined r r' (ap (λ (o : CleanReply). o.answer) e) refl,
      same_words w₁ w₂ h.good k.good (ap (λ (o : CleanReply). o.state) e),
      ap (λ (o : CleanReply). o.list) e,
    )

pub missing_frags_for_determined : (w : List ℕ) (n : ℕ) (out : List ℕ) (r r' : Result ℕ Refusal) (after after' : List ℕ)
    → ListsFragments w n out r after → ListsFragments w n out r' after' → (r ≡ r') × (after ≡ after')
missing_frags_for_determined w n out r r' after after' h k =
    let e : list_reply (said r) after ≡ list_reply (said r') after' = h.same ∙ sym k.same in
    (result_determined r r' (ap (λ (o : ListReply ℕ). o.answer) e) refl, ap (λ (o : ListReply ℕ). o.list) e)

pub view_determined : (w area : List ℕ) (i n : ℕ) (r r' : List ℕ) → r ≡ viewed (assembler_of w) area i n → r' ≡ viewed (assembler_of w) area i n → r ≡ r'
view_determined w area i n r r' = equal_determined

pub view_start_determined : (w : List ℕ) (long i n r r' : ℕ) → r ≡ view_start (assembler_of w) long i n → r' ≡ view_start (assembler_of w) long i n → r ≡ r'
view_start_determined w long i n r r' = equal_determined

pub is_partially_received_determined : (w : List ℕ) (n : ℤ) (r r' : Bool) → r ≡ is_partially_received (assembler_of w).places (number_of n)
    → r' ≡ is_partially_received (assembler_of w).places (number_of n) → r ≡ r'
is_partially_received_determined w n r r' = equal_determined

pub in_assembly_determined : (w : List ℕ) (r r' : ℕ) → r ≡ in_assembly (assembler_of w).places → r' ≡ in_assembly (assembler_of w).places → r ≡ r'
in_assembly_determined w r r' = equal_determined
