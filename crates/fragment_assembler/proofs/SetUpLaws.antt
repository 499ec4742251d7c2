-- Laws of `specs/SetUp.antt`. Assumes nothing.
use Prim.Native.Nat.{ℕ, zero, suc, ◌*◌, ◌≤◌, ◌<◌}
use native.Mathlib.Omega.{arith}
use mathlib.Core.Path.{◌≡◌, refl, sym, ap, subst, ◌∙◌}
use mathlib.Core.Bool.{Bool, true, false}
use mir.Val.{bool_byte}
use mathlib.Core.Logic.{inl}
use mathlib.Core.List.{List, ◌∷◌, ◌++◌}
use lib.ListN.{length, set, take, drop, replicate, length-replicate}
use lib.Seq.{take_all, take_at}
use borrow.Author.Tests.{lt-ltb, le-ltb, eq-eqb, ne_eqb}
use Rattle.assembly_record.specs.Sizes.{place_count, largest_place, row_size, assembler_size}
use Rattle.outcome.specs.Lent.{over}
use Rattle.outcome.specs.Outcome.{refused, done}
use Rattle.outcome.specs.Answers.{set_up_reply}
use Rattle.outcome.specs.Refusal.{number_of_refusal, said}
use Rattle.assembly_record.proofs.RulesLaws.{ok_good}
use Rattle.assembly_record.proofs.TableLaws.{at_free}
use Rattle.fragment_assembler.proofs.RefusalLaws.{refusal_some}
use Rattle.fragment_assembler.specs.Promise.{SetsUpAssembler}
use Rattle.assembly_record.specs.Rules.{AssemblerRules, GoodAssembler}
use Rattle.fragment_assembler.specs.SetUp.{fresh_assembler, set_up_assembler, set_up_refusal}
use Rattle.assembly_record.specs.State.{free_place, Place}
use Rattle.assembly_record.specs.Table.{in_assembly}
use Rattle.assembly_record.specs.Words.{table_of, bit, assembler_words}
use Rattle.std.specs.Prelude.{Result, Ok, Err}
use Rattle.outcome.specs.declared.Refusal.{Refusal}
use Rattle.outcome.specs.declared.Refusal.TheVariants.{ShortOutput, BadSetUp}

-- ---- a fresh assembler

none_taken : (n : ℕ) → in_assembly (replicate n free_place) ≡ 0
none_taken zero = refl
none_taken (suc n) = none_taken n

pub fresh_ok : (f : ℕ) (reliable : Bool) (p : ℕ) → 0 < f → f < 65536 → 0 < p → p ≤ largest_place → AssemblerRules (fresh_assembler f reliable p)
fresh_ok f reliable p u u' r r' =
    record {
      some = u;
      fragment_size = u';
      least = r;
      place_size = r';
      full = length-replicate place_count free_place;
      few = omega (arith, none_taken place_count);
      once = λ i j h e. absurd (omega (arith, subst (λ (x : Place). 0 < x.number) (at_free place_count i) h));
      each = λ i. inl (at_free place_count i);
    }

table_free : (n : ℕ) → replicate (row_size * n) 0 ≡ table_of (replicate n free_place)
table_free zero = refl
table_free (suc n) =
    let e : row_size * suc n ≡ suc (suc (suc (suc (suc (suc (suc (row_size * n))))))) = omega arith in
    rw e (ap (λ (l : List ℕ). 0 ∷ (0 ∷ (0 ∷ (0 ∷ (0 ∷ (0 ∷ (0 ∷ l))))))) (table_free n))

empty_words : (f : ℕ) (reliable : Bool) (p : ℕ) → f ∷ (p ∷ (bit reliable ∷ replicate (row_size * place_count) 0)) ≡ assembler_words (fresh_assembler f reliable p)
unfolding assembler_words
empty_words f reliable p = ap (λ (l : List ℕ). f ∷ (p ∷ (bit reliable ∷ l))) (table_free place_count)

-- the words that the code stores
pub reset_words : (k f p : ℕ) (b : Bool) (z : List ℕ) → k ≡ assembler_size → z ≡ replicate k 0
    → set (set (set z 0 f) 1 p) 2 (bool_byte b) ≡ f ∷ (p ∷ (bit b ∷ replicate (row_size * place_count) 0))
reset_words k f p b z e h = ap (λ (l : List ℕ). set (set (set l 0 f) 1 p) 2 (bool_byte b)) (h ∙ ap (λ (j : ℕ). replicate j 0) e) ∙ ap (λ (m : ℕ). f ∷ (p ∷ (m ∷ replicate (row_size * place_count) 0))) (byte_bit b)
  where
    byte_bit : (b : Bool) → bool_byte b ≡ bit b
    byte_bit true = refl
    byte_bit false = refl

-- ---- the promise

module _ (w : List ℕ) (f : ℕ) (reliable : Bool) (p : ℕ) where
  refuses : (r : Refusal) → set_up_refusal f p (length w) ≡ number_of_refusal r → SetsUpAssembler w f reliable p (Err r) w
  unfolding set_up_assembler
  refuses r e =
      record {
        same =
            rw (ne_eqb (set_up_refusal f p (length w)) 0 (λ x. refusal_some r (sym e ∙ x))) (ap (λ (n : ℕ). set_up_reply (refused n) w) (sym e));
        good = λ x. let y : ◌≡◌ {A = ℕ} 0 1 = cc in absurd (omega arith);
      }

  pub set_up_unit : f ≡ 0 → SetsUpAssembler w f reliable p (Err BadSetUp) w
  unfolding set_up_refusal
  set_up_unit e = refuses BadSetUp (rw (eq-eqb f 0 e))

  module _ (u : f ≡ 0 → ⊥) where
    pub set_up_none : p ≡ 0 → SetsUpAssembler w f reliable p (Err BadSetUp) w
    unfolding set_up_refusal
    set_up_none e = refuses BadSetUp (rw (ne_eqb f 0 u, eq-eqb p 0 e))

    module _ (r : p ≡ 0 → ⊥) where
      pub set_up_much : largest_place < p → SetsUpAssembler w f reliable p (Err BadSetUp) w
      unfolding set_up_refusal
      set_up_much l = refuses BadSetUp (rw (ne_eqb f 0 u, ne_eqb p 0 r, lt-ltb largest_place p l))

      module _ (l : p ≤ largest_place) where
        pub set_up_short : length w < assembler_size → SetsUpAssembler w f reliable p (Err ShortOutput) w
        unfolding set_up_refusal
        set_up_short s = refuses ShortOutput (rw (ne_eqb f 0 u, ne_eqb p 0 r, le-ltb largest_place p l, lt-ltb (length w) assembler_size s))

        pub set_up_done : (ys : List ℕ) → assembler_size ≤ length w → f < 65536 → ys ≡ f ∷ (p ∷ (bit reliable ∷ replicate (row_size * place_count) 0))
            → SetsUpAssembler w f reliable p (Ok tt) (ys ++ drop assembler_size w)
        unfolding set_up_refusal set_up_assembler
        set_up_done ys s h ey =
            let q : set_up_refusal f p (length w) ≡ 0 = rw (ne_eqb f 0 u, ne_eqb p 0 r, le-ltb largest_place p l, le-ltb (length w) assembler_size s) in
            let is : ys ≡ assembler_words (fresh_assembler f reliable p) = ey ∙ empty_words f reliable p in
            let k : AssemblerRules (fresh_assembler f reliable p) = fresh_ok f reliable p (omega (arith, u)) h (omega (arith, r)) l in
            let long : length (assembler_words (fresh_assembler f reliable p)) ≡ assembler_size = (ok_good (fresh_assembler f reliable p) k).long in
            let whole : ys ++ drop assembler_size w ≡ over (assembler_words (fresh_assembler f reliable p)) w =
            (ap (λ (x : List ℕ). x ++ drop assembler_size w) is ∙ ap (λ (j : ℕ). assembler_words (fresh_assembler f reliable p) ++ drop j w) (sym long)) in
            record {
              same = rw (eq-eqb (set_up_refusal f p (length w)) 0 q) (ap (set_up_reply (done tt)) whole);
              good = λ _.
                  subst GoodAssembler (sym (ap (take assembler_size) whole ∙ take_at (assembler_words (fresh_assembler f reliable p)) (drop (length (assembler_words (fresh_assembler f reliable p))) w) assembler_size long))
                  (ok_good (fresh_assembler f reliable p) k);
            }

-- set up in exactly 906 words: the words are the record
pub set_up_record : (w : List ℕ) (f : ℕ) (reliable : Bool) (p : ℕ) (r : Result (Unit {0}) Refusal) (w' : List ℕ) → SetsUpAssembler w f reliable p r w' → length w' ≡ assembler_size
    → said r ≡ done tt → GoodAssembler w'
set_up_record w f reliable p r w' h l e = subst GoodAssembler (take_all assembler_size w' (omega arith)) (h.good e)
