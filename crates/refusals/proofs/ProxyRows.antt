-- The rows of the writer proxy's calls. Assumes nothing.
use Prim.Native.Nat.{ℕ, ◌<◌}
use native.Mathlib.Omega.{arith}
use mathlib.Core.Path.{◌≡◌, refl, sym, ap, subst, ◌∙◌}
use mathlib.Core.Bool.{Bool, true, false}
use mathlib.Core.Logic.{inl, inr, ⊎_elim, ◌↔◌}
use mathlib.Core.List.{List, [], ◌∷◌}
use lib.ListN.{length}
use lib.Dec.{T, eqb}
use lib.IntN.{ℤ, pos, negsuc}
use lib.Signed.{lt_z, lt_z_yes, ◌<ℤ◌}
use mir.Syntax.{w64}
use mir.Val.{SFits}
use borrow.Author.Tests.{lt-ltb, le-ltb, eqb-true, eqb-false}
use Rattle.outcome.specs.Answers.{SetUpReply, ListReply}
use Rattle.outcome.specs.Outcome.{Outcome, refused}
use Rattle.outcome.specs.Row.{Row, verdict, Exactly, Refuses, shorter}
use Rattle.sequence_number.specs.Number.{top, is_number, nat_of}
use Rattle.outcome.proofs.Split.{split_lt, clash}
use Rattle.sequence_number.proofs.NumberLaws.{end_top}
use Rattle.proxy_record.specs.State.{Proxy, fresh_proxy}
use Rattle.proxy_record.specs.Words.{proxy_words, proxy_of, proxy_size}
use Rattle.proxy_record.specs.Rules.{GoodProxy}
use Rattle.proxy_record.proofs.RulesLaws.{ok_fresh, good_of}
use Rattle.proxy_steps.specs.Steps.{ProxyReply}
use Rattle.writer_proxy.specs.Calls.{received, received_at, irrelevant, irrelevant_at, irrelevant_range, range_at}
use Rattle.writer_proxy.proofs.CallsLaws.{received_accepted, irrelevant_accepted, range_accepted, received_refused_same, irrelevant_refused_same, range_refused_same}
use Rattle.writer_proxy.specs.SetUp.{set_up_proxy}
use Rattle.writer_proxy.specs.Missing.{missing_numbers, missing_listed}
use Rattle.writer_proxy.proofs.MissingLaws.{missing_refused_same}
use Rattle.writer_proxy.proofs.SetUpLaws.{set_up_refused_same}
use Rattle.refusals.specs.RefusalTable.{not_taken, range_rows, missing_rows}
use Rattle.outcome.proofs.RowLaws.{said_refused, said_accepted, none_left, asks, asks_not, asks_less}

-- what is promised of a call that says so, and leaves so
pub told_as : {A B : Type 0} {x y : Outcome A} {before after out : B} (rows : List Row) → Refuses (verdict x) rows (after ≡ before) → (y ≡ x) × (out ≡ after)
    → Refuses (verdict y) rows (out ≡ before)
told_as rows h a =
    record {
      exactly = rw a.0 h.exactly;
      untouched = λ n z. a.1 ∙ h.untouched n (rw a.0 at z);
    }

abbrev pub replied : ProxyReply → Outcome (Unit {0})
replied x = verdict x.answer

-- a call that goes on to its end has no row left
ends : (x : ProxyReply) → ((n : ℕ) → x.answer ≡ refused n → ⊥) → Exactly (replied x) []
ends x f = rw (said_accepted x.answer f) none_left

-- a call by the rows, which leaves the record where it is refused
module _ (w : List ℕ) (g : GoodProxy w) (x : ProxyReply) (rows : List Row) where
  by_rows : Exactly (replied x) rows → ((n : ℕ) → x.answer ≡ refused n → x.state ≡ proxy_of w) → Refuses (replied x) rows (proxy_words x.state ≡ w)
  by_rows e same =
      record {
        exactly = e;
        untouched = λ n z. ap proxy_words (same n (said_refused x.answer n z)) ∙ sym g.made;
      }

-- ---- tests

test_true : (b : Bool) → T b → b ≡ true
test_true true t = refl
test_true false t = absurd t

pub below_holds : (a b : ℤ) → lt_z a b ≡ true → a <ℤ b
below_holds a b e = lt_z_yes (subst T (sym e) tt)

pub below_fails : (a b : ℤ) → lt_z a b ≡ false → a <ℤ b → ⊥
below_fails a b e h = clash (lt_z a b) (test_true (lt_z a b) h.lt) e

-- ---- numbers that a call takes

-- row 4 over an i64, by the test that the calls make
not_taken_lem : (n : ℤ) → SFits w64 n → (is_number n ≡ false) ↔ (not_taken n).condition
not_taken_lem (negsuc n) f = (λ h. inl (below_holds (negsuc n) (pos 1) refl), λ h. refl)
not_taken_lem (pos n) f =
    ⊎_elim
    (λ a.
    ⊎_elim
    (λ b.
    rw (lt-ltb 0 n a, lt-ltb n top b)
    (λ h. absurd (clash true refl h), ⊎_elim (λ h. absurd (below_fails (pos n) (pos 1) (le-ltb n 1 a) h)) (λ (h : pos n ≡ pos top). let z : n ≡ top = cc in absurd (omega arith))))
    (λ b. let z : n ≡ top = omega (arith, f.sfits) in rw (lt-ltb 0 n a, le-ltb n top b) (λ h. inr (ap pos z), λ h. refl))
    (split_lt n top))
    (λ a. let z : n < 1 = omega arith in rw (le-ltb 0 n a) (λ h. inl (below_holds (pos n) (pos 1) (lt-ltb n 1 z)), λ h. refl))
    (split_lt 0 n)

module _ (n : ℤ) (f : SFits w64 n) where
  pub row_holds : is_number n ≡ false → (not_taken n).condition
  row_holds = (not_taken_lem n f).0

  pub row_fails : is_number n ≡ true → (not_taken n).condition → ⊥
  row_fails e h = clash (is_number n) e ((not_taken_lem n f).1 h)

module _ (w : List ℕ) (g : GoodProxy w) where
  pub add_rows : (n : ℤ) (time : ℕ) → SFits w64 n → Refuses (replied (received n time (proxy_of w))) (not_taken n ∷ []) (proxy_words (received n time (proxy_of w)).state ≡ w)
  unfolding received
  add_rows n time f =
      by_rows w g (received n time (proxy_of w)) (not_taken n ∷ [])
      (asks_not replied refl (is_number n) (row_holds n f) (row_fails n f)
      (λ t. ends (received_at (nat_of n) time (proxy_of w)) (received_accepted (nat_of n) time (proxy_of w))))
      (received_refused_same n (proxy_of w) time)

  pub irrelevant_rows : (n : ℤ) → SFits w64 n → Refuses (replied (irrelevant n (proxy_of w))) (not_taken n ∷ []) (proxy_words (irrelevant n (proxy_of w)).state ≡ w)
  unfolding irrelevant
  irrelevant_rows n f =
      by_rows w g (irrelevant n (proxy_of w)) (not_taken n ∷ [])
      (asks_not replied refl (is_number n) (row_holds n f) (row_fails n f)
      (λ t. ends (irrelevant_at (nat_of n) (proxy_of w)) (irrelevant_accepted (nat_of n) (proxy_of w))))
      (irrelevant_refused_same n (proxy_of w))

  pub range_rows_lem : (a b : ℤ) → Refuses (replied (irrelevant_range a b (proxy_of w))) (range_rows a b) (proxy_words (irrelevant_range a b (proxy_of w)).state ≡ w)
  unfolding irrelevant_range
  range_rows_lem a b =
      by_rows w g (irrelevant_range a b (proxy_of w)) (range_rows a b)
      (asks replied refl (lt_z b a) (below_holds b a) (below_fails b a)
      (λ e. ends (range_at (nat_of a) (nat_of b) (proxy_of w)) (range_accepted (nat_of a) (nat_of b) (proxy_of w))))
      (range_refused_same a b (proxy_of w))

-- ---- the missing list

module _ (start end : ℤ) (s : Proxy) (out : List ℤ) where
  pub missing_rows_lem : Refuses (verdict (missing_listed start end s out).answer) (missing_rows start end s out) ((missing_listed start end s out).list ≡ out)
  unfolding missing_listed
  missing_rows_lem =
      let says : (ListReply ℤ) → Outcome (Unit {0}) = λ x. verdict x.answer in
      record {
        exactly =
            asks says refl (eqb (nat_of end) top)
            (λ e. (end_top end).0 (eqb-true (nat_of end) top e))
            (λ e h. eqb-false (nat_of end) top e ((end_top end).1 h))
            (λ e. asks_less says refl (length out) (length (missing_numbers start end s)) (λ h. none_left));
        untouched = λ n e. missing_refused_same start end s out n (said_refused (missing_listed start end s out).answer n e);
      }

-- ---- set-up

pub set_up_rows : (w : List ℕ) → Refuses (verdict (set_up_proxy w).answer) (shorter w (proxy_words fresh_proxy) ∷ []) ((set_up_proxy w).words ≡ w)
unfolding set_up_proxy
set_up_rows w =
    let says : SetUpReply → Outcome (Unit {0}) = λ x. verdict x.answer in
    let long : length (proxy_words fresh_proxy) ≡ proxy_size = (good_of (proxy_words fresh_proxy) fresh_proxy ok_fresh refl).whole in
    record {
      exactly = rw long (asks_less says refl (length w) proxy_size (λ h. none_left));
      untouched = λ n e. set_up_refused_same w n (said_refused (set_up_proxy w).answer n e);
    }
