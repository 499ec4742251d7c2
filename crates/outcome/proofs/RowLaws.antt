-- Laws of rows: what an answer is by, test after test. Assumes nothing.
use Prim.Native.Nat.{ℕ, zero, suc, ◌<◌, ◌≤◌}
use native.Mathlib.Omega.{arith}
use mathlib.Core.Path.{◌≡◌, refl, sym, ap}
use mathlib.Core.Bool.{Bool, true, false, cond, ◌&&◌}
use mathlib.Core.Logic.{inl, inr, ⊎_elim}
use mathlib.Core.List.{List, [], ◌∷◌}
use lib.Dec.{ltb}
use borrow.Author.Tests.{ltb-true, ltb-false}
use Rattle.outcome.specs.Outcome.{Outcome, refused, done, refusal, is_refused, left}
use Rattle.outcome.proofs.Split.{clash, both}
use Rattle.outcome.specs.Row.{Row, row, GivenBy, accepted, Exactly, verdict, numbered}

-- ---- rows

pub not_refused : (n : ℕ) → accepted ≡ refused n → ⊥
not_refused n e = let z : ◌≡◌ {A = ℕ} 0 1 = cc in omega arith

pub same_number : {A : Type 0} (n m : ℕ) → ◌≡◌ {A = Outcome A} (refused n) (refused m) → n ≡ m
same_number n m e = cc

-- what is found, by what is said of it
pub said_refused : {A : Type 0} (x : Outcome A) (n : ℕ) → verdict x ≡ refused n → x ≡ refused n
said_refused (refused m) n e = ap refused (same_number m n e)
said_refused (done a) n e = absurd (not_refused n e)

pub said_accepted : {A : Type 0} (x : Outcome A) → ((n : ℕ) → x ≡ refused n → ⊥) → verdict x ≡ accepted
said_accepted (refused m) f = absurd (f m refl)
said_accepted (done a) f = refl

-- no row is left
pub none_left : Exactly accepted []
none_left = record { refused_with = λ n. (λ e. absurd (not_refused n e), λ x. absurd x); otherwise = (λ e. tt, λ x. refl) }

-- the first row holds
pub holds : (n : ℕ) (C : Type 0) (rows : List Row) → C → Exactly (refused n) (row n C ∷ rows)
holds n C rows c =
    record {
      refused_with = λ m. (λ e. inl (same_number n m e, c), ⊎_elim (λ p. λ i. refused (p.0 i)) (λ p. absurd (p.0 c)));
      otherwise = (λ e. absurd (not_refused n (sym e)), λ x. absurd (x.0 c));
    }

-- the first row does not hold
pub passes : (n : ℕ) (C : Type 0) (rows : List Row) {v : Outcome (Unit {0})} → (C → ⊥) → Exactly v rows → Exactly v (row n C ∷ rows)
passes n C rows f x =
    record {
      refused_with = λ m. (λ e. inr (f, (x.refused_with m).0 e), ⊎_elim (λ p. absurd (f p.1)) (λ p. (x.refused_with m).1 p.1));
      otherwise = (λ e. (f, x.otherwise.0 e), λ h. x.otherwise.1 h.1);
    }

-- a test for the first row
module _ {X : Type 0} (says : X → Outcome (Unit {0})) {x y : X} {n : ℕ} {rows : List Row} (e : says x ≡ refused n) where
  pub asks : {C : Type 0} (b : Bool) → (b ≡ true → C) → (b ≡ false → C → ⊥) → (b ≡ false → Exactly (says y) rows) → Exactly (says (cond b x y)) (row n C ∷ rows)
  asks {C} true t f rest = rw e (holds n C rows (t refl))
  asks {C} false t f rest = passes n C rows (f refl) (rest refl)

  -- the same, the other way round
  pub asks_not : {C : Type 0} (b : Bool) → (b ≡ false → C) → (b ≡ true → C → ⊥) → (b ≡ true → Exactly (says y) rows) → Exactly (says (cond b y x)) (row n C ∷ rows)
  asks_not {C} false t f rest = rw e (holds n C rows (t refl))
  asks_not {C} true t f rest = passes n C rows (f refl) (rest refl)

  pub asks_less : (a b : ℕ) → (b ≤ a → Exactly (says y) rows) → Exactly (says (cond (ltb a b) x y)) (row n (a < b) ∷ rows)
  asks_less a b rest = asks (ltb a b) (ltb-true a b) (λ t h. let k : b ≤ a = ltb-false a b t in omega arith) (λ t. rest (ltb-false a b t))

-- ---- answers that are the number, 0 where a call is accepted

-- no row has the number 0
abbrev pub positive : List Row → Bool
positive [] = true
positive (r ∷ rows) = ltb 0 r.number && positive rows

pub not_nought : (rows : List Row) → positive rows ≡ true → GivenBy 0 rows → ⊥
not_nought [] p g = g
not_nought (r ∷ rows) p g =
    let b = both (ltb 0 r.number) (positive rows) p in
    ⊎_elim (λ h. omega (arith, ltb-true 0 r.number b.0, h.0)) (λ h. not_nought rows b.1 h.1) g

pub as_number : {A : Type 0} (x : Outcome A) (rows : List Row) → positive rows ≡ true → Exactly (verdict x) rows → Exactly (numbered (refusal x)) rows
as_number (refused zero) rows p e = absurd (not_nought rows p ((e.refused_with 0).0 refl))
as_number (refused (suc n)) rows p e = e
as_number (done a) rows p e = e

pub by_number : {A : Type 0} (x : Outcome A) (n : ℕ) → numbered (refusal x) ≡ refused n → x ≡ refused n
by_number (refused zero) n e = absurd (not_refused n e)
by_number (refused (suc m)) n e = ap refused (same_number (suc m) n e)
by_number (done a) n e = absurd (not_refused n e)

-- ---- lent output

-- a refusal leaves it
pub left_refused : {A B : Type 0} (o : Outcome A) (answer out : List B) (n : ℕ) → verdict o ≡ refused n → left o answer out ≡ out
left_refused (refused m) answer out n e = refl
left_refused (done a) answer out n e = absurd (not_refused n e)

-- ---- refused, read off an answer

-- an answer that is refused has the number that it says
pub refused_number : {A : Type 0} (o : Outcome A) → is_refused o ≡ true → o ≡ refused (refusal o)
refused_number (refused k) e = refl
refused_number (done a) e = absurd (clash false e refl)
