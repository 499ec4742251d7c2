-- Laws of `specs/Make.antt`, over the kind of number: a list rises where each element is below the next, and none is below its first. Assumes nothing.
use Prim.Native.Nat.{ℕ, zero, suc, ◌+◌, ◌<◌, ◌≤◌}
use mathlib.Core.Path.{◌≡◌, refl, ap, ◌∙◌, sym, subst}
use mathlib.Core.Logic.{⊎_elim}
use mathlib.Core.Bool.{Bool, true, false, ◌&&◌, and-false}
use mathlib.Core.List.Memᴰ
use mathlib.Core.List.{List, [], ◌∷◌, Memᴰ}
use native.Mathlib.Omega.{arith}
use native.Mathlib.Numerals.{add-one}
use borrow.Author.Rules.{rules}
use lib.ListN.{length, get_or}
use Rattle.std.specs.List.{IsAllAdjacentAnswer}
use Rattle.sequence_number.specs.Kind.{Kind}
use Rattle.sequence_number.specs.Lawful.{Lawful}
use Rattle.number_set.specs.Make.{is_rising, smaller, spanned}
use Rattle.outcome.proofs.Split.{split, both}

module _ {N : Type 0} (k : Kind N) where
  next : {b : Bool} (x : N) (xs : List N) (i : ℕ) (d : N) → b ≡ k.below (get_or xs i d) (get_or (x ∷ xs) (suc i + 1) d) → b ≡ k.below (get_or xs i d) (get_or xs (i + 1) d)
  next x xs i d e = e ∙ ap (λ (n : ℕ). k.below (get_or xs i d) (get_or (x ∷ xs) n d)) (add-one (suc i)) ∙ ap (λ (n : ℕ). k.below (get_or xs i d) (get_or xs n d)) (sym (add-one i))

  all_rise : (xs : List N) → ((i : ℕ) (d : N) → i + 1 < length xs → true ≡ k.below (get_or xs i d) (get_or xs (i + 1) d)) → true ≡ is_rising k xs
  all_rise [] f = refl
  all_rise (x ∷ []) f = refl
  all_rise (x ∷ y ∷ xs) f =
      all_rise (y ∷ xs) (λ i d h. next x (y ∷ xs) i d (f (suc i) d (omega arith))) ∙ ap (λ (b : Bool). b && is_rising k (y ∷ xs)) (f 0 x (omega arith))

  one_falls : (xs : List N) (i : ℕ) → i + 1 < length xs → ((d : N) → false ≡ k.below (get_or xs i d) (get_or xs (i + 1) d)) → false ≡ is_rising k xs
  one_falls [] i h f = absurd (omega arith)
  one_falls (x ∷ []) i h f = absurd (omega arith)
  one_falls (x ∷ y ∷ xs) zero h f = ap (λ (b : Bool). b && is_rising k (y ∷ xs)) (f x)
  one_falls (x ∷ y ∷ xs) (suc i) h f =
      sym (and-false (k.below x y)) ∙ ap (λ (b : Bool). k.below x y && b) (one_falls (y ∷ xs) i (omega arith) (λ d. next x (y ∷ xs) i d (f d)))

  -- what the test of each element and the next answers
  pub rising_answer : (xs : List N) (b : Bool) → IsAllAdjacentAnswer (λ (x y : N) (b : Bool). b ≡ k.below x y) xs b → b ≡ is_rising k xs
  rising_answer xs true f = all_rise xs f
  rising_answer xs false f = one_falls xs f.0 f.1 f.2

module _ {N : Type 0} (k : Kind N) (law : Lawful k) where
  -- a rising list is nowhere below its first
  first_least : (x : N) (xs : List N) → is_rising k (x ∷ xs) ≡ true → (y : N) → Memᴰ y (x ∷ xs) → law.rank x ≤ law.rank y
  first_least x [] r y m = ⊎_elim (λ e. subst (λ (z : N). law.rank x ≤ law.rank z) (sym e) (omega arith)) (λ n. absurd (Memᴰ.not-nil n)) (Memᴰ.cases_cons m)
  first_least x (z ∷ xs) r y m =
      ⊎_elim (λ e. subst (λ (z : N). law.rank x ≤ law.rank z) (sym e) (omega arith))
      (λ n.
      let b = both (k.below x z) (is_rising k (z ∷ xs)) r in
      omega (arith, law.rank_below x z b.0, first_least z xs b.1 y n))
      (Memᴰ.cases_cons m)

  -- no element is below the lower of base and first
  pub none_below : (base x : N) (xs : List N) → is_rising k (x ∷ xs) ≡ true → (y : N) → Memᴰ y (x ∷ xs) → law.rank (smaller k base x) ≤ law.rank y
  none_below base x xs r y m =
      let a = first_least x xs r y m in
      let b : law.rank (smaller k base x) ≤ law.rank x = split (k.below x base) (λ e. rw e (omega arith)) (λ e. rw e (law.rank_above base x e)) in
      omega arith

pub spanned_small : (away : ℕ) → spanned away ≤ 256
spanned_small away = search rules
