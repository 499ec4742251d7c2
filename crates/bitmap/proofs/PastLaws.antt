-- Laws of `any_past`, whether a member is past its type: of joined lists, of one bit more, of two tests that agree. Assumes nothing.
use Prim.Native.Nat.{ℕ, zero, suc, ◌+◌, ◌<◌, ◌≤◌}
use mathlib.Core.Path.{◌≡◌, refl, ap, ◌∙◌, sym}
use mathlib.Core.Bool.{Bool, true, false, not, ◌||◌, or-true, false-or, or_assoc}
use mathlib.Core.List.{List, [], ◌∷◌, ◌++◌, map}
use native.Mathlib.Omega.{arith}
use borrow.Author.Tests.{not-false}
use Rattle.outcome.proofs.Split.{neither}
use Rattle.bitmap.specs.Bitmap.{has_bit, only_if, positions, any_past}
use Rattle.bitmap.proofs.PositionLaws.{positions_yes, position_split}

pub past_append : (fits : ℕ → Bool) (xs ys : List ℕ) → any_past fits (xs ++ ys) ≡ (any_past fits xs || any_past fits ys)
past_append fits [] ys = sym (false-or (any_past fits ys))
past_append fits (x ∷ xs) ys = ap (λ (b : Bool). not (fits x) || b) (past_append fits xs ys) ∙ sym (or_assoc (not (fits x)) (any_past fits xs) (any_past fits ys))

module _ (fits : ℕ → Bool) (ws : List ℕ) (i n : ℕ) (h : i < n) (e : has_bit ws i ≡ true) where
  place : any_past fits (positions ws n) ≡ (any_past fits (positions ws i) || (not (fits i) || false) || any_past fits (position_split ws i n h e).0)
  place =
      let s = position_split ws i n h e in
      ap (any_past fits) s.1
      ∙ past_append fits (positions ws i ++ (i ∷ [])) s.0
      ∙ ap (λ (b : Bool). b || any_past fits s.0) (past_append fits (positions ws i) (i ∷ []))

  -- a member that does not fit is found
  pub past_found : fits i ≡ false → any_past fits (positions ws n) ≡ true
  past_found f =
      place
      ∙ ap (λ (b : Bool). any_past fits (positions ws i) || (not b || false) || any_past fits (position_split ws i n h e).0) f
      ∙ ap (λ (b : Bool). b || any_past fits (position_split ws i n h e).0) (or-true (any_past fits (positions ws i)))

  -- where none is past its type, a member fits
  pub member_fits : any_past fits (positions ws n) ≡ false → fits i ≡ true
  member_fits f =
      let a = (neither (any_past fits (positions ws i) || (not (fits i) || false)) (any_past fits (position_split ws i n h e).0) (sym place ∙ f)).0 in
      let b = (neither (any_past fits (positions ws i)) (not (fits i) || false) a).1 in
      not-false (fits i) (neither (not (fits i)) false b).0

-- one more member that fits
pub past_more : (fits : ℕ → Bool) (ws : List ℕ) (i : ℕ) → has_bit ws i ≡ true → fits i ≡ true → any_past fits (positions ws i) ≡ false
    → any_past fits (positions ws (i + 1)) ≡ false
past_more fits ws i e f p =
    ap (any_past fits) (positions_yes ws i e) ∙ past_append fits (positions ws i) (i ∷ [])
    ∙ (λ k. p k || (not (f k) || false))

-- two tests that agree below 256 find the same
pub past_agree : (f g : ℕ → Bool) (ws : List ℕ) → ((k : ℕ) → k < 256 → f k ≡ g k) → (n : ℕ) → n ≤ 256 → any_past f (positions ws n) ≡ any_past g (positions ws n)
past_agree f g ws a zero h = refl
past_agree f g ws a (suc n) h =
    past_append f (positions ws n) (only_if (has_bit ws n) n)
    ∙ (λ j. past_agree f g ws a n (omega arith) j || last (has_bit ws n) j)
    ∙ sym (past_append g (positions ws n) (only_if (has_bit ws n) n))
  where
    last : (b : Bool) → any_past f (only_if b n) ≡ any_past g (only_if b n)
    last true = ap (λ (x : Bool). not x || false) (a n (omega arith))
    last false = refl

pub past_map : (fits : ℕ → Bool) (g : ℕ → ℕ) (xs : List ℕ) → any_past fits (map g xs) ≡ any_past (λ (i : ℕ). fits (g i)) xs
past_map fits g [] = refl
past_map fits g (x ∷ xs) = ap (λ (b : Bool). not (fits (g x)) || b) (past_map fits g xs)
