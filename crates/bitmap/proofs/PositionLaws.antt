-- Laws of `positions` of `specs/Bitmap.antt`: the set bits below a number, one after the other. Assumes nothing.
use Prim.Native.Nat.{ℕ, zero, suc, ◌+◌, ◌-◌, ◌<◌, ◌≤◌}
use mathlib.Core.Path.{◌≡◌, ap, ◌∙◌, sym}
use mathlib.Core.Bool.{Bool, true, false}
use mathlib.Core.List.{List, [], ◌∷◌, ◌++◌, append-nil, append_assoc}
use native.Mathlib.Omega.{arith}
use native.Mathlib.Numerals.{add-one}
use native.Mathlib.Nat.{add-zero, add-suc}
use lib.ListN.{length, length-append}
use Rattle.bitmap.specs.Bitmap.{has_bit, only_if, positions}

module _ (ws : List ℕ) where
  pub positions_yes : (i : ℕ) → has_bit ws i ≡ true → positions ws (i + 1) ≡ positions ws i ++ (i ∷ [])
  positions_yes i e = ap (positions ws) (add-one i) ∙ ap (λ (b : Bool). positions ws i ++ only_if b i) e

  pub positions_no : (i : ℕ) → has_bit ws i ≡ false → positions ws (i + 1) ≡ positions ws i
  positions_no i e = ap (positions ws) (add-one i) ∙ ap (λ (b : Bool). positions ws i ++ only_if b i) e ∙ append-nil (positions ws i)

  -- those below i stand at the front of those below i + k
  pub more : (i k : ℕ) → (r : List ℕ) × (positions ws (i + k) ≡ positions ws i ++ r)
  more i zero = ([], ap (positions ws) (add-zero i) ∙ sym (append-nil (positions ws i)))
  more i (suc k) =
      let m = more i k in
      let t : List ℕ = only_if (has_bit ws (i + k)) (i + k) in
      (m.0 ++ t, ap (positions ws) (add-suc i k) ∙ ap (λ (l : List ℕ). l ++ t) m.1 ∙ append_assoc (positions ws i) m.0 t)

  -- a set bit in its place among those below n
  pub position_split : (i n : ℕ) → i < n → has_bit ws i ≡ true → (r : List ℕ) × (positions ws n ≡ (positions ws i ++ (i ∷ [])) ++ r)
  position_split i n h e =
      let m = more (i + 1) (n - (i + 1)) in
      let k : (i + 1) + (n - (i + 1)) ≡ n = omega arith in
      (m.0, ap (positions ws) (sym k) ∙ m.1 ∙ ap (λ (l : List ℕ). l ++ m.0) (positions_yes i e))

  pub length_positions : (i : ℕ) → length (positions ws i) ≤ i
  length_positions zero = omega arith
  length_positions (suc i) =
      let r = length_positions i in
      let a = length-append (positions ws i) (only_if (has_bit ws i) i) in
      let b = one_at_most (has_bit ws i) i in
      omega arith
    where
      one_at_most : (b : Bool) (i : ℕ) → length (only_if b i) ≤ 1
      one_at_most true i = omega arith
      one_at_most false i = omega arith

  pub length_more : (i : ℕ) → has_bit ws i ≡ true → length (positions ws (i + 1)) ≡ length (positions ws i) + 1
  length_more i e = ap length (positions_yes i e) ∙ length-append (positions ws i) (i ∷ [])
