-- Laws of `set_bits` of `specs/Marking.antt`: one element of a list more, where its place is below the count and where it is not. Assumes nothing.
use Prim.Native.Nat.{ℕ, ◌+◌, ◌<◌, ◌≤◌}
use mathlib.Core.Path.{◌≡◌, ap, ◌∙◌, sym}
use mathlib.Core.Bool.{Bool, cond}
use mathlib.Core.List.{List}
use lib.Dec.{ltb}
use lib.ListN.{length, get_or, drop}
use borrow.Author.Tests.{lt-ltb, le-ltb}
use Rattle.std.proofs.lemmas.List.{at_drop_more}
use Rattle.bitmap.specs.Bitmap.{set_bit}
use Rattle.bitmap.specs.Marking.{set_bits}

module _ {A : Type 0} (place : A → ℕ) (count : ℕ) (xs : List A) (i : ℕ) (x : A) (p : ℕ) (ws after : List ℕ) (h : i < length xs) (here : x ≡ get_or xs i x) (at : p ≡ place x)
    (before : set_bits place count ws (drop i xs) ≡ after) where
  more : (ws' : List ℕ) → ws' ≡ cond (ltb p count) (set_bit ws p) ws → set_bits place count ws' (drop (i + 1) xs) ≡ after
  more ws' e =
      ap (λ (v : List ℕ). set_bits place count v (drop (i + 1) xs))
      (e ∙ ap (λ (n : ℕ). cond (ltb n count) (set_bit ws n) ws) (at ∙ ap place here))
      ∙ sym (at_drop_more (set_bits place count ws) xs i x h)
      ∙ before

  pub mark_yes : (ws' : List ℕ) → p < count → ws' ≡ set_bit ws p → set_bits place count ws' (drop (i + 1) xs) ≡ after
  mark_yes ws' l e = more ws' (e ∙ sym (ap (λ (b : Bool). cond b (set_bit ws p) ws) (lt-ltb p count l)))

  pub mark_no : (ws' : List ℕ) → count ≤ p → ws' ≡ ws → set_bits place count ws' (drop (i + 1) xs) ≡ after
  mark_no ws' l e = more ws' (e ∙ sym (ap (λ (b : Bool). cond b (set_bit ws p) ws) (le-ltb p count l)))
