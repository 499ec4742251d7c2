-- Laws of the bits of `specs/Bitmap.antt`: what an "or" sets, and which bits are set after that. Assumes nothing.
use Prim.Native.Nat.{ℕ, ◌*◌, ◌/◌, ◌%◌, ◌^◌, ◌-◌, ◌<◌, ◌≤◌}
use mathlib.Core.Path.{◌≡◌, ap, ◌∙◌}
use mathlib.Core.Bool.{false, ◌||◌}
use mathlib.Core.List.{List}
use native.Mathlib.Omega.{arith}
use native.Mathlib.Nat.{zero-div}
use lib.ListN.{length, get_or-eq_default}
use lib.Dec.{eqb}
use lib.Bits.{bit_or}
use Rattle.bitmap.proofs.WidthLaws.{one_within, or_sets}
use Rattle.bitmap.proofs.WidthLaws as width
use Rattle.bitmap.specs.Bitmap.{has_bit, with_bit, set_bit}

-- past the words there is no bit
pub has_past : (ws : List ℕ) (i : ℕ) → length ws ≡ 8 → 256 ≤ i → has_bit ws i ≡ false
has_past ws i n h =
    let p : length ws ≤ i / 32 = omega arith in
    ap (λ (w : ℕ). eqb (w / 2 ^ (31 - i % 32) % 2) 1) (get_or-eq_default ws 0 p)
    ∙ ap (λ (w : ℕ). eqb (w % 2) 1) (zero-div (2 ^ (31 - i % 32)))

-- an "or" with a power of two, as a shift of one makes it, sets its bit
pub or_one : (w s : ℕ) → s < 32 → bit_or w (1 * 2 ^ s % 4294967296) ≡ with_bit w s
or_one w s h = ap (bit_or w) (one_within s 32 h) ∙ or_sets w s

-- after bit i was set, the bits are those before, and i
pub set_has : (ws : List ℕ) (i j : ℕ) → i / 32 < length ws → has_bit (set_bit ws i) j ≡ (has_bit ws j || eqb i j)
set_has ws i j h = width.set_has 32 (λ (n : ℕ). 31 - n % 32) (λ x y e f. omega arith) ws i j h
