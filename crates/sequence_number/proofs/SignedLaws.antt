-- Laws of signed numbers as the machine reads them back. Assumes nothing.
use Prim.Native.Nat.{◌^◌, ◌<◌}
use mathlib.Core.Path.{◌≡◌, ◌∙◌, sym}
use mathlib.Core.Bool.{Bool}
use lib.IntN.{ℤ}
use lib.Signed.{mag, lt_z}
use mir.Syntax.{w64}
use mir.Val.{of_z, to_z}
use mir.Facts.{to_z-of_z}

-- a test of two numbers as the machine reads them back is the test of the numbers
pub test_back : (x y : ℤ) {b : Bool} → mag x < 2 ^ 63 → mag y < 2 ^ 63 → lt_z (to_z w64 (of_z w64 x)) (to_z w64 (of_z w64 y)) ≡ b → lt_z x y ≡ b
test_back x y f g t =
    sym (λ i. lt_z (to_z-of_z {w = w64} {z = x} (record { sfits = f }) i) (to_z-of_z {w = w64} {z = y} (record { sfits = g }) i)) ∙ t
