-- Laws of `specs/Kind.antt`: the two words of a sequence number, and that a number of either kind is read back. Assumes nothing.
use Prim.Native.Nat.{ℕ, suc, ◌+◌, ◌*◌, ◌-◌, ◌/◌, ◌%◌, ◌^◌, ◌<◌}
use mathlib.Core.Path.{◌≡◌, ap, ◌∙◌, sym}
use mathlib.Core.List.{List, ◌++◌, append_assoc}
use mathlib.Core.Logic.{◌⊎◌, ⊎_elim}
use native.Mathlib.Omega.{arith}
use lib.ListN.{length}
use lib.IntN.{ℤ, pos, negsuc, ◌+ℤ◌, ◌*ℤ◌}
use mir.Syntax.{w32, w64}
use mir.Val.{Fits, SFits, of_z, to_z}
use mir.Facts.{to_z-of_z, to_z_pos, to_z-neg, Fits-of_z}
use borrow.Author.Tests.{lt-ltb}
use Rattle.sequence_number.specs.Word.{word_at, word_bytes}
use Rattle.sequence_number.specs.Lawful.{ReadsBack}
use Rattle.sequence_number.specs.Kind.{sequence_number, fragment_number}
use Rattle.outcome.proofs.Split.{split_lt}
use Rattle.sequence_number.specs.Keeps.{length_bytes}
use Rattle.sequence_number.proofs.WordLaws.{word_bytes_lem, word_append}

-- high * 2^32 + low, with the high word signed, is the 64 bits read as signed
halves_pos : (hi lo : ℕ) → hi < 2 ^ 31 → lo < 2 ^ 32 → to_z w64 (hi * 4294967296 + lo) ≡ to_z w32 hi *ℤ pos (2 ^ 32) +ℤ pos lo
halves_pos hi lo h l =
    to_z_pos w64 {n = hi * 4294967296 + lo} (omega arith) ∙ ap (λ (z : ℤ). z *ℤ pos (2 ^ 32) +ℤ pos lo) (sym (to_z_pos w32 {n = hi} (omega arith)))

halves_neg : (k lo : ℕ) → lo < 2 ^ 32 → negsuc ((k * 4294967296 + 4294967295) - lo) ≡ negsuc k *ℤ pos (2 ^ 32) +ℤ pos lo
halves_neg k lo l =
    let m : ℕ = k * 4294967296 + 4294967295 in
    let e : suc k * 4294967296 ≡ suc m = omega arith in
    let f : m - lo ≡ suc m - suc lo = omega arith in
    rw (e, lt-ltb lo (suc m) (omega arith)) (ap negsuc f)

pub halves : (hi lo : ℕ) → hi < 2 ^ 32 → lo < 2 ^ 32 → to_z w64 (hi * 4294967296 + lo) ≡ to_z w32 hi *ℤ pos (2 ^ 32) +ℤ pos lo
halves hi lo h l =
    ⊎_elim (λ p. halves_pos hi lo p l)
    (λ p.
    let k : ℕ = 4294967295 - hi in
    let m : ℕ = (k * 4294967296 + 4294967295) - lo in
    let e : hi * 4294967296 + lo ≡ 2 ^ 64 - suc m = omega arith in
    let f : hi ≡ 2 ^ 32 - suc k = omega arith in
    ap (to_z w64) e
    ∙ to_z-neg w64 m (omega arith)
    ∙ halves_neg k lo l
    ∙ ap (λ (z : ℤ). z *ℤ pos (2 ^ 32) +ℤ pos lo) (sym (ap (to_z w32) f ∙ to_z-neg w32 k (omega arith))))
    (split_lt hi (2 ^ 31))

-- a sequence number that was written is read back
pub sequence_back : ReadsBack sequence_number (SFits w64)
sequence_back o n rest f =
    let u : ℕ = of_z w64 n in
    let hi : List ℕ = word_bytes o (u / 4294967296) in
    let lo : List ℕ = word_bytes o (u % 4294967296) in
    let b : u < 2 ^ 64 = (Fits-of_z {w = w64} {z = n} f).fits in
    let whole : u / 4294967296 * 4294967296 + u % 4294967296 ≡ u = omega arith in
    let at4 : 4 ≡ length hi + 0 = omega (arith, length_bytes o (u / 4294967296)) in
    let first : word_at o ((hi ++ lo) ++ rest) 0 ≡ u / 4294967296 = rw append_assoc (word_bytes_lem o (u / 4294967296) (lo ++ rest) (omega arith)) in
    let second : word_at o ((hi ++ lo) ++ rest) 4 ≡ u % 4294967296 =
    rw append_assoc (word_append hi (lo ++ rest) o 4 0 at4 ∙ word_bytes_lem o (u % 4294967296) rest (omega arith)) in
    (λ i. to_z w32 (first i) *ℤ pos (2 ^ 32) +ℤ pos (second i))
    ∙ sym (halves (u / 4294967296) (u % 4294967296) (omega arith) (omega arith))
    ∙ ap (to_z w64) whole
    ∙ to_z-of_z {w = w64} {z = n} f

-- and so is a fragment number
pub fragment_back : ReadsBack fragment_number (Fits w32)
fragment_back o n rest f = word_bytes_lem o n rest f.fits
