-- Both kinds of number are `Lawful`. Proofs, and nothing to believe: they stand here since an `impl` of a trait with laws may cite no proof of its own crate. Assumes nothing.
use Prim.Native.Nat.{ℕ, suc, ◌+◌, ◌-◌, ◌/◌, ◌%◌, ◌^◌, ◌<◌, ◌≤◌}
use mathlib.Core.Path.{◌≡◌, refl, ap}
use mathlib.Core.Logic.{◌⊎◌, inl, inr}
use mathlib.Core.Bool.{true, false}
use native.Mathlib.Omega.{arith}
use native.Mathlib.Decide.{dec_lt}
use lib.ListN.{length, length-append}
use lib.Dec.{ltb}
use lib.IntN.{ℤ, pos, negsuc, ◌+ℤ◌}
use lib.Signed.{lt_z}
use Rattle.sequence_number.specs.Number.{nat_of}
use mir.Syntax.{w64}
use mir.Val.{of_z}
use borrow.Author.Tests.{lt-ltb, le-ltb, ltb-true, ltb-false}
use Rattle.sequence_number.specs.Word.{word_bytes}
use Rattle.sequence_number.specs.Lawful.{Lawful}
use Rattle.sequence_number.specs.Kind.{sequence_number, fragment_number, sequence_bytes}
use Rattle.sequence_number.specs.declared.ByteOrder.{ByteOrder}
use Rattle.sequence_number.specs.declared.ByteOrder.TheVariants.{Big, Little}
use Rattle.outcome.proofs.Split.{split_lt}

pub length_bytes : (o : ByteOrder) (v : ℕ) → length (word_bytes o v) ≡ 4
length_bytes Big v = refl
length_bytes Little v = refl

pub length_sequence : (o : ByteOrder) (n : ℤ) → length (sequence_bytes o n) ≡ 8
length_sequence o n =
    let a = length_bytes o (of_z w64 n / 2 ^ 32) in
    let b = length_bytes o (of_z w64 n % 2 ^ 32) in
    omega (arith, length-append (word_bytes o (of_z w64 n / 2 ^ 32)) (word_bytes o (of_z w64 n % 2 ^ 32)))

pub rank_below : (a b : ℤ) → lt_z a b ≡ true → nat_of a ≤ nat_of b
rank_below (pos a) (pos b) h = omega (arith, ltb-true a b h)
rank_below (pos a) (negsuc b) h = let z : ◌≡◌ {A = ℕ} 0 1 = cc in omega arith
rank_below (negsuc a) b h = omega arith

pub rank_above : (a b : ℤ) → lt_z b a ≡ false → nat_of a ≤ nat_of b
rank_above (pos a) (pos b) h = omega (arith, ltb-false b a h)
rank_above (pos a) (negsuc b) h = let z : ◌≡◌ {A = ℕ} 0 1 = cc in omega arith
rank_above (negsuc a) b h = omega arith

pub plus_apart : (a b : ℤ) → 1 ≤ nat_of a → nat_of a ≤ nat_of b → a +ℤ pos (nat_of b - nat_of a) ≡ b
plus_apart (pos a) (pos b) h l = ap pos (omega arith)
plus_apart (pos a) (negsuc b) h l = absurd (omega arith)
plus_apart (negsuc a) b h l = absurd (omega arith)

pub apart_plus : (a : ℤ) (i : ℕ) → 1 ≤ nat_of a → nat_of (a +ℤ pos i) - nat_of a ≡ i
apart_plus (pos a) i h = omega arith
apart_plus (negsuc a) i h = absurd (omega arith)

pub below_plus : (b : ℤ) (i j : ℕ) → i < j → lt_z (b +ℤ pos i) (b +ℤ pos j) ≡ true
below_plus (pos b) i j h = lt-ltb (b + i) (b + j) (omega arith)
below_plus (negsuc b) i j h = go (split_lt i (suc b)) (split_lt j (suc b))
  where
    go : (i < suc b) ⊎ (suc b ≤ i) → (j < suc b) ⊎ (suc b ≤ j) → lt_z (negsuc b +ℤ pos i) (negsuc b +ℤ pos j) ≡ true
    go (inl p) (inl q) = rw (lt-ltb i (suc b) p, lt-ltb j (suc b) q) (lt-ltb (suc b - suc j) (suc b - suc i) (omega arith))
    go (inl p) (inr q) = rw (lt-ltb i (suc b) p, le-ltb j (suc b) q)
    go (inr p) (inl q) = absurd (omega arith)
    go (inr p) (inr q) = rw (le-ltb i (suc b) p, le-ltb j (suc b) q) (lt-ltb (i - suc b) (j - suc b) (omega arith))

-- a position below one that fits, fits
pub fits_below : (b : ℤ) (k m : ℕ) → k ≤ m → sequence_number.fits b m ≡ true → sequence_number.fits b k ≡ true
fits_below (pos a) k m h t = lt-ltb (a + k) (2 ^ 63) (omega (arith, ltb-true (a + m) (2 ^ 63) t))
fits_below (negsuc a) k m h t = go (dec_lt k (suc a)) (dec_lt m (suc a)) t
  where
    go : Dec (k < suc a) → Dec (m < suc a) → sequence_number.fits (negsuc a) m ≡ true → sequence_number.fits (negsuc a) k ≡ true
    go (yes p) q u = rw (lt-ltb k (suc a) p)
    go (no p) (yes q) u = absurd (omega (arith, p))
    go (no p) (no q) u =
        let v : ltb (m - suc a) (2 ^ 63) ≡ true = rw (le-ltb m (suc a) (omega (arith, q))) at u in
        rw (le-ltb k (suc a) (omega (arith, p))) (lt-ltb (k - suc a) (2 ^ 63) (omega (arith, p, ltb-true (m - suc a) (2 ^ 63) v)))

abbrev pub sequence_lawful : Lawful sequence_number
sequence_lawful =
    record {
      length_number = length_sequence;
      rank = nat_of;
      rank_below = rank_below;
      rank_above = rank_above;
      rank_least = refl;
      apart_rank = λ a b. refl;
      plus_apart = plus_apart;
      apart_plus = apart_plus;
      below_plus = below_plus;
      fits_below = fits_below;
    }

abbrev pub fragment_lawful : Lawful fragment_number
fragment_lawful =
    record {
      length_number = length_bytes;
      rank = λ n. n;
      rank_below = λ a b h. omega (arith, ltb-true a b h);
      rank_above = λ a b h. omega (arith, ltb-false b a h);
      rank_least = refl;
      apart_rank = λ a b. refl;
      plus_apart = λ a b h l. omega arith;
      apart_plus = λ a i h. omega arith;
      below_plus = λ b i j h. lt-ltb (b + i) (b + j) (omega arith);
      fits_below = λ b i j h t. lt-ltb (b + i) (2 ^ 32) (omega (arith, ltb-true (b + j) (2 ^ 32) t));
    }
