-- What every kind of number has in common: what generic code over it rests on. Assumes nothing.
use Rattle.std.specs.Prelude.{ℕ, ◌+◌, ◌-◌, ◌<◌, ◌≤◌, ◌≡◌, true, false, List, ◌++◌, length}
use Rattle.sequence_number.specs.Kind.{Kind}
use Rattle.sequence_number.specs.declared.ByteOrder.{ByteOrder}

pub record Lawful {N : Type 0} (k : Kind N) : Type 0 where
  pub length_number : (o : ByteOrder) (n : N) → length (k.number_bytes o n) ≡ k.size
  -- where a number stands among the naturals, a negative one at 0
  pub rank : N → ℕ
  pub rank_below : (a b : N) → k.below a b ≡ true → rank a ≤ rank b
  pub rank_above : (a b : N) → k.below b a ≡ false → rank a ≤ rank b
  pub rank_least : rank k.least ≡ 1
  pub apart_rank : (a b : N) → k.apart a b ≡ rank b - rank a
  pub plus_apart : (a b : N) → 1 ≤ rank a → rank a ≤ rank b → k.plus a (k.apart a b) ≡ b
  pub apart_plus : (a : N) (i : ℕ) → 1 ≤ rank a → k.apart a (k.plus a i) ≡ i
  pub below_plus : (b : N) (i j : ℕ) → i < j → k.below (k.plus b i) (k.plus b j) ≡ true
  pub fits_below : (b : N) (i j : ℕ) → i ≤ j → k.fits b j ≡ true → k.fits b i ≡ true

-- a number that the type holds is read back where it was written
abbrev pub ReadsBack : {N : Type 0} → Kind N → (N → Type 0) → Type 0
ReadsBack {N} k Valid = (o : ByteOrder) (n : N) (rest : List ℕ) → Valid n → k.number_at o (k.number_bytes o n ++ rest) 0 ≡ n
