-- Laws of the bits of words of any width: what an "or" sets, which bits are set after that, the bits of a complement, and where the lowest set bit is.
-- Assumes nothing.
use Prim.Native.Nat.{ℕ, zero, suc, ◌+◌, ◌*◌, ◌/◌, ◌%◌, ◌^◌, ◌-◌, ◌<◌, max}
use native.Mathlib.Omega.{arith}
use native.Mathlib.Decide.{ℕ_discrete}
use native.Mathlib.Nat.{pow-suc, not-suc-le-zero}
use mathlib.Core.Path.{◌≡◌, ap, ◌∙◌, sym}
use mathlib.Core.Bool.{Bool, ◌||◌, or-false, or-true}
use mathlib.Core.Logic.{⊎_elim}
use mathlib.Core.List.{List}
use lib.ListN.{length, get_or, set}
use lib.Seq.{get_or-set_same, get_or-set_other}
use lib.Dec.{eqb}
use lib.Pow.{pow_pos}
use lib.Bits.{bit_and, bit_or, or_add_and}
use lib.Count.{count_trailing_zeros, under}
use borrow.Author.Tests.{eq-eqb, ne_eqb}
use Rattle.std.specs.Int.{bit_at}
use Rattle.std.proofs.lemmas.Nat.{one_shl}
use Rattle.std.proofs.lemmas.Nat.Bits.{bit_at-suc, bit_at_or, bit_at-pow_same, bit_at-pow_other, and_pow}
use Rattle.outcome.proofs.Split.{split_eq}
use Rattle.bitmap.specs.Bitmap.{with_bit}

-- ---- one bit set

-- the shift of a one inside a word of k bits loses nothing
pub one_within : (s k : ℕ) → s < k → 1 * 2 ^ s % 2 ^ k ≡ 2 ^ s
one_within = one_shl

-- an "or" with a power of two sets its bit
pub or_sets : (w s : ℕ) → bit_or w (2 ^ s) ≡ with_bit w s
or_sets w s = go (ℕ_discrete (w / 2 ^ s % 2) 0)
  where
    a : bit_or w (2 ^ s) + bit_and w (2 ^ s) ≡ w + 2 ^ s
    a = or_add_and w (2 ^ s)

    go : Dec (w / 2 ^ s % 2 ≡ 0) → bit_or w (2 ^ s) ≡ with_bit w s
    go (yes e) =
        let b : bit_and w (2 ^ s) ≡ 0 * 2 ^ s = and_pow w s ∙ ap (λ (k : ℕ). k * 2 ^ s) e in
        let c : bit_or w (2 ^ s) ≡ w + (1 - 0) * 2 ^ s = omega (arith, a) in
        c ∙ ap (λ (k : ℕ). w + (1 - k) * 2 ^ s) (sym e)
    go (no f) =
        let e : w / 2 ^ s % 2 ≡ 1 = omega (arith, f) in
        let b : bit_and w (2 ^ s) ≡ 1 * 2 ^ s = and_pow w s ∙ ap (λ (k : ℕ). k * 2 ^ s) e in
        let c : bit_or w (2 ^ s) ≡ w + (1 - 1) * 2 ^ s = omega (arith, a) in
        c ∙ ap (λ (k : ℕ). w + (1 - k) * 2 ^ s) (sym e)

-- bit t of a word after bit s was set
set_bit_lem : (w s t : ℕ) → bit_at (with_bit w s) t ≡ max (bit_at w t) (bit_at (2 ^ s) t)
set_bit_lem w s t = ap (λ (x : ℕ). bit_at x t) (sym (or_sets w s)) ∙ bit_at_or w (2 ^ s) t

-- Bits in words of k: bit i stands in word i / k, at a place that tells it from the others of its word.
module _ (k : ℕ) (place : ℕ → ℕ) (apart : (i j : ℕ) → i / k ≡ j / k → place i ≡ place j → i ≡ j) where
  abbrev has : List ℕ → ℕ → Bool
  has ws i = eqb (get_or ws (i / k) 0 / 2 ^ place i % 2) 1

  abbrev with : List ℕ → ℕ → List ℕ
  with ws i = set ws (i / k) (with_bit (get_or ws (i / k) 0) (place i))

  module _ (ws : List ℕ) (i j : ℕ) (h : i / k < length ws) where
    same_word : j / k ≡ i / k → get_or (with ws i) (j / k) 0 ≡ with_bit (get_or ws (j / k) 0) (place i)
    same_word e =
        ap (λ (n : ℕ). get_or (with ws i) n 0) e
        ∙ get_or-set_same ws (i / k) (with_bit (get_or ws (i / k) 0) (place i)) 0 h
        ∙ ap (λ (n : ℕ). with_bit (get_or ws n 0) (place i)) (sym e)

    other_word : (j / k ≡ i / k → ⊥) → has (with ws i) j ≡ (has ws j || eqb i j)
    other_word ne =
        ap (λ (w : ℕ). eqb (w / 2 ^ place j % 2) 1) (get_or-set_other ws (i / k) (j / k) (with_bit (get_or ws (i / k) 0) (place i)) 0 ne)
        ∙ sym (or-false (has ws j))
        ∙ ap (λ (b : Bool). has ws j || b) (sym (ne_eqb i j (λ e. ne (ap (λ (n : ℕ). n / k) (sym e)))))

    in_word : j / k ≡ i / k → Dec (i ≡ j) → has (with ws i) j ≡ (has ws j || eqb i j)
    in_word e (yes p) =
        let w : ℕ = get_or ws (j / k) 0 in
        let q : 2 ^ place i / 2 ^ place j % 2 ≡ 1 = ap (λ (n : ℕ). 2 ^ place i / 2 ^ place n % 2) (sym p) ∙ bit_at-pow_same (place i) in
        let b : with_bit w (place i) / 2 ^ place j % 2 ≡ 1 = set_bit_lem w (place i) (place j) ∙ omega arith in
        ap (λ (x : ℕ). eqb (x / 2 ^ place j % 2) 1) (same_word e)
        ∙ ap (λ (x : ℕ). eqb x 1) b
        ∙ sym (or-true (has ws j))
        ∙ ap (λ (z : Bool). has ws j || z) (sym (eq-eqb i j p))
    in_word e (no ne) =
        let w : ℕ = get_or ws (j / k) 0 in
        let q : 2 ^ place i / 2 ^ place j % 2 ≡ 0 = bit_at-pow_other (place i) (place j) (λ r. ne (apart i j (sym e) (sym r))) in
        let b : with_bit w (place i) / 2 ^ place j % 2 ≡ w / 2 ^ place j % 2 = set_bit_lem w (place i) (place j) ∙ omega arith in
        ap (λ (x : ℕ). eqb (x / 2 ^ place j % 2) 1) (same_word e)
        ∙ ap (λ (x : ℕ). eqb x 1) b
        ∙ sym (or-false (has ws j))
        ∙ ap (λ (z : Bool). has ws j || z) (sym (ne_eqb i j ne))

    -- after bit i was set, the bits are those before, and i
    pub set_has : has (with ws i) j ≡ (has ws j || eqb i j)
    set_has = go (ℕ_discrete (j / k) (i / k))
      where
        go : Dec (j / k ≡ i / k) → has (with ws i) j ≡ (has ws j || eqb i j)
        go (yes e) = in_word e (ℕ_discrete i j)
        go (no ne) = other_word ne

-- ---- the complement

-- of a word and its complement one has the bit
pub complement_bit : (k b w c : ℕ) → b < k → c + w ≡ 2 ^ k - 1 → c / 2 ^ b % 2 + w / 2 ^ b % 2 ≡ 1
complement_bit zero b w c h e = absurd (not-suc-le-zero h)
complement_bit (suc k) zero w c h e = omega (arith, pow-suc 2 k, pow_pos k)
complement_bit (suc k) (suc b) w c h e =
    let q : c / 2 + w / 2 ≡ 2 ^ k - 1 = omega (arith, pow-suc 2 k, pow_pos k) in
    rw (bit_at-suc c b, bit_at-suc w b) (complement_bit k b (w / 2) (c / 2) (omega arith) q)

-- ---- the lowest set bit

under_even : (d t : ℕ) → d ≡ 0 → under d t ≡ suc t
under_even d t e = rw e

under_odd : (d t : ℕ) → d ≡ 1 → under d t ≡ 0
under_odd d t e = rw e

below_step : (x t : ℕ) → ((b : ℕ) → b < t → x / 2 / 2 ^ b % 2 ≡ 0) → (b : ℕ) → b < under (x % 2) t → x / 2 ^ b % 2 ≡ 0
below_step x t ih b h =
    ⊎_elim (λ e. even b e (rw (under_even (x % 2) t e) at h)) (λ n. let o : x % 2 ≡ 1 = omega (arith, n) in absurd (not-suc-le-zero (rw (under_odd (x % 2) t o) at h)))
    (split_eq (x % 2) 0)
  where
    even : (b : ℕ) → x % 2 ≡ 0 → b < suc t → x / 2 ^ b % 2 ≡ 0
    even zero e l = omega arith
    even (suc b) e l = bit_at-suc x b ∙ ih b (omega arith)

-- below it every bit is 0
pub trailing_below : (k x b : ℕ) → b < count_trailing_zeros k x → x / 2 ^ b % 2 ≡ 0
unfolding count_trailing_zeros
trailing_below zero x b h = absurd (not-suc-le-zero h)
trailing_below (suc k) x b h = below_step x (count_trailing_zeros k (x / 2)) (λ i l. trailing_below k (x / 2) i l) b h

-- and it is set, where one of k bits is
pub trailing_at : (k x : ℕ) → 0 < x → x < 2 ^ k → (count_trailing_zeros k x < k) × (x / 2 ^ count_trailing_zeros k x % 2 ≡ 1)
unfolding count_trailing_zeros
trailing_at zero x p h = absurd (omega arith)
trailing_at (suc k) x p h =
    ⊎_elim
    (λ e.
    let ih = trailing_at k (x / 2) (omega arith) (omega (arith, pow-suc 2 k)) in
    rw (under_even (x % 2) (count_trailing_zeros k (x / 2)) e) (omega (arith, ih.0), bit_at-suc x (count_trailing_zeros k (x / 2)) ∙ ih.1))
    (λ n.
    let o : x % 2 ≡ 1 = omega (arith, n) in
    rw (under_odd (x % 2) (count_trailing_zeros k (x / 2)) o) (omega arith, omega arith))
    (split_eq (x % 2) 0)
