-- Laws of a word cut at the count (the contract of `first_bits`): its members among those of the words. Assumes nothing.
use Prim.Native.Nat.{ℕ, ◌+◌, ◌*◌, ◌/◌, ◌%◌, ◌^◌, ◌-◌, ◌<◌, ◌≤◌, min}
use mathlib.Core.Path.{◌≡◌, ap, ◌∙◌, sym}
use mathlib.Core.Bool.{Bool, false, ◌&&◌}
use mathlib.Core.List.{List, [], ◌∷◌, ◌++◌, map}
use native.Mathlib.Omega.{arith}
use native.Mathlib.Decide.{dec_lt}
use lib.ListN.{length, get_or, length-append, length-map}
use lib.Dec.{eqb, ltb}
use lib.Pow.{shr-shr}
use borrow.Author.Tests.{lt-ltb, le-ltb}
use Rattle.outcome.proofs.Split.{neither}
use Rattle.bitmap.specs.Bitmap.{has_bit, positions, any_past}
use Rattle.bitmap.proofs.PositionLaws.{more}
use Rattle.bitmap.proofs.PastLaws.{past_append, past_map}
use Rattle.set_walk.specs.WordPositions.{word_positions}
use Rattle.set_walk.proofs.WordBitLaws.{positions_join, positions_none, has_one, has_word, shifted_bit, shifted_out}

-- the first m bits of a word
abbrev pub FirstBits : ℕ → ℕ → ℕ → Type 0
FirstBits w m r = (i : ℕ) → i < 32 → has_bit (r ∷ []) i ≡ (ltb i m && has_bit (w ∷ []) i)

pub first_some : (w m s : ℕ) → 0 < m → s ≡ 32 - m → m < 32 → FirstBits w m (w / 2 ^ s * 2 ^ s % 4294967296)
first_some w m s g q h i p = go (dec_lt i m)
  where
    go : Dec (i < m) → has_bit (w / 2 ^ s * 2 ^ s % 4294967296 ∷ []) i ≡ (ltb i m && has_bit (w ∷ []) i)
    go (yes a) =
        let e : s + (31 - (s + i)) ≡ 31 - i = omega arith in
        sym (shifted_bit (w / 2 ^ s) s i (omega arith))
        ∙ has_one (w / 2 ^ s) (s + i) (omega arith)
        ∙ ap (λ (x : ℕ). eqb (x % 2) 1) (shr-shr w s (31 - (s + i)) ∙ ap (λ (x : ℕ). w / 2 ^ x) e)
        ∙ sym (has_one w i p)
        ∙ ap (λ (b : Bool). b && has_bit (w ∷ []) i) (sym (lt-ltb i m a))
    go (no a) = shifted_out (w / 2 ^ s) s i p (omega (arith, a)) ∙ ap (λ (b : Bool). b && has_bit (w ∷ []) i) (sym (le-ltb i m (omega (arith, a))))

-- the members of a word, below a count, come after those of the words before it
module _ (ws : List ℕ) (k count w : ℕ) (h : 32 * k < count) (first : FirstBits (get_or ws k 0) (count - 32 * k) w) where
  pub positions_word : positions ws (min (32 * k + 32) count) ≡ positions ws (32 * k) ++ map (λ (i : ℕ). 32 * k + i) (word_positions w)
  unfolding word_positions
  positions_word =
      let m : ℕ = min 32 (count - 32 * k) in
      let a : 32 * k + m ≡ min (32 * k + 32) count = omega arith in
      let b : m + (32 - m) ≡ 32 = omega arith in
      ap (positions ws) (sym a)
      ∙ positions_join ws (w ∷ []) (32 * k) m (λ i p. has_word ws k i (omega arith) ∙ sym (inside i (omega arith) (omega arith)))
      ∙ ap (λ (l : List ℕ). positions ws (32 * k) ++ map (λ (i : ℕ). 32 * k + i) l)
      (sym (positions_none (w ∷ []) m (32 - m) (λ i p. outside (m + i) (omega arith) (omega arith))) ∙ ap (positions (w ∷ [])) b)
    where
      inside : (i : ℕ) → i < 32 → i < count - 32 * k → has_bit (w ∷ []) i ≡ has_bit (get_or ws k 0 ∷ []) i
      inside i p q = first i p ∙ ap (λ (b : Bool). b && has_bit (get_or ws k 0 ∷ []) i) (lt-ltb i (count - 32 * k) q)

      outside : (i : ℕ) → i < 32 → count - 32 * k ≤ i → has_bit (w ∷ []) i ≡ false
      outside i p q = first i p ∙ ap (λ (b : Bool). b && has_bit (get_or ws k 0 ∷ []) i) (le-ltb i (count - 32 * k) q)

-- the word of the positions from 32 * k on, cut at the count
module _ (ws : List ℕ) (k count w : ℕ) (h : 32 * k < count) (first : FirstBits (get_or ws k 0) (count - 32 * k) w) where
  pub after : (r : List ℕ) × (positions ws count ≡ positions ws (min (32 * k + 32) count) ++ r)
  after =
      let m = more ws (min (32 * k + 32) count) (count - min (32 * k + 32) count) in
      let e : min (32 * k + 32) count + (count - min (32 * k + 32) count) ≡ count = omega arith in
      (m.0, ap (positions ws) (sym e) ∙ m.1)

  -- its members fit where all do
  pub word_fits : (fits : ℕ → Bool) → any_past fits (positions ws count) ≡ false → any_past (λ (i : ℕ). fits (32 * k + i)) (word_positions w) ≡ false
  word_fits fits e =
      let q : List ℕ = map (λ (i : ℕ). 32 * k + i) (word_positions w) in
      let a = (neither (any_past fits (positions ws (min (32 * k + 32) count))) (any_past fits after.0) (sym (past_append fits (positions ws (min (32 * k + 32) count)) after.0) ∙ ap (any_past fits) (sym after.1) ∙ e)).0 in
      let b : any_past fits (positions ws (32 * k) ++ q) ≡ false = ap (any_past fits) (sym (positions_word ws k count w h first)) ∙ a in
      let d = (neither (any_past fits (positions ws (32 * k))) (any_past fits q) (sym (past_append fits (positions ws (32 * k)) q) ∙ b)).1 in
      sym (past_map fits (λ (i : ℕ). 32 * k + i) (word_positions w)) ∙ d

  pub lengths : length (positions ws (min (32 * k + 32) count)) ≡ length (positions ws (32 * k)) + length (word_positions w)
  lengths =
      ap length (positions_word ws k count w h first)
      ∙ length-append (positions ws (32 * k)) (map (λ (i : ℕ). 32 * k + i) (word_positions w))
      ∙ ap (λ (n : ℕ). length (positions ws (32 * k)) + n) (length-map (word_positions w) (λ (i : ℕ). 32 * k + i))
