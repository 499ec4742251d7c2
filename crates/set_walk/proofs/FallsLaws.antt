-- The invariant of the falling walk of one word, `Falls`: the bits from j on are walked, and w is what is left. Assumes nothing.
use Prim.Native.Nat.{ℕ, ◌+◌, ◌/◌, ◌%◌, ◌^◌, ◌-◌, ◌<◌, ◌≤◌}
use mathlib.Core.Path.{◌≡◌, ap, ◌∙◌, sym}
use mathlib.Core.Bool.{Bool, true, false}
use mathlib.Core.List.{List, [], ◌∷◌, map, reverse}
use native.Mathlib.Omega.{arith}
use native.Mathlib.Decide.{dec_lt}
use native.Mathlib.Nat.{div-eq_of_lt}
use lib.ListN.{length, set}
use lib.Seq.{sets}
use lib.Dec.{eqb}
use lib.Pow.{shr-shr}
use borrow.Author.Tests.{eq-eqb, ne_eqb}
use Rattle.bitmap.specs.Bitmap.{has_bit, any_past}
use Rattle.bitmap.proofs.PastLaws.{member_fits}
use Rattle.set_walk.specs.WordPositions.{word_positions}
use Rattle.set_walk.proofs.WordBitLaws.{has_one, none_left}
use Rattle.set_walk.proofs.FallingLaws.{Falling, falling_yes, falling_no, falling_room, falling_long, falling_done}

pub record Falls {A : Type 0} (f : ℕ → A) (from word : ℕ) (out₀ : List A) (place : ℕ) (out : List A) (n w i : ℕ) : Type 0 where
  pub j : ℕ
  pub here : i ≡ from + j
  pub few : j ≤ 32
  pub rest : w ≡ word / 2 ^ (32 - j)
  pub falling : Falling f (word ∷ []) 32 out₀ place out n j

module _ {A : Type 0} {f : ℕ → A} {from word : ℕ} {out₀ : List A} {place : ℕ} {out : List A} {n w i : ℕ} (l : Falls f from word out₀ place out n w i) (small : word < 4294967296) where
  pub falls_more : 0 < w → 0 < l.j
  falls_more p = go (dec_lt 0 l.j)
    where
      go : Dec (0 < l.j) → 0 < l.j
      go (yes h) = h
      go (no h) =
          let e : l.j ≡ 0 = omega (arith, h) in
          let z : w ≡ 0 = l.rest ∙ ap (λ (k : ℕ). word / 2 ^ (32 - k)) e ∙ div-eq_of_lt small in
          absurd (omega arith)

  module _ (p : 0 < w) where
    low_bit : has_bit (word ∷ []) (l.j - 1) ≡ eqb (w % 2) 1
    low_bit =
        let h = falls_more p in
        let e : 31 - (l.j - 1) ≡ 32 - l.j = omega (arith, l.few) in
        has_one word (l.j - 1) (omega (arith, l.few)) ∙ ap (λ (k : ℕ). eqb (word / 2 ^ k % 2) 1) e ∙ ap (λ (x : ℕ). eqb (x % 2) 1) (sym l.rest)

    half : w / 2 ≡ word / 2 ^ (32 - (l.j - 1))
    half =
        let h = falls_more p in
        let e : (32 - l.j) + 1 ≡ 32 - (l.j - 1) = omega (arith, l.few) in
        ap (λ (x : ℕ). x / 2) l.rest ∙ shr-shr word (32 - l.j) 1 ∙ ap (λ (k : ℕ). word / 2 ^ k) e

    pub falls_bit : w % 2 ≡ 1 → has_bit (word ∷ []) (l.j - 1) ≡ true
    falls_bit q = low_bit ∙ eq-eqb (w % 2) 1 q

    pub falls_yes : w % 2 ≡ 1 → Falls f from word out₀ place (set out n (f (l.j - 1))) (n + 1) (w / 2) (i - 1)
    falls_yes q =
        let h = falls_more p in
        record {
          j = l.j - 1;
          here = omega (arith, l.here);
          few = omega (arith, l.few);
          rest = half;
          falling = falling_yes l.falling h (falls_bit q);
        }

    pub falls_no : (w % 2 ≡ 1 → ⊥) → Falls f from word out₀ place out n (w / 2) (i - 1)
    falls_no q =
        let h = falls_more p in
        record {
          j = l.j - 1;
          here = omega (arith, l.here);
          few = omega (arith, l.few);
          rest = half;
          falling = falling_no l.falling h (low_bit ∙ ne_eqb (w % 2) 1 q);
        }

    pub falls_room : w % 2 ≡ 1 → place + length (word_positions word) ≤ length out₀ → n < length out
    unfolding word_positions
    falls_room q r = falling_room l.falling (falls_more p) (falls_bit q) r

    pub falls_fits : (fits : ℕ → Bool) → w % 2 ≡ 1 → any_past fits (word_positions word) ≡ false → fits (l.j - 1) ≡ true
    unfolding word_positions
    falls_fits fits q e =
        let h = falls_more p in
        member_fits fits (word ∷ []) (l.j - 1) 32 (omega (arith, l.few)) (falls_bit q) e

  pub falls_long : length out ≡ length out₀
  falls_long = falling_long l.falling

  pub falls_done : w ≡ 0
      → record { value : n ≡ place + length (word_positions word); out_after : out ≡ sets out₀ place (map f (reverse (word_positions word))) }
  unfolding word_positions
  falls_done z = falling_done l.falling (none_left word l.j l.few (sym l.rest ∙ z))
