-- Laws of the bits of one word: `word_positions w` of `specs/WordPositions.antt`. Assumes nothing.
use Prim.Native.Nat.{ℕ, zero, suc, ◌+◌, ◌*◌, ◌/◌, ◌%◌, ◌^◌, ◌-◌, ◌<◌, ◌≤◌}
use mathlib.Core.Path.{◌≡◌, refl, ap, ◌∙◌, sym, subst}
use mathlib.Core.Bool.{Bool, true, false}
use mathlib.Core.List.{List, [], ◌∷◌, ◌++◌, map, append-nil, append_assoc, map-append}
use native.Mathlib.Omega.{arith}
use native.Mathlib.Decide.{dec_lt}
use native.Mathlib.Nat.{add-zero, add-suc, mul_assoc, mul-mod_left, mul-div-mul_right}
use lib.ListN.{length, get_or, length-append}
use lib.Dec.{eqb}
use lib.Pow.{pow-add, pow_pos, shl-shr, shr-shr, field, mod-mod-pow}
use borrow.Author.Tests.{eq-eqb}
use Rattle.bitmap.specs.Bitmap.{has_bit, only_if, positions}
use Rattle.set_walk.specs.WordPositions.{word_positions}

-- ---- lists of positions

-- where the bits from a on are those of other words, so are the positions
pub positions_join : (xs ys : List ℕ) (a m : ℕ) → ((i : ℕ) → i < m → has_bit xs (a + i) ≡ has_bit ys i)
    → positions xs (a + m) ≡ positions xs a ++ map (λ (i : ℕ). a + i) (positions ys m)
positions_join xs ys a zero h = ap (positions xs) (add-zero a) ∙ sym (append-nil (positions xs a))
positions_join xs ys a (suc m) h =
    ap (positions xs) (add-suc a m)
    ∙ (λ j. positions_join xs ys a m (λ i p. h i (omega arith)) j ++ only_if (h m (omega arith) j) (a + m))
    ∙ append_assoc (positions xs a) (map (λ (i : ℕ). a + i) (positions ys m)) (only_if (has_bit ys m) (a + m))
    ∙ ap (λ (l : List ℕ). positions xs a ++ l)
    (ap (λ (l : List ℕ). map (λ (i : ℕ). a + i) (positions ys m) ++ l) (moved (has_bit ys m)) ∙ sym (map-append (λ (i : ℕ). a + i) (positions ys m) (only_if (has_bit ys m) m)))
  where
    moved : (b : Bool) → only_if b (a + m) ≡ map (λ (i : ℕ). a + i) (only_if b m)
    moved true = refl
    moved false = refl

-- bits that are not set add nothing
pub positions_none : (ws : List ℕ) (a m : ℕ) → ((i : ℕ) → i < m → has_bit ws (a + i) ≡ false) → positions ws (a + m) ≡ positions ws a
positions_none ws a zero h = ap (positions ws) (add-zero a)
positions_none ws a (suc m) h =
    ap (positions ws) (add-suc a m)
    ∙ (λ j. positions_none ws a m (λ i p. h i (omega arith)) j ++ only_if (h m (omega arith) j) (a + m))
    ∙ append-nil (positions ws a)

-- ---- a word among others

pub has_one : (w i : ℕ) → i < 32 → has_bit (w ∷ []) i ≡ eqb (w / 2 ^ (31 - i) % 2) 1
has_one w i h =
    let a : i / 32 ≡ 0 = omega arith in
    let b : i % 32 ≡ i = omega arith in
    (λ j. eqb (get_or (w ∷ []) (a j) 0 / 2 ^ (31 - b j) % 2) 1)

pub has_word : (ws : List ℕ) (k i : ℕ) → i < 32 → has_bit ws (32 * k + i) ≡ has_bit (get_or ws k 0 ∷ []) i
has_word ws k i h =
    let a : (32 * k + i) / 32 ≡ k = omega arith in
    let b : (32 * k + i) % 32 ≡ i = omega arith in
    (λ j. eqb (get_or ws (a j) 0 / 2 ^ (31 - b j) % 2) 1) ∙ sym (has_one (get_or ws k 0) i h)

-- ---- shifted to the left

-- what stands in front of a power loses only what is above it
pub odd_part : (x c t : ℕ) → x % 2 ^ ((c + 1) + t) / 2 ^ t % 2 ≡ x / 2 ^ t % 2
odd_part x c t = ap (λ (y : ℕ). y % 2) (field x (c + 1) t) ∙ mod-mod-pow (x / 2 ^ t) c 1

module _ (w s : ℕ) where
  abbrev pub shifted : ℕ
  shifted = w * 2 ^ s % 4294967296

  at_bit : (j : ℕ) → j < 32 → has_bit (shifted ∷ []) j ≡ eqb (w * 2 ^ s / 2 ^ (31 - j) % 2) 1
  at_bit j h =
      let e : (j + 1) + (31 - j) ≡ 32 = omega arith in
      has_one shifted j h ∙ ap (λ (x : ℕ). eqb x 1) (ap (λ (x : ℕ). w * 2 ^ s % 2 ^ x / 2 ^ (31 - j) % 2) (sym e) ∙ odd_part (w * 2 ^ s) j (31 - j))

  pub shifted_bit : (j : ℕ) → s + j < 32 → has_bit (w ∷ []) (s + j) ≡ has_bit (shifted ∷ []) j
  shifted_bit j h =
      let e : 31 - j ≡ (31 - (s + j)) + s = omega arith in
      let d : w * 2 ^ s / 2 ^ (31 - j) ≡ w / 2 ^ (31 - (s + j)) =
      ap (λ (x : ℕ). w * 2 ^ s / x) (ap (λ (x : ℕ). 2 ^ x) e ∙ pow-add 2 (31 - (s + j)) s) ∙ mul-div-mul_right w (2 ^ (31 - (s + j))) (pow_pos s) in
      has_one w (s + j) h ∙ ap (λ (x : ℕ). eqb (x % 2) 1) (sym d) ∙ sym (at_bit j (omega arith))

  pub shifted_out : (j : ℕ) → j < 32 → 32 ≤ s + j → has_bit (shifted ∷ []) j ≡ false
  shifted_out j h g =
      let t : ℕ = 31 - j in
      let x : ℕ = (s - t) - 1 in
      let e : s ≡ (x + 1) + t = omega arith in
      let p : w * 2 ^ s ≡ w * 2 ^ (x + 1) * 2 ^ t = ap (λ (y : ℕ). w * 2 ^ y) e ∙ ap (λ (y : ℕ). w * y) (pow-add 2 (x + 1) t) ∙ sym (mul_assoc w (2 ^ (x + 1)) (2 ^ t)) in
      let q : w * 2 ^ (x + 1) ≡ w * 2 ^ x * 2 = ap (λ (y : ℕ). w * y) (pow-add 2 x 1) ∙ sym (mul_assoc w (2 ^ x) 2) in
      at_bit j h
      ∙ ap (λ (y : ℕ). eqb (y / 2 ^ t % 2) 1) p
      ∙ ap (λ (y : ℕ). eqb (y % 2) 1) (shl-shr (w * 2 ^ (x + 1)) t)
      ∙ ap (λ (y : ℕ). eqb (y % 2) 1) q
      ∙ ap (λ (y : ℕ). eqb y 1) (mul-mod_left (w * 2 ^ x) 2)

  -- a word's members are those of its first s bits, and then those of the shifted word
  pub positions_shifted : s ≤ 32 → word_positions w ≡ positions (w ∷ []) s ++ map (λ (i : ℕ). s + i) (word_positions shifted)
  unfolding word_positions
  positions_shifted h =
      let m : ℕ = 32 - s in
      let a : s + m ≡ 32 = omega arith in
      let b : m + s ≡ 32 = omega arith in
      ap (positions (w ∷ [])) (sym a)
      ∙ positions_join (w ∷ []) (shifted ∷ []) s m (λ i p. shifted_bit i (omega arith))
      ∙ ap (λ (l : List ℕ). positions (w ∷ []) s ++ map (λ (i : ℕ). s + i) l)
      (sym (positions_none (shifted ∷ []) m s (λ i p. shifted_out (m + i) (omega arith) (omega arith))) ∙ ap (positions (shifted ∷ [])) b)

-- ---- halved

halved : (w m : ℕ) → m < 32 → w / 2 ^ (31 - m) / 2 ≡ w / 2 ^ (32 - m)
halved w m h =
    let e : (31 - m) + 1 ≡ 32 - m = omega arith in
    shr-shr w (31 - m) 1 ∙ ap (λ (x : ℕ). w / 2 ^ x) e

-- where nothing is left of a word, none of its first m bits is set
pub none_left : (w m : ℕ) → m ≤ 32 → w / 2 ^ (32 - m) ≡ 0 → positions (w ∷ []) m ≡ []
none_left w zero h e = refl
none_left w (suc m) h e =
    let f : 32 - suc m ≡ 31 - m = omega arith in
    let v : w / 2 ^ (31 - m) ≡ 0 = ap (λ (x : ℕ). w / 2 ^ x) (sym f) ∙ e in
    let u : w / 2 ^ (32 - m) ≡ 0 = sym (halved w m (omega arith)) ∙ ap (λ (x : ℕ). x / 2) v in
    let b : has_bit (w ∷ []) m ≡ false = has_one w m (omega arith) ∙ ap (λ (x : ℕ). eqb (x % 2) 1) v in
    (λ j. none_left w m (omega arith) u j ++ only_if (b j) m)

-- where something is left, one is
pub one_left : (w m : ℕ) → m ≤ 32 → w < 4294967296 → 0 < w / 2 ^ (32 - m) → 0 < length (positions (w ∷ []) m)
one_left w zero h l p = absurd (omega arith)
one_left w (suc m) h l p = go (one_left w m (omega arith) l) (dec_lt (w / 2 ^ (31 - m) % 2) 1)
  where
    f : 32 - suc m ≡ 31 - m
    f = omega arith

    v : 0 < w / 2 ^ (31 - m)
    v = subst (λ (x : ℕ). 0 < w / 2 ^ x) f p

    go : (0 < w / 2 ^ (32 - m) → 0 < length (positions (w ∷ []) m)) → Dec (w / 2 ^ (31 - m) % 2 < 1) → 0 < length (positions (w ∷ []) (suc m))
    go before (yes q) =
        let u : 0 < w / 2 ^ (32 - m) = omega (arith, halved w m (omega arith), v) in
        omega (arith, before u, length-append (positions (w ∷ []) m) (only_if (has_bit (w ∷ []) m) m))
    go before (no q) =
        let b : has_bit (w ∷ []) m ≡ true = has_one w m (omega arith) ∙ eq-eqb (w / 2 ^ (31 - m) % 2) 1 (omega (arith, q)) in
        let c : length (only_if (has_bit (w ∷ []) m) m) ≡ 1 = ap (λ (x : Bool). length (only_if x m)) b in
        omega (arith, length-append (positions (w ∷ []) m) (only_if (has_bit (w ∷ []) m) m))

-- nothing is in a word that is zero, and something in any other
pub none_in_zero : word_positions 0 ≡ []
unfolding word_positions
none_in_zero = none_left 0 32 (omega arith) refl

pub some_in : (w : ℕ) → 0 < w → w < 4294967296 → 0 < length (word_positions w)
unfolding word_positions
some_in w p h = one_left w 32 (omega arith) h (omega arith)
