-- The invariant of the rising walk of one word, `Climbs`, and a step of it. f i is the number that bit i stands for. Assumes nothing.
use Prim.Native.Nat.{ℕ, ◌+◌, ◌*◌, ◌/◌, ◌%◌, ◌^◌, ◌<◌, ◌≤◌}
use mathlib.Core.Path.{◌≡◌, refl, ap, ◌∙◌, sym}
use mathlib.Core.Bool.{Bool, true, false, not, ◌||◌}
use mathlib.Core.List.{List, [], ◌∷◌, ◌++◌, map, map-append}
use native.Mathlib.Omega.{arith}
use native.Mathlib.Decide.{dec_lt}
use native.Mathlib.Nat.{add-zero, mul_assoc, mul-mod_left, mod-eq_of_lt}
use lib.ListN.{length, length-append, length-map, length-set, set}
use lib.Seq.{sets, set-set}
use lib.Dec.{eqb}
use lib.Pow.{pow-add}
use borrow.Author.Tests.{eq-eqb, ne_eqb, not-false}
use Rattle.bitmap.specs.Bitmap.{has_bit, positions, any_past}
use Rattle.set_walk.specs.WordPositions.{word_positions}
use Rattle.outcome.proofs.Split.{neither}
use Rattle.outcome.proofs.LentLaws.{sets_append}
use Rattle.bitmap.proofs.PositionLaws.{positions_yes, positions_no, length_more}
use Rattle.set_walk.proofs.WordBitLaws.{shifted_bit, positions_shifted, some_in}
use Rattle.bitmap.proofs.PastLaws.{past_append}

-- the first j bits are walked, and w is what is left. A place that a member is to take may hold any number
pub record Climbs {A : Type 0} (f : ℕ → A) (from word : ℕ) (out₀ : List A) (place : ℕ) (out : List A) (n w i : ℕ) : Type 0 where
  pub j : ℕ
  pub here : i ≡ from + j
  pub few : j ≤ 32
  pub rest : w ≡ word * 2 ^ j % 4294967296
  pub many : n ≡ place + length (positions (word ∷ []) j)
  pub loose : (x : A) → set out n x ≡ sets out₀ place (map f (positions (word ∷ []) j) ++ (x ∷ []))
  pub clean : w ≡ 0 → out ≡ sets out₀ place (map f (positions (word ∷ []) j))
  pub long : length out ≡ length out₀

module _ {A : Type 0} {f : ℕ → A} {from word : ℕ} {out₀ : List A} {place : ℕ} {out : List A} {n w i : ℕ} (l : Climbs f from word out₀ place out n w i) where
  -- what is left of the word has what is left of its members
  pub parts : word_positions word ≡ positions (word ∷ []) l.j ++ map (λ (k : ℕ). l.j + k) (word_positions w)
  parts =
      positions_shifted word l.j l.few
      ∙ ap (λ (x : ℕ). positions (word ∷ []) l.j ++ map (λ (k : ℕ). l.j + k) (word_positions x)) (sym l.rest)

  pub small : w < 4294967296
  small = omega (arith, l.rest)

  pub climbs_more : 0 < w → l.j < 32
  climbs_more p = go (dec_lt l.j 32)
    where
      go : Dec (l.j < 32) → l.j < 32
      go (yes h) = h
      go (no h) =
          let e : l.j ≡ 32 = omega (arith, h, l.few) in
          let z : w ≡ 0 = l.rest ∙ ap (λ (k : ℕ). word * 2 ^ k % 4294967296) e ∙ mul-mod_left word 4294967296 in
          absurd (omega arith)

  pub climbs_room : 0 < w → n < place + length (word_positions word)
  climbs_room p =
      let a = ap length parts in
      let b = length-append (positions (word ∷ []) l.j) (map (λ (k : ℕ). l.j + k) (word_positions w)) in
      let d = length-map (word_positions w) (λ (k : ℕ). l.j + k) in
      omega (arith, l.many, some_in w p small)

  -- a member still to come fits
  pub climbs_fits : (fits : ℕ → Bool) → 0 < w → any_past fits (word_positions word) ≡ false → (k : ℕ) × (fits (l.j + k) ≡ true)
  climbs_fits fits p e = first (word_positions w) (some_in w p small) (neither (any_past fits (positions (word ∷ []) l.j)) _ (sym split ∙ e)).1
    where
      split : any_past fits (word_positions word) ≡ (any_past fits (positions (word ∷ []) l.j) || any_past fits (map (λ (k : ℕ). l.j + k) (word_positions w)))
      split = ap (any_past fits) parts ∙ past_append fits (positions (word ∷ []) l.j) (map (λ (k : ℕ). l.j + k) (word_positions w))

      first : (ps : List ℕ) → 0 < length ps → any_past fits (map (λ (k : ℕ). l.j + k) ps) ≡ false → (k : ℕ) × (fits (l.j + k) ≡ true)
      first [] h z = absurd (omega arith)
      first (k ∷ ps) h z = (k, not-false (fits (l.j + k)) (neither (not (fits (l.j + k))) (any_past fits (map (λ (q : ℕ). l.j + q) ps)) z).0)

  same_bit : l.j < 32 → has_bit (word ∷ []) l.j ≡ eqb (w / 2147483648 % 2) 1
  same_bit h =
      ap (has_bit (word ∷ [])) (sym (add-zero l.j))
      ∙ shifted_bit word l.j 0 (omega arith)
      ∙ ap (λ (x : ℕ). has_bit (x ∷ []) 0) (sym l.rest)

  next : w * 2 % 4294967296 ≡ word * 2 ^ (l.j + 1) % 4294967296
  next =
      let e : word * 2 ^ (l.j + 1) ≡ word * 2 ^ l.j * 2 = ap (λ (x : ℕ). word * x) (pow-add 2 l.j 1) ∙ sym (mul_assoc word (2 ^ l.j) 2) in
      let r = l.rest in
      omega arith

  pub climbs_step : 0 < w → Climbs f from word out₀ place (set out n (f l.j)) (n + w / 2147483648) (w * 2 % 4294967296) (i + 1)
  climbs_step p = go (dec_lt (w / 2147483648) 1)
    where
      ps : List ℕ
      ps = positions (word ∷ []) l.j

      kept : length (set out n (f l.j)) ≡ length out₀
      kept = length-set out n (f l.j) ∙ l.long

      lost : w / 2147483648 < 1 → w * 2 % 4294967296 ≡ 0 → ⊥
      lost q z =
          let e : w * 2 % 4294967296 ≡ w * 2 = mod-eq_of_lt (omega arith) in
          omega arith

      go : Dec (w / 2147483648 < 1) → Climbs f from word out₀ place (set out n (f l.j)) (n + w / 2147483648) (w * 2 % 4294967296) (i + 1)
      go (yes q) =
          let b : has_bit (word ∷ []) l.j ≡ false = same_bit (climbs_more p) ∙ ne_eqb (w / 2147483648 % 2) 1 (λ e. omega (arith, e)) in
          let s : positions (word ∷ []) (l.j + 1) ≡ ps = positions_no (word ∷ []) l.j b in
          let e : n + w / 2147483648 ≡ n = omega arith in
          record {
            j = l.j + 1;
            here = omega (arith, l.here);
            few = omega (arith, climbs_more p);
            rest = next;
            many = omega (arith, l.many, ap length s);
            loose = λ x.
                ap (λ (m : ℕ). set (set out n (f l.j)) m x) e
                ∙ set-set out n (f l.j) x
                ∙ l.loose x
                ∙ ap (λ (qs : List ℕ). sets out₀ place (map f qs ++ (x ∷ []))) (sym s);
            clean = λ z. absurd (lost q z);
            long = kept;
          }
      go (no q) =
          let b : has_bit (word ∷ []) l.j ≡ true = same_bit (climbs_more p) ∙ eq-eqb (w / 2147483648 % 2) 1 (omega (arith, q, small)) in
          let s : positions (word ∷ []) (l.j + 1) ≡ ps ++ (l.j ∷ []) = positions_yes (word ∷ []) l.j b in
          let t : map f (positions (word ∷ []) (l.j + 1)) ≡ map f ps ++ (f l.j ∷ []) = ap (map f) s ∙ map-append f ps (l.j ∷ []) in
          let stored : set out n (f l.j) ≡ sets out₀ place (map f (positions (word ∷ []) (l.j + 1))) = l.loose (f l.j) ∙ ap (sets out₀ place) (sym t) in
          let e : n + w / 2147483648 ≡ place + length (map f (positions (word ∷ []) (l.j + 1))) =
          omega (arith, q, small, l.many, length_more (word ∷ []) l.j b, length-map (positions (word ∷ []) (l.j + 1)) f) in
          record {
            j = l.j + 1;
            here = omega (arith, l.here);
            few = omega (arith, climbs_more p);
            rest = next;
            many = e ∙ ap (λ (m : ℕ). place + m) (length-map (positions (word ∷ []) (l.j + 1)) f);
            loose = λ x. (λ k. set (stored k) (e k) x) ∙ sets_append (map f (positions (word ∷ []) (l.j + 1))) (x ∷ []) out₀ place;
            clean = λ z. stored;
            long = kept;
          }

-- the same, where g is the number of a position
abbrev pub At : {A : Type 0} → (ℕ → A) → ℕ → ℕ → List A → ℕ → List A → ℕ → ℕ → ℕ → Type 0
At g from = Climbs (λ (k : ℕ). g (from + k)) from

-- a step by what a call gave
pub climbs_by : {A : Type 0} (g : ℕ → A) {from word : ℕ} {out₀ : List A} {place : ℕ} {out : List A} {n w i : ℕ} → At g from word out₀ place out n w i
    → {out' : List A} {n' w' i' : ℕ} → out' ≡ set out n (g i) → n' ≡ n + w / 2147483648 → w' ≡ w * 2 % 4294967296 → i' ≡ i + 1 → 0 < w
    → At g from word out₀ place out' n' w' i'
climbs_by g {out = out} {n = n} l p q r s h = rw (p ∙ ap (λ (m : ℕ). set out n (g m)) l.here, q, r, s) (climbs_step l h)

-- a shift and one more
pub shift_more : (x y v : ℕ) → v ≡ x % 4294967296 → y ≡ x * 2 → y % 4294967296 ≡ v * 2 % 4294967296
shift_more x y v e f = omega arith

-- what is left after four bits is left after fewer
pub left_four : (w : ℕ) → 0 < w * 16 % 4294967296
    → (0 < w) × (0 < w * 2 % 4294967296) × (0 < w * 4 % 4294967296) × (0 < w * 8 % 4294967296)
left_four w t =
    let a : 0 < w * 8 % 4294967296 = before (w * 8) (w * 16) (omega arith) t in
    let b : 0 < w * 4 % 4294967296 = before (w * 4) (w * 8) (omega arith) a in
    let d : 0 < w * 2 % 4294967296 = before (w * 2) (w * 4) (omega arith) b in
    let e : 0 < w % 4294967296 = before w (w * 2) refl d in
    (omega arith, d, b, a)
  where
    before : (x y : ℕ) → y ≡ x * 2 → 0 < y % 4294967296 → 0 < x % 4294967296
    before x y e h = omega arith

-- the four steps of a turn
module _ {A : Type 0} (g : ℕ → A) {from word : ℕ} {out₀ : List A} {place w : ℕ} (t : 0 < w * 16 % 4294967296) where
  module _ {out : List A} {n i : ℕ} (l : At g from word out₀ place out n w i) {out1 : List A} {n1 : ℕ} (p : out1 ≡ set out n (g i)) (q : n1 ≡ n + w / 2147483648) where
    pub climbs_one : At g from word out₀ place out1 n1 (w * 2 % 4294967296) (i + 1)
    climbs_one = climbs_by g l p q refl refl (left_four w t).0

    module _ {out2 : List A} {n2 : ℕ} (p2 : out2 ≡ set out1 n1 (g (i + 1))) (q2 : n2 ≡ n1 + w * 2 % 4294967296 / 2147483648) where
      pub climbs_two : At g from word out₀ place out2 n2 (w * 4 % 4294967296) (i + 2)
      climbs_two = climbs_by g climbs_one p2 q2 (shift_more (w * 2) (w * 4) (w * 2 % 4294967296) refl (omega arith)) (omega arith) (left_four w t).1

      module _ {out3 : List A} {n3 : ℕ} (p3 : out3 ≡ set out2 n2 (g (i + 2))) (q3 : n3 ≡ n2 + w * 4 % 4294967296 / 2147483648) where
        pub climbs_three : At g from word out₀ place out3 n3 (w * 8 % 4294967296) (i + 3)
        climbs_three = climbs_by g climbs_two p3 q3 (shift_more (w * 4) (w * 8) (w * 4 % 4294967296) refl (omega arith)) (omega arith) (left_four w t).2

        pub climbs_four : {out4 : List A} {n4 : ℕ} → out4 ≡ set out3 n3 (g (i + 3)) → n4 ≡ n3 + w * 8 % 4294967296 / 2147483648 → At g from word out₀ place out4 n4 (w * 16 % 4294967296) (i + 4)
        climbs_four p4 q4 = climbs_by g climbs_three p4 q4 (shift_more (w * 8) (w * 16) (w * 8 % 4294967296) refl (omega arith)) (omega arith) (left_four w t).3
