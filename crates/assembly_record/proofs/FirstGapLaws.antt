-- Laws of the first gap among the marks of a place: where it is, word by word, and that the fragments before it reach the sample's end where the place
-- is whole. Assumes nothing.
use Prim.Native.Nat.{ℕ, ◌+◌, ◌*◌, ◌-◌, ◌/◌, ◌%◌, ◌^◌, ◌≤◌, ◌<◌}
use native.Mathlib.Omega.{arith}
use native.Mathlib.Nat.{mod-lt, zero-div}
use mathlib.Core.Path.{◌≡◌, sym, ap, subst, ◌∙◌}
use mathlib.Core.Bool.{true, false}
use mathlib.Core.Logic.{⊎_elim}
use mathlib.Core.List.{List, [], map}
use lib.ListN.{length, get_or, take, drop}
use lib.Count.{count_trailing_zeros}
use lib.Dec.{leb, eqb}
use borrow.Author.Tests.{eq-eqb, ne_eqb, le-leb, lt-leb}
use Rattle.assembly_record.specs.Sizes.{place_count, most_fragments, row_size}
use Rattle.outcome.proofs.Split.{split_lt}
use Rattle.bitmap.proofs.WidthLaws.{complement_bit, trailing_below, trailing_at}
use Rattle.assembly_record.proofs.FragmentsLaws.{fragments_le, fragments_above}
use Rattle.assembly_record.proofs.MarksLaws.{all_holds, all_lacks}
use Rattle.assembly_record.proofs.WordsLaws.{row_place, row_marks}
use Rattle.assembly_record.specs.Fragments.{fragments, is_whole}
use Rattle.assembly_record.specs.Marks.{marked, all_below}
use Rattle.assembly_record.specs.State.{Place, place_at}
use Rattle.assembly_record.specs.Words.{place_of, places_of}
use Rattle.assembly_record.specs.Rows.{FirstGap, Counts}

-- c is the complement of word i
module _ (m : List ℕ) (i c : ℕ) (e : c + get_or m i 0 ≡ 2 ^ 64 - 1) (before : (j : ℕ) → j < 64 * i → marked m j ≡ true) where
  set_where : (j : ℕ) → j / 64 ≡ i → c / 2 ^ (j % 64) % 2 ≡ 0 → marked m j ≡ true
  unfolding marked
  set_where j q z =
      ap (λ (n : ℕ). eqb (get_or m n 0 / 2 ^ (j % 64) % 2) 1) q
      ∙ eq-eqb (get_or m i 0 / 2 ^ (j % 64) % 2) 1 (omega (arith, complement_bit 64 (j % 64) (get_or m i 0) c (mod-lt j (omega arith)) e))

  not_where : (j : ℕ) → j / 64 ≡ i → c / 2 ^ (j % 64) % 2 ≡ 1 → marked m j ≡ false
  unfolding marked
  not_where j q z =
      ap (λ (n : ℕ). eqb (get_or m n 0 / 2 ^ (j % 64) % 2) 1) q
      ∙ ne_eqb (get_or m i 0 / 2 ^ (j % 64) % 2) 1 (λ y. omega (arith, complement_bit 64 (j % 64) (get_or m i 0) c (mod-lt j (omega arith)) e, y))

  -- no gap in the word
  pub gap_further : c ≡ 0 → (j : ℕ) → j < 64 * (i + 1) → marked m j ≡ true
  gap_further z j l =
      ⊎_elim (λ h. before j h)
      (λ h. set_where j (omega arith) (ap (λ (x : ℕ). x / 2 ^ (j % 64) % 2) z ∙ ap (λ (x : ℕ). x % 2) (zero-div (2 ^ (j % 64)))))
      (split_lt j (64 * i))

  -- the lowest set bit of the complement is the gap
  pub gap_found : i < 4 → (c ≡ 0 → ⊥) → FirstGap m (64 * i + count_trailing_zeros 64 c)
  gap_found h nz =
      let t = trailing_at 64 c (omega (arith, nz)) (omega arith) in
      let z : ℕ = count_trailing_zeros 64 c in
      let p : (64 * i + z) % 64 ≡ z = omega (arith, t.0) in
      record {
        most = omega (arith, t.0);
        before = λ j l.
            ⊎_elim (λ k. before j k)
            (λ k. set_where j (omega (arith, t.0)) (trailing_below 64 c (j % 64) (omega (arith, t.0))))
            (split_lt j (64 * i));
        gap = λ l. not_where (64 * i + z) (omega (arith, t.0)) (ap (λ (n : ℕ). c / 2 ^ n % 2) p ∙ t.1);
      }

-- as many as r cover the sample, or the one at r lacks
pub whole_reached : (m : List ℕ) (d f r : ℕ) → 0 < f → fragments d f ≤ most_fragments → FirstGap m r → leb d (r * f) ≡ all_below (marked m) (fragments d f)
whole_reached m d f r p few g =
    ⊎_elim
    (λ l.
    let k : r < fragments d f = fragments_above d f r p l in
    lt-leb d (r * f) l ∙ sym (all_lacks (marked m) (fragments d f) r k (g.gap (omega arith))))
    (λ l.
    let k : fragments d f ≤ r = fragments_le d f r p l in
    le-leb d (r * f) l ∙ sym (all_holds (marked m) (fragments d f) (λ j h. g.before j (omega arith))))
    (split_lt (r * f) d)

-- the same of a place, whose row the code reads
pub whole_counted : (w : List ℕ) (i : ℕ) (rs : List (List ℕ)) (r : ℕ) → Counts w i → map place_of rs ≡ places_of w → length rs ≡ place_count → length (get_or rs i []) ≡ row_size
    → FirstGap (take 4 (drop 3 (get_or rs i []))) r
    → leb (get_or (get_or rs i []) 1 0) (r * get_or w 0 0) ≡ is_whole (get_or w 0 0) (place_at (places_of w) i)
whole_counted w i rs r c e n l g =
    let p : place_of (get_or rs i []) ≡ place_at (places_of w) i = row_place rs (places_of w) i [] e (omega (arith, c.within)) in
    let m = row_marks rs (places_of w) i [] e (omega (arith, c.within)) l in
    ap (λ (q : Place). leb q.size (r * get_or w 0 0)) p
    ∙ whole_reached (place_at (places_of w) i).marks (place_at (places_of w) i).size (get_or w 0 0) r c.some c.few (subst (λ (l : List ℕ). FirstGap l r) m g)
