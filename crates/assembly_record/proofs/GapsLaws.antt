-- Laws of `specs/Marks.antt`: the fragments that lack a mark. Assumes nothing.
use Prim.Native.Nat.{ℕ, zero, suc, ◌+◌, ◌-◌, ◌≤◌, ◌<◌}
use native.Mathlib.Omega.{arith}
use native.Mathlib.Nat.{not-suc-le-zero}
use native.Mathlib.Numerals.{add-one}
use mathlib.Core.Path.{◌≡◌, sym, ap, subst, ◌∙◌}
use mathlib.Core.Bool.{true, false, cond}
use mathlib.Core.Logic.{⊎_elim}
use mathlib.Core.List.Memᴰ
use mathlib.Core.List.{List, [], ◌∷◌, ◌++◌, append-nil, Memᴰ}
use lib.ListN.{length, get_or, set, length-append, get_or-append}
use lib.Seq.{get_or-append_seam}
use lib.Dec.{leb}
use borrow.Author.Tests.{leb-true, leb-false}
use Rattle.outcome.specs.Lent.{over}
use Rattle.outcome.proofs.LentLaws.{over_more}
use Rattle.outcome.proofs.Split.{split, split_lt}
use Rattle.assembly_record.specs.Marks.{marked, gaps}

pub gaps_marked : (m : List ℕ) (n : ℕ) → marked m n ≡ true → gaps m (suc n) ≡ gaps m n
gaps_marked m n e = rw e (append-nil (gaps m n))

pub gaps_gap : (m : List ℕ) (n : ℕ) → marked m n ≡ false → gaps m (suc n) ≡ gaps m n ++ (suc n ∷ [])
gaps_gap m n e = rw e

pub gaps_mono : (m : List ℕ) (i n : ℕ) → i ≤ n → length (gaps m i) ≤ length (gaps m n)
gaps_mono m i zero h = let e : i ≡ 0 = omega arith in rw e (omega arith)
gaps_mono m i (suc n) h =
    split (leb i n)
    (λ t. let ih = gaps_mono m i n (leb-true i n t) in omega (arith, ih, length-append (gaps m n) (cond (marked m n) [] (suc n ∷ []))))
    (λ t. let e : i ≡ suc n = (let l = leb-false i n t in omega arith) in rw e (omega arith))

-- a mark more, counted
module _ (m : List ℕ) (n k : ℕ) (e : k ≡ length (gaps m n)) where
  pub gaps_count_gap : marked m n ≡ false → k + 1 ≡ length (gaps m (n + 1))
  gaps_count_gap g = rw (add-one n, gaps_gap m n g) (omega (arith, e, length-append (gaps m n) (suc n ∷ [])))

  pub gaps_count_marked : marked m n ≡ true → k ≡ length (gaps m (n + 1))
  gaps_count_marked g = rw (add-one n, gaps_marked m n g) e

-- a gap listed behind those before it
pub gaps_more : (m : List ℕ) (n : ℕ) (d out : List ℕ) (k : ℕ) → k ≡ length (gaps m n) → out ≡ over (gaps m n) d → marked m n ≡ false → k < length d
    → (k + 1 ≡ length (gaps m (n + 1))) × (set out k (n + 1) ≡ over (gaps m (n + 1)) d)
gaps_more m n d out k ek e g l =
    rw (add-one n, gaps_gap m n g) (
      omega (arith, length-append (gaps m n) (suc n ∷ [])),
      ap (λ (o : List ℕ). set o k (suc n)) e ∙ over_more (gaps m n) d k (suc n) (sym ek) l,
    )

pub gaps_in : (m : List ℕ) (f k : ℕ) → Memᴰ k (gaps m f) → (0 < k) × (k ≤ f) × (marked m (k - 1) ≡ false)
gaps_in m zero k h = absurd (Memᴰ.not-nil h)
gaps_in m (suc f) k h =
    split (marked m f)
    (λ t. let r = gaps_in m f k (subst (Memᴰ k) (gaps_marked m f t) h) in (r.0, omega (arith, r.1), r.2))
    (λ t.
    ⊎_elim
    (λ x. let r = gaps_in m f k x in (r.0, omega (arith, r.1), r.2))
    (λ x.
    let q : k ≡ suc f = Memᴰ.eq_of_singleton x in
    let p : k - 1 ≡ f = omega arith in
    (omega arith, omega arith, ap (marked m) p ∙ t))
    (Memᴰ.append_cases (gaps m f) (subst (Memᴰ k) (gaps_gap m f t) h)))

pub gaps_all : (m : List ℕ) (f k : ℕ) → 0 < k → k ≤ f → marked m (k - 1) ≡ false → Memᴰ k (gaps m f)
gaps_all m zero k p l e = absurd (omega arith)
gaps_all m (suc f) k p l e =
    ⊎_elim
    (λ x. Memᴰ.append_left (cond (marked m f) [] (suc f ∷ [])) (gaps_all m f k p (omega arith) e))
    (λ x.
    let q : k ≡ suc f = omega arith in
    let r : f ≡ k - 1 = omega arith in
    let u : marked m f ≡ false = ap (marked m) r ∙ e in
    subst (Memᴰ k) (sym (gaps_gap m f u)) (Memᴰ.append_right (gaps m f) (Memᴰ.head q)))
    (split_lt k (suc f))

-- the gaps among the first f are at most f
gaps_last : (m : List ℕ) (f i : ℕ) → i < length (gaps m f) → get_or (gaps m f) i 0 ≤ f
gaps_last m zero i h = absurd (not-suc-le-zero h)
gaps_last m (suc f) i h =
    split (marked m f)
    (λ t. let e = gaps_marked m f t in omega (arith, ap (λ (l : List ℕ). get_or l i 0) e, gaps_last m f i (omega (arith, ap length e))))
    (λ t.
    let e = gaps_gap m f t in
    ⊎_elim
    (λ l. omega (arith, ap (λ (l : List ℕ). get_or l i 0) e ∙ get_or-append (gaps m f) (suc f ∷ []) 0 i l, gaps_last m f i l))
    (λ l.
    let q : i ≡ length (gaps m f) = omega (arith, ap length e ∙ length-append (gaps m f) (suc f ∷ [])) in
    omega (arith, ap (λ (l : List ℕ). get_or l i 0) e ∙ ap (λ (k : ℕ). get_or (gaps m f ++ (suc f ∷ [])) k 0) q ∙ get_or-append_seam (gaps m f) (suc f) [] 0))
    (split_lt i (length (gaps m f))))

pub gaps_rise : (m : List ℕ) (f i : ℕ) → suc i < length (gaps m f) → get_or (gaps m f) i 0 < get_or (gaps m f) (suc i) 0
gaps_rise m zero i h = absurd (not-suc-le-zero h)
gaps_rise m (suc f) i h =
    split (marked m f)
    (λ t.
    let e = gaps_marked m f t in
    let ih = gaps_rise m f i (omega (arith, ap length e)) in
    rw e ih)
    (λ t.
    let e = gaps_gap m f t in
    let low : i < length (gaps m f) = omega (arith, ap length e ∙ length-append (gaps m f) (suc f ∷ [])) in
    let at_i : get_or (gaps m (suc f)) i 0 ≡ get_or (gaps m f) i 0 = ap (λ (l : List ℕ). get_or l i 0) e ∙ get_or-append (gaps m f) (suc f ∷ []) 0 i low in
    ⊎_elim
    (λ l.
    let at_s : get_or (gaps m (suc f)) (suc i) 0 ≡ get_or (gaps m f) (suc i) 0 =
    (ap (λ (l : List ℕ). get_or l (suc i) 0) e ∙ get_or-append (gaps m f) (suc f ∷ []) 0 (suc i) l) in
    omega (arith, at_i, at_s, gaps_rise m f i l))
    (λ l.
    let q : suc i ≡ length (gaps m f) = omega arith in
    let at_s : get_or (gaps m (suc f)) (suc i) 0 ≡ suc f =
    (ap (λ (l : List ℕ). get_or l (suc i) 0) e ∙ ap (λ (k : ℕ). get_or (gaps m f ++ (suc f ∷ [])) k 0) q ∙ get_or-append_seam (gaps m f) (suc f) [] 0) in
    omega (arith, at_i, at_s, gaps_last m f i low))
    (split_lt (suc i) (length (gaps m f))))
