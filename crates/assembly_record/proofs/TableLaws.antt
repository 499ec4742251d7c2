-- Laws of `specs/Table.antt`. Assumes nothing.
use Prim.Native.Nat.{ℕ, zero, suc, ◌≤◌, ◌<◌, min, max}
use native.Mathlib.Omega.{arith}
use native.Mathlib.Nat.{not-suc-le-zero, le_of_suc-le-suc}
use mathlib.Core.Path.{◌≡◌, refl, sym, ap, subst, ◌∙◌}
use mathlib.Core.Bool.{Bool, true, false, cond, ◌&&◌}
use mathlib.Core.Logic.{◌⊎◌, inl, inr, ⊎_elim}
use mathlib.Core.List.{List, [], ◌∷◌, map}
use lib.ListN.{length, get_or, set, take, drop, replicate}
use lib.Seq.{take_all}
use lib.Dec.{ltb, eqb}
use borrow.Author.Tests.{ltb-true, ltb-false, eqb-true, eqb-false, lt-ltb, le-ltb, eq-eqb, ne_eqb}
use Rattle.std.specs.Prelude.{Some, None, IsSome, is_some, unwrap_or}
use Rattle.std.proofs.lemmas.Option.{cond_some, none-some}
use Rattle.std.specs.List.{position_or_len, fold, reduce, filter, count_by}
use Rattle.std.proofs.lemmas.List.{drop_all}
use Rattle.std.proofs.lemmas.List.Sums.{position_or_len_is, length-filter}
use Rattle.assembly_record.specs.Words.{place_of}
use Rattle.outcome.proofs.Split.{split, split_lt, clash}
use Rattle.assembly_record.specs.State.{Place, place_at, free_place}
use Rattle.assembly_record.specs.Table.{find, has_number, highest_of, how_many, in_assembly, is_taken, lower, lowest_of, is_partially_received, found_place}

pub find_le : (n : ℕ) (ps : List Place) → find n ps ≤ length ps
find_le n [] = omega arith
find_le n (p ∷ ps) = go (eqb p.number n) (find_le n ps)
  where
    go : (b : Bool) → find n ps ≤ length ps → cond b 0 (suc (find n ps)) ≤ suc (length ps)
    go true ih = omega arith
    go false ih = omega arith

-- what is found has the number, and nothing before it has
pub find_hit : (n : ℕ) (ps : List Place) → find n ps < length ps → (place_at ps (find n ps)).number ≡ n
find_hit n [] h = omega arith
find_hit n (p ∷ ps) h = go (eqb p.number n) refl (find_hit n ps) h
  where
    go : (b : Bool) → eqb p.number n ≡ b → (find n ps < length ps → (place_at ps (find n ps)).number ≡ n)
        → cond b 0 (suc (find n ps)) < suc (length ps) → (place_at (p ∷ ps) (cond b 0 (suc (find n ps)))).number ≡ n
    go true e ih h = eqb-true p.number n e
    go false e ih h = ih (omega arith)

pub find_miss : (n : ℕ) (ps : List Place) (j : ℕ) → j < find n ps → (place_at ps j).number ≡ n → ⊥
find_miss n [] j h e = omega arith
find_miss n (p ∷ ps) zero h e = go (eqb p.number n) refl h
  where
    go : (b : Bool) → eqb p.number n ≡ b → 0 < cond b 0 (suc (find n ps)) → ⊥
    go true q h = omega arith
    go false q h = eqb-false p.number n q e
find_miss n (p ∷ ps) (suc j) h e = go (eqb p.number n) (λ k. find_miss n ps j k e) h
  where
    go : (b : Bool) → (j < find n ps → ⊥) → suc j < cond b 0 (suc (find n ps)) → ⊥
    go true ih h = omega arith
    go false ih h = ih (omega arith)

pub find_is : (n : ℕ) (ps : List Place) (i : ℕ) → i < length ps → (place_at ps i).number ≡ n
    → ((j : ℕ) → j < i → (place_at ps j).number ≡ n → ⊥) → find n ps ≡ i
find_is n ps i l e none =
    let a : find n ps < i → ⊥ = λ h. none (find n ps) h (find_hit n ps (omega arith)) in
    let b : i < find n ps → ⊥ = λ h. find_miss n ps i h e in
    omega (arith, a, b)

pub find_none : (n : ℕ) (ps : List Place) → ((j : ℕ) → j < length ps → (place_at ps j).number ≡ n → ⊥) → find n ps ≡ length ps
find_none n ps none =
    let a : find n ps < length ps → ⊥ = λ h. none (find n ps) h (find_hit n ps h) in
    omega (arith, a, find_le n ps)

pub find_some : (n : ℕ) (ps : List Place) (i : ℕ) → i < length ps → (place_at ps i).number ≡ n → find n ps < length ps
find_some n ps i l e = let b : i < find n ps → ⊥ = λ h. find_miss n ps i h e in omega (arith, b)

-- what is said of a place that is found, and where none is
pub found_some : (n : ℕ) (ps : List Place) (i : ℕ) → Some i ≡ found_place n ps → (i ≡ find n ps) × (i < length ps) × (has_number ps n ≡ true)
unfolding has_number
found_some n ps i e =
    let x = cond_some (ltb (find n ps) (length ps)) (find n ps) i (sym e) in
    (sym x.1, omega (arith, x.1, ltb-true (find n ps) (length ps) x.0), x.0)

pub found_none : (n : ℕ) (ps : List Place) → None ≡ found_place n ps → (length ps ≤ find n ps) × (has_number ps n ≡ false)
unfolding has_number
found_none n ps e =
    split (ltb (find n ps) (length ps))
    (λ t. absurd (none-some (find n ps) (e ∙ rw t refl)))
    (λ t. (ltb-false (find n ps) (length ps) t, t))

pub found_is : (n : ℕ) (ps : List Place) → find n ps < length ps → IsSome (found_place n ps)
unfolding has_number
found_is n ps h = rw (lt-ltb (find n ps) (length ps) h) refl

-- the same where it is only asked whether one is
pub found_yes : (n : ℕ) (ps : List Place) → is_some (found_place n ps) ≡ true → find n ps < length ps
unfolding has_number
found_yes n ps e = split (ltb (find n ps) (length ps)) (λ t. ltb-true (find n ps) (length ps) t) (λ t. absurd (clash false (rw t at e) refl))

pub found_no : (n : ℕ) (ps : List Place) → is_some (found_place n ps) ≡ false → length ps ≤ find n ps
unfolding has_number
found_no n ps e = split (ltb (find n ps) (length ps)) (λ t. absurd (clash true refl (rw t at e))) (λ t. ltb-false (find n ps) (length ps) t)

-- what has a number stands inside the table
pub inside_at : (ps : List Place) (j : ℕ) → 0 < (place_at ps j).number → j < length ps
inside_at [] j h = absurd (not-suc-le-zero h)
inside_at (p ∷ ps) zero h = omega arith
inside_at (p ∷ ps) (suc j) h = let k = inside_at ps j h in omega arith

-- a table of free places
pub at_free : (n i : ℕ) → place_at (replicate n free_place) i ≡ free_place
at_free zero i = refl
at_free (suc n) zero = refl
at_free (suc n) (suc i) = at_free n i

abbrev pub place_number : Place → ℕ
place_number p = p.number

-- what stands at j after a store at s
pub at_set : (ps : List Place) (s : ℕ) (q : Place) (j : ℕ) → ((place_at (set ps s q) j ≡ q) × (j ≡ s)) ⊎ (place_at (set ps s q) j ≡ place_at ps j)
at_set [] s q j = inr refl
at_set (x ∷ ps) zero q zero = inl (refl, refl)
at_set (x ∷ ps) zero q (suc j) = inr refl
at_set (x ∷ ps) (suc s) q zero = inr refl
at_set (x ∷ ps) (suc s) q (suc j) = ⊎_elim (λ w. inl (w.0, ap suc w.1)) (λ e. inr e) (at_set ps s q j)

pub each_set : (P : Place → Type 0) (ps : List Place) (s : ℕ) (q : Place) → ((j : ℕ) → P (place_at ps j)) → P q → (j : ℕ) → P (place_at (set ps s q) j)
each_set P ps s q each h j = ⊎_elim (λ w. subst P (sym w.0) h) (λ e. subst P (sym e) (each j)) (at_set ps s q j)

-- the highest number bounds each, and some place has it
pub highest_ge : (ps : List Place) (j : ℕ) → (place_at ps j).number ≤ highest_of ps
highest_ge [] j = omega arith
highest_ge (p ∷ ps) zero = omega arith
highest_ge (p ∷ ps) (suc j) = let ih = highest_ge ps j in omega arith

pub highest_is : (ps : List Place) → 0 < length ps → (j : ℕ) × (j < length ps) × ((place_at ps j).number ≡ highest_of ps)
highest_is [] h = absurd (not-suc-le-zero h)
highest_is (p ∷ []) h = (0, omega arith, omega arith)
highest_is (p ∷ (q ∷ ps)) h = go (highest_is (q ∷ ps) (omega arith)) (ltb p.number (highest_of (q ∷ ps))) refl
  where
    go : (j : ℕ) × (j < length (q ∷ ps)) × ((place_at (q ∷ ps) j).number ≡ highest_of (q ∷ ps)) → (b : Bool) → ltb p.number (highest_of (q ∷ ps)) ≡ b
        → (j : ℕ) × (j < suc (length (q ∷ ps))) × ((place_at (p ∷ (q ∷ ps)) j).number ≡ max p.number (highest_of (q ∷ ps)))
    go (j, l, e) true t = let k : p.number < highest_of (q ∷ ps) = ltb-true _ _ t in (suc j, omega arith, omega arith)
    go (j, l, e) false t = let k : highest_of (q ∷ ps) ≤ p.number = ltb-false _ _ t in (0, omega arith, omega arith)

pub highest_found : (ps : List Place) → 0 < length ps → find (highest_of ps) ps < length ps
highest_found ps h = let w = highest_is ps h in find_some (highest_of ps) ps w.0 w.1 w.2

-- ---- how many

module _ (test : Place → Bool) where
  pub how_many_le : (ps : List Place) → how_many test ps ≤ length ps
  how_many_le [] = omega arith
  how_many_le (p ∷ ps) =
      let ih = how_many_le ps in
      split (test p) (λ e. rw e (omega arith)) (λ e. rw e (omega arith))

  pub how_many_all : (ps : List Place) → ((j : ℕ) → j < length ps → test (place_at ps j) ≡ true) → how_many test ps ≡ length ps
  how_many_all [] h = refl
  how_many_all (p ∷ ps) h = rw (h 0 (omega arith)) (ap suc (how_many_all ps (λ j l. h (suc j) (omega arith))))

  -- all but one
  pub how_many_but : (ps : List Place) (i : ℕ) → ((j : ℕ) → j < length ps → (j ≡ i → ⊥) → test (place_at ps j) ≡ true) → length ps ≤ suc (how_many test ps)
  how_many_but [] i h = omega arith
  how_many_but (p ∷ ps) zero h =
      let ih : how_many test ps ≡ length ps = how_many_all ps (λ j l. h (suc j) (omega arith) (λ e. omega arith)) in
      split (test p) (λ e. rw e (omega arith)) (λ e. rw e (omega arith))
  how_many_but (p ∷ ps) (suc i) h =
      let ih = how_many_but ps i (λ j l ne. h (suc j) (omega arith) (λ e. ne (omega arith))) in
      rw (h 0 (omega arith) (λ e. omega arith)) (omega arith)

  -- not all
  pub how_many_lacks : (ps : List Place) (j : ℕ) → j < length ps → test (place_at ps j) ≡ false → how_many test ps < length ps
  how_many_lacks [] j l e = absurd (not-suc-le-zero l)
  how_many_lacks (p ∷ ps) zero l e = rw e (omega (arith, how_many_le ps))
  how_many_lacks (p ∷ ps) (suc j) l e =
      let ih = how_many_lacks ps j (le_of_suc-le-suc l) e in
      split (test p) (λ t. rw t (omega arith)) (λ t. rw t (omega arith))

-- all are in assembly exactly where no place is free
pub count_full : (ps : List Place) → length ps ≤ find 0 ps → in_assembly ps ≡ length ps
count_full ps h =
    how_many_all is_taken ps
    (λ j l. let z : (place_at ps j).number ≡ 0 → ⊥ = λ e. find_miss 0 ps j (omega arith) e in lt-ltb 0 (place_at ps j).number (omega (arith, z)))

pub count_spare : (ps : List Place) → find 0 ps < length ps → in_assembly ps < length ps
count_spare ps h = how_many_lacks is_taken ps (find 0 ps) h (le-ltb 0 (place_at ps (find 0 ps)).number (omega (arith, find_hit 0 ps h)))

pub spare_find : (ps : List Place) → in_assembly ps < length ps → find 0 ps < length ps
spare_find ps h = ⊎_elim (λ l. l) (λ l. absurd (omega (arith, count_full ps l))) (split_lt (find 0 ps) (length ps))

-- where every place but one has a number below n, all but one count
pub lower_but : (n : ℕ) (ps : List Place) (i : ℕ)
    → ((j : ℕ) → j < length ps → (j ≡ i → ⊥) → (0 < (place_at ps j).number) × ((place_at ps j).number < n)) → length ps ≤ suc (lower n ps)
lower_but n ps i h =
    how_many_but (λ (p : Place). is_taken p && ltb p.number n) ps i
    (λ j l ne. let k = h j l ne in rw (lt-ltb 0 (place_at ps j).number k.0, lt-ltb (place_at ps j).number n k.1))

-- ---- the highest and the lowest, as the code finds them

pub lowest_cons : (p : Place) (ps : List Place) → 0 < length ps → lowest_of (p ∷ ps) ≡ min p.number (lowest_of ps)
lowest_cons p [] h = absurd (not-suc-le-zero h)
lowest_cons p (q ∷ ps) h = refl

pub lowest_le : (ps : List Place) (j : ℕ) → j < length ps → lowest_of ps ≤ (place_at ps j).number
lowest_le [] j l = absurd (not-suc-le-zero l)
lowest_le (p ∷ ps) zero l =
    ⊎_elim (λ h. omega (arith, lowest_cons p ps h)) (λ h. single p ps h) (split_lt 0 (length ps))
  where
    single : (p : Place) (ps : List Place) → length ps ≤ 0 → lowest_of (p ∷ ps) ≤ p.number
    single p [] h = omega arith
    single p (q ∷ ps) h = absurd (omega arith)
lowest_le (p ∷ ps) (suc j) l =
    let ih = lowest_le ps j (le_of_suc-le-suc l) in
    omega (arith, lowest_cons p ps (omega arith))

pub lowest_is : (ps : List Place) → 0 < length ps → (j : ℕ) × (j < length ps) × ((place_at ps j).number ≡ lowest_of ps)
lowest_is [] h = absurd (not-suc-le-zero h)
lowest_is (p ∷ []) h = (0, omega arith, refl)
lowest_is (p ∷ (q ∷ ps)) h = go (lowest_is (q ∷ ps) (omega arith)) (ltb p.number (lowest_of (q ∷ ps))) refl
  where
    go : (j : ℕ) × (j < length (q ∷ ps)) × ((place_at (q ∷ ps) j).number ≡ lowest_of (q ∷ ps)) → (b : Bool) → ltb p.number (lowest_of (q ∷ ps)) ≡ b
        → (j : ℕ) × (j < suc (length (q ∷ ps))) × ((place_at (p ∷ (q ∷ ps)) j).number ≡ min p.number (lowest_of (q ∷ ps)))
    go (j, l, e) true t = let k : p.number < lowest_of (q ∷ ps) = ltb-true _ _ t in (0, omega arith, omega arith)
    go (j, l, e) false t = let k : lowest_of (q ∷ ps) ≤ p.number = ltb-false _ _ t in (suc j, omega arith, omega arith)

pub lowest_found : (ps : List Place) → 0 < length ps → find (lowest_of ps) ps < length ps
lowest_found ps h = let w = lowest_is ps h in find_some (lowest_of ps) ps w.0 w.1 w.2

-- ---- the rows, as the code searches and counts them

abbrev pub row_number : List ℕ → ℕ
row_number r = get_or r 0 0

find_rows : (n : ℕ) (rs : List (List ℕ)) → position_or_len (λ (r : List ℕ). eqb (row_number r) n) rs ≡ find n (map place_of rs)
find_rows n [] = refl
find_rows n (r ∷ rs) =
    let ih = find_rows n rs in
    split (eqb (row_number r) n) (λ e. rw e refl) (λ e. rw e (omega arith))

-- the row at which a search from the front ends, past the last where none has the number
pub first_row : (n i : ℕ) (rs : List (List ℕ)) → i ≤ length rs → ((j : ℕ) → j < i → row_number (get_or rs j []) ≡ n → ⊥) → (i < length rs → row_number (get_or rs i []) ≡ n)
    → i ≡ find n (map place_of rs)
first_row n i rs l before at =
    sym (position_or_len_is (λ (r : List ℕ). eqb (row_number r) n) rs i [] l (λ k h. ne_eqb _ _ (before k h)) (λ h. eq-eqb _ _ (at h))) ∙ find_rows n rs

fold_max : (a : ℕ) (rs : List (List ℕ)) → fold max a (map row_number rs) ≡ max a (highest_of (map place_of rs))
fold_max a [] = omega arith
fold_max a (r ∷ rs) = let ih = fold_max (max a (row_number r)) rs in omega arith

pub highest_rows : (rs : List (List ℕ)) → unwrap_or (reduce max (map row_number rs)) 0 ≡ highest_of (map place_of rs)
highest_rows [] = refl
highest_rows (r ∷ rs) = fold_max (row_number r) rs

fold_min : (a : ℕ) (r : List ℕ) (rs : List (List ℕ)) → fold min a (map row_number (r ∷ rs)) ≡ min a (lowest_of (map place_of (r ∷ rs)))
fold_min a r [] = refl
fold_min a r (q ∷ rs) = let ih = fold_min (min a (row_number r)) q rs in omega arith

pub lowest_rows : (rs : List (List ℕ)) → unwrap_or (reduce min (map row_number rs)) 0 ≡ lowest_of (map place_of rs)
lowest_rows [] = refl
lowest_rows (r ∷ []) = refl
lowest_rows (r ∷ (q ∷ rs)) = fold_min (row_number r) q rs

pub count_rows : (test : Place → Bool) (rs : List (List ℕ)) → length (filter (λ (r : List ℕ). test (place_of r)) rs) ≡ how_many test (map place_of rs)
count_rows test [] = refl
count_rows test (r ∷ rs) =
    let ih = count_rows test rs in
    split (test (place_of r)) (λ e. rw e (omega arith)) (λ e. rw e ih)

-- all of them, counted in a loop: from the front up to i, or from the end down to i
module _ (test : Place → Bool) (rs : List (List ℕ)) (i : ℕ) where
  abbrev passes : List ℕ → Bool
  passes r = test (place_of r)

  pub counted_up : length rs ≤ i → count_by passes (take i rs) ≡ how_many test (map place_of rs)
  counted_up l = ap (count_by passes) (take_all i rs l) ∙ sym (length-filter passes rs) ∙ count_rows test rs

  pub counted_down : i ≡ 0 → count_by passes (drop i rs) ≡ how_many test (map place_of rs)
  counted_down z = ap (λ (k : ℕ). count_by passes (drop k rs)) z ∙ sym (length-filter passes rs) ∙ count_rows test rs

  -- none is counted yet
  pub counted_none : length rs ≤ i → 0 ≡ count_by passes (drop i rs)
  counted_none l = sym (ap (count_by passes) (drop_all i rs l))

-- ---- the query

pub query_found : (ps : List Place) (n : ℕ) → 0 < n → is_partially_received ps n ≡ true → (j : ℕ) × (j < length ps) × ((place_at ps j).number ≡ n)
unfolding has_number
query_found ps n h e =
    let t : ltb (find n ps) (length ps) ≡ true = rw (ne_eqb n 0 (λ z. omega arith)) at e in
    let l : find n ps < length ps = ltb-true (find n ps) (length ps) t in
    (find n ps, l, find_hit n ps l)

pub query_finds : (ps : List Place) (n : ℕ) → 0 < n → (j : ℕ) × (j < length ps) × ((place_at ps j).number ≡ n) → is_partially_received ps n ≡ true
unfolding has_number
query_finds ps n h w = rw (ne_eqb n 0 (λ z. omega arith)) (lt-ltb (find n ps) (length ps) (find_some n ps w.0 w.1 w.2))
