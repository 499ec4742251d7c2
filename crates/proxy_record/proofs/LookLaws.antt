-- Laws of `look`, `is_tracked` and `Tracked`: what a table says of a number, by the number's place, below a number and from it on. Assumes nothing.
use Prim.Native.Nat.{ℕ, suc, suc-le-suc, ◌<◌, ◌≤◌}
use native.Mathlib.Omega.{arith}
use native.Mathlib.Nat.{le_of_suc-le-suc, not-suc-le-zero}
use mathlib.Core.Logic.{◌⊎◌, inl, inr, ⊎_elim, ◌↔◌}
use mathlib.Core.Path.{◌≡◌, refl, ap}
use mathlib.Core.Bool.{true, false, cond}
use Rattle.std.specs.Prelude.{Some, None}
use mathlib.Core.List.{List, [], ◌∷◌, ◌++◌}
use lib.ListN.{length, get_or}
use lib.Dec.{ltb, leb, eqb}
use borrow.Author.Tests.{lt-ltb, le-ltb, le-leb, lt-leb, eq-eqb, ne_eqb}
use Rattle.outcome.proofs.Split.{split, split_lt, split_eq}
use Rattle.proxy_record.specs.Entries.{Entry, RisingEntries, below, from, look, is_tracked, Tracked}
use Rattle.proxy_record.specs.Rows.{blank_entry, rank}
use Rattle.proxy_record.proofs.EntriesLaws.{below_none}

-- a number is tracked exactly if the table says something of it
pub is_tracked_lem : (n : ℕ) (l : List Entry) → (is_tracked n l ≡ true) ↔ Tracked n l
unfolding look
is_tracked_lem n [] = (λ h. let z : ◌≡◌ {A = ℕ} 0 1 = cc in absurd (omega arith), λ h. absurd h)
is_tracked_lem n (x ∷ l) =
    ⊎_elim
    (λ e. rw (eq-eqb x.number n e) (λ h. inl e, λ h. refl))
    (λ e. rw (ne_eqb x.number n e) (λ h. inr ((is_tracked_lem n l).0 h), λ h. ⊎_elim (λ f. absurd (e f)) (λ t. (is_tracked_lem n l).1 t) h))
    (split_eq x.number n)

pub not_tracked : (n : ℕ) (l : List Entry) → (is_tracked n l ≡ false) ↔ (Tracked n l → ⊥)
not_tracked n l = (
  λ h t. let k = (is_tracked_lem n l).1 t in let z : ◌≡◌ {A = ℕ} 0 1 = cc in omega arith,
  λ h. split (is_tracked n l) (λ e. absurd (h ((is_tracked_lem n l).0 e))) (λ e. e),
)

pub tracked_from : (n b : ℕ) (l : List Entry) → Tracked n (from b l) → Tracked n l
unfolding from
tracked_from n b [] t = t
tracked_from n b (x ∷ l) t =
    split (leb b x.number)
    (λ e. ⊎_elim (λ f. inl f) (λ u. inr (tracked_from n b l u)) (rw e at t))
    (λ e. inr (tracked_from n b l (rw e at t)))

pub untracked_cons : (n : ℕ) (x : Entry) (l : List Entry) → (x.number ≡ n → ⊥) → (Tracked n l → ⊥) → Tracked n (x ∷ l) → ⊥
untracked_cons n x l f g (inl e) = f e
untracked_cons n x l f g (inr t) = g t

pub untracked_low : (lo hi n : ℕ) (l : List Entry) → RisingEntries lo hi l → n < lo → Tracked n l → ⊥
untracked_low lo hi n [] r h = λ t. t
untracked_low lo hi n (x ∷ l) r h =
    let k : n < suc x.number = omega (arith, r.0) in
    untracked_cons n x l (λ e. omega arith) (untracked_low (suc x.number) hi n l r.2 k)

pub look_low : (lo hi n : ℕ) (l : List Entry) → RisingEntries lo hi l → n < lo → look n l ≡ None
unfolding look
look_low lo hi n [] r h = refl
look_low lo hi n (x ∷ l) r h =
    let a : x.number ≡ n → ⊥ = λ e. omega arith in
    let b : n < suc x.number = omega arith in
    rw (ne_eqb x.number n a) (look_low (suc x.number) hi n l r.2 b)

-- whether n is tracked, and its rank's step, in one
pub rank_next : (lo hi n : ℕ) (l : List Entry) → RisingEntries lo hi l
    → ((look n l ≡ Some (get_or l (rank n l) blank_entry).mark) × (rank (suc n) l ≡ suc (rank n l)) × (rank n l < length l) × ((get_or l (rank n l) blank_entry).number ≡ n))
    ⊎ ((look n l ≡ None) × (rank (suc n) l ≡ rank n l) × (rank n l < length l → (get_or l (rank n l) blank_entry).number ≡ n → ⊥))
unfolding look below
rank_next lo hi n [] r = inr (refl, refl, λ h. absurd (not-suc-le-zero h))
rank_next lo hi n (x ∷ l) r =
    ⊎_elim
    (λ h.
    let a : x.number ≡ n → ⊥ = λ e. omega arith in
    let b : x.number < suc n = omega arith in
    rw (ne_eqb x.number n a, lt-ltb x.number n h, lt-ltb x.number (suc n) b)
    (⊎_elim
    (λ w. inl (w.0, ap suc w.1, suc-le-suc w.2, w.3))
    (λ w. inr (w.0, ap suc w.1, λ k. w.2 (le_of_suc-le-suc k)))
    (rank_next (suc x.number) hi n l r.2)))
    (λ h.
    let z : n ≤ suc x.number = omega arith in
    ⊎_elim
    (λ e.
    let b : x.number < suc n = omega arith in
    let y : suc n ≤ suc x.number = omega arith in
    rw (eq-eqb x.number n e, le-ltb x.number n h, lt-ltb x.number (suc n) b, below_none (suc x.number) hi n l r.2 z, below_none (suc x.number) hi (suc n) l r.2 y)
    (inl (refl, refl, omega arith, e)))
    (λ e.
    let b : suc n ≤ x.number = omega arith in
    let y : suc n ≤ suc x.number = omega arith in
    let v : n < suc x.number = omega arith in
    rw (ne_eqb x.number n e, le-ltb x.number n h, le-ltb x.number (suc n) b, below_none (suc x.number) hi n l r.2 z, below_none (suc x.number) hi (suc n) l r.2 y, look_low (suc x.number) hi n l r.2 v)
    (inr (refl, refl, λ k. e)))
    (split_eq x.number n))
    (split_lt x.number n)

-- what the parts of a table say
pub look_below : (m n : ℕ) (l : List Entry) → m < n → look m (below n l) ≡ look m l
unfolding look below
look_below m n [] h = refl
look_below m n (x ∷ l) h =
    ⊎_elim
    (λ a. rw (lt-ltb x.number n a) (ap (cond (eqb x.number m) (Some x.mark)) (look_below m n l h)))
    (λ a.
    let z : x.number ≡ m → ⊥ = λ e. omega arith in
    rw (le-ltb x.number n a, ne_eqb x.number m z) (look_below m n l h))
    (split_lt x.number n)

pub look_from : (m n : ℕ) (l : List Entry) → n ≤ m → look m (from n l) ≡ look m l
unfolding look from
look_from m n [] h = refl
look_from m n (x ∷ l) h =
    ⊎_elim
    (λ a.
    let z : x.number ≡ m → ⊥ = λ e. omega arith in
    rw (lt-leb n x.number a, ne_eqb x.number m z) (look_from m n l h))
    (λ a. rw (le-leb n x.number a) (ap (cond (eqb x.number m) (Some x.mark)) (look_from m n l h)))
    (split_lt x.number n)

pub look_gone : (m n : ℕ) (l : List Entry) → m < n → look m (from n l) ≡ None
unfolding look from
look_gone m n [] h = refl
look_gone m n (x ∷ l) h =
    ⊎_elim
    (λ a. rw (lt-leb n x.number a) (look_gone m n l h))
    (λ a.
    let z : x.number ≡ m → ⊥ = λ e. omega arith in
    rw (le-leb n x.number a, ne_eqb x.number m z) (look_gone m n l h))
    (split_lt x.number n)

-- what stands before does not bear on a number that it does not have, nor what stands after
pub look_past : (m n : ℕ) (l r : List Entry) → n ≤ m → look m (below n l ++ r) ≡ look m r
unfolding look below
look_past m n [] r h = refl
look_past m n (x ∷ l) r h =
    ⊎_elim
    (λ a.
    let z : x.number ≡ m → ⊥ = λ e. omega arith in
    rw (lt-ltb x.number n a, ne_eqb x.number m z) (look_past m n l r h))
    (λ a. rw (le-ltb x.number n a) (look_past m n l r h))
    (split_lt x.number n)

pub look_before : (m : ℕ) (x r : List Entry) → look m r ≡ None → look m (x ++ r) ≡ look m x
unfolding look
look_before m [] r h = h
look_before m (y ∷ x) r h = ap (cond (eqb y.number m) (Some y.mark)) (look_before m x r h)

pub look_kept : (m n : ℕ) (l : List Entry) → look m (from n l) ≡ cond (ltb m n) None (look m l)
look_kept m n l =
    ⊎_elim
    (λ a. rw (lt-ltb m n a) (look_gone m n l a))
    (λ a. rw (le-ltb m n a) (look_from m n l a))
    (split_lt m n)
