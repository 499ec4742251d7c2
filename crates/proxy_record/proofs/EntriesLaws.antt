-- Laws of lists of entries: where a number stands in one that rises, what is below it and from it on. Assumes nothing.
use Prim.Native.Nat.{ℕ, zero, suc, ◌+◌, ◌<◌, ◌≤◌}
use native.Mathlib.Omega.{arith}
use native.Mathlib.Nat.{le_of_suc-le-suc, not-suc-le-zero}
use mathlib.Core.Logic.{⊎_elim}
use mathlib.Core.Path.{◌≡◌, refl, sym, ap}
use mathlib.Core.List.{List, [], ◌∷◌}
use lib.ListN.{length, take, drop, get_or}
use borrow.Author.Tests.{lt-ltb, le-ltb, le-leb, lt-leb}
use Rattle.outcome.proofs.Split.{split_lt}
use Rattle.proxy_record.specs.Entries.{Entry, RisingEntries, below, from}
use Rattle.proxy_record.specs.Rows.{blank_entry, rank}

pub rising_weaken : (lo lo' hi : ℕ) (l : List Entry) → lo' ≤ lo → RisingEntries lo hi l → RisingEntries lo' hi l
rising_weaken lo lo' hi [] h r = tt
rising_weaken lo lo' hi (x ∷ l) h r = (omega arith, r.1, r.2)

pub rising_any : (lo hi : ℕ) (l : List Entry) → RisingEntries lo hi l → RisingEntries 0 hi l
rising_any lo hi l r = rising_weaken lo 0 hi l (omega arith) r

pub rising_get : (lo hi i : ℕ) (l : List Entry) → RisingEntries lo hi l → i < length l → lo ≤ (get_or l i blank_entry).number
rising_get lo hi i [] r h = omega arith
rising_get lo hi zero (x ∷ l) r h = r.0
rising_get lo hi (suc i) (x ∷ l) r h = omega (arith, rising_get (suc x.number) hi i l r.2 (le_of_suc-le-suc h))

pub rising_top : (lo hi i : ℕ) (l : List Entry) → RisingEntries lo hi l → i < length l → (get_or l i blank_entry).number < hi
rising_top lo hi i [] r h = omega arith
rising_top lo hi zero (x ∷ l) r h = r.1
rising_top lo hi (suc i) (x ∷ l) r h = rising_top (suc x.number) hi i l r.2 (le_of_suc-le-suc h)

-- none is below what all are at least, and all are from there on
pub below_none : (lo hi n : ℕ) (l : List Entry) → RisingEntries lo hi l → n ≤ lo → below n l ≡ []
unfolding below
below_none lo hi n [] r h = refl
below_none lo hi n (x ∷ l) r h = rw (le-ltb x.number n (omega arith)) (below_none (suc x.number) hi n l r.2 (omega arith))

pub from_all : (lo hi n : ℕ) (l : List Entry) → RisingEntries lo hi l → n ≤ lo → from n l ≡ l
unfolding from
from_all lo hi n [] r h = refl
from_all lo hi n (x ∷ l) r h = rw (le-leb n x.number (omega arith)) (ap (λ (m : List Entry). x ∷ m) (from_all (suc x.number) hi n l r.2 (omega arith)))

pub from_skip : (n : ℕ) (x : Entry) (l : List Entry) → x.number < n → from n (x ∷ l) ≡ from n l
unfolding from
from_skip n x l h = rw (lt-leb n x.number h)

-- a place with less than n before it and n or more at it is n's rank
pub place_rank : (lo hi n r : ℕ) (l : List Entry) → RisingEntries lo hi l → r ≤ length l
    → ((i : ℕ) → r ≡ suc i → (get_or l i blank_entry).number < n) → (r < length l → n ≤ (get_or l r blank_entry).number) → r ≡ rank n l
unfolding below
place_rank lo hi n r [] s h low high = omega arith
place_rank lo hi n zero (x ∷ l) s h low high =
    rw (le-ltb x.number n (high (omega arith)), below_none (suc x.number) hi n l s.2 (omega (arith, high (omega arith))))
place_rank lo hi n (suc zero) (x ∷ l) s h low high =
    rw (lt-ltb x.number n (low 0 refl))
    (ap suc (place_rank (suc x.number) hi n zero l s.2 (omega arith) (λ i e. omega arith) (λ z. high (omega arith))))
place_rank lo hi n (suc (suc j)) (x ∷ l) s h low high =
    rw (lt-ltb x.number n (omega (arith, low (suc j) refl, rising_get (suc x.number) hi j l s.2 (omega arith))))
    (ap suc (place_rank (suc x.number) hi n (suc j) l s.2 (omega arith) (λ i e. low (suc i) (ap suc e)) (λ z. high (omega arith))))

pub below_take : (lo hi n : ℕ) (l : List Entry) → RisingEntries lo hi l → take (rank n l) l ≡ below n l
unfolding below
below_take lo hi n [] r = refl
below_take lo hi n (x ∷ l) r =
    ⊎_elim
    (λ h. rw (lt-ltb x.number n h) (ap (λ (m : List Entry). x ∷ m) (below_take (suc x.number) hi n l r.2)))
    (λ h. rw (le-ltb x.number n h, below_none (suc x.number) hi n l r.2 (omega arith)))
    (split_lt x.number n)

pub from_drop : (lo hi n : ℕ) (l : List Entry) → RisingEntries lo hi l → drop (rank n l) l ≡ from n l
unfolding below from
from_drop lo hi n [] r = refl
from_drop lo hi n (x ∷ l) r =
    ⊎_elim
    (λ h. rw (lt-ltb x.number n h, lt-leb n x.number h) (from_drop (suc x.number) hi n l r.2))
    (λ h. rw (le-ltb x.number n h, le-leb n x.number h, below_none (suc x.number) hi n l r.2 (omega arith), from_all (suc x.number) hi n l r.2 (omega arith)))
    (split_lt x.number n)

pub rank_within : (n : ℕ) (l : List Entry) → rank n l ≤ length l
unfolding below
rank_within n [] = omega arith
rank_within n (x ∷ l) =
    ⊎_elim
    (λ h. rw (lt-ltb x.number n h) (omega (arith, rank_within n l)))
    (λ h. rw (le-ltb x.number n h) (omega (arith, rank_within n l)))
    (split_lt x.number n)

pub rank_low : (lo hi n i : ℕ) (l : List Entry) → RisingEntries lo hi l → i < rank n l → (get_or l i blank_entry).number < n
unfolding below
rank_low lo hi n i [] r h = omega arith
rank_low lo hi n zero (x ∷ l) r h =
    ⊎_elim
    (λ k. k)
    (λ k. absurd (not-suc-le-zero (rw (le-ltb x.number n k, below_none (suc x.number) hi n l r.2 (omega arith)) at h)))
    (split_lt x.number n)
rank_low lo hi n (suc i) (x ∷ l) r h =
    ⊎_elim
    (λ k. rank_low (suc x.number) hi n i l r.2 (le_of_suc-le-suc (rw (lt-ltb x.number n k) at h)))
    (λ k. absurd (not-suc-le-zero (rw (le-ltb x.number n k, below_none (suc x.number) hi n l r.2 (omega arith)) at h)))
    (split_lt x.number n)

pub rank_high : (lo hi n : ℕ) (l : List Entry) → RisingEntries lo hi l → rank n l < length l → n ≤ (get_or l (rank n l) blank_entry).number
unfolding below
rank_high lo hi n [] r h = omega arith
rank_high lo hi n (x ∷ l) r h =
    ⊎_elim
    (λ k. rw (lt-ltb x.number n k) (rank_high (suc x.number) hi n l r.2 (le_of_suc-le-suc (rw (lt-ltb x.number n k) at h))))
    (λ k. rw (le-ltb x.number n k, below_none (suc x.number) hi n l r.2 (omega arith)) k)
    (split_lt x.number n)

pub rising_step : (lo hi i : ℕ) (l : List Entry) → RisingEntries lo hi l → suc i < length l → (get_or l i blank_entry).number < (get_or l (suc i) blank_entry).number
rising_step lo hi i [] r h = omega arith
rising_step lo hi zero (x ∷ l) r h = rising_get (suc x.number) hi 0 l r.2 (le_of_suc-le-suc h)
rising_step lo hi (suc i) (x ∷ l) r h = rising_step (suc x.number) hi i l r.2 (le_of_suc-le-suc h)

pub rising_from : (lo hi n : ℕ) (l : List Entry) → RisingEntries lo hi l → RisingEntries n hi (from n l)
unfolding from
rising_from lo hi n [] r = tt
rising_from lo hi n (x ∷ l) r =
    ⊎_elim
    (λ h. rw (lt-leb n x.number h) (rising_from (suc x.number) hi n l r.2))
    (λ h.
    let z : n ≤ suc x.number = omega arith in
    rw (le-leb n x.number h, from_all (suc x.number) hi n l r.2 z) (h, r.1, r.2))
    (split_lt x.number n)

-- the rank of an entry's own number, and of the next
pub rank_entry : (lo hi i : ℕ) (l : List Entry) → RisingEntries lo hi l → i < length l → (rank (get_or l i blank_entry).number l ≡ i) × (rank (suc (get_or l i blank_entry).number) l ≡ suc i)
rank_entry lo hi i l r h =
    let n = (get_or l i blank_entry).number in (
      sym
          (place_rank lo hi n i l r (omega arith)
          (λ j e. let s : j + 1 ≡ i = omega arith in let k : suc j < length l = omega arith in rw e (rising_step lo hi j l r k))
          (λ k. omega arith)),
      sym
          (place_rank lo hi (suc n) (suc i) l r h
          (λ j e. let s : i ≡ j = omega arith in rw s (omega arith))
          (λ k. rising_step lo hi i l r k)),
    )
