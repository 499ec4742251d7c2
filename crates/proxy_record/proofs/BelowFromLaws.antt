-- Laws of `below` and `from` over any list of entries: of two lists joined, one after the other, and that the two make up the whole. Assumes nothing.
use Prim.Native.Nat.{ℕ, ◌+◌, ◌<◌, ◌≤◌}
use native.Mathlib.Omega.{arith}
use mathlib.Core.Logic.{⊎_elim}
use mathlib.Core.Path.{◌≡◌, refl, ap}
use mathlib.Core.List.{List, [], ◌∷◌, ◌++◌}
use lib.ListN.{length}
use borrow.Author.Tests.{lt-ltb, le-ltb, le-leb, lt-leb}
use Rattle.outcome.proofs.Split.{split_lt}
use Rattle.proxy_record.specs.Entries.{Entry, below, from}
use Rattle.proxy_record.specs.Rows.{rank}

pub below_append : (n : ℕ) (x y : List Entry) → below n (x ++ y) ≡ below n x ++ below n y
unfolding below
below_append n [] y = refl
below_append n (e ∷ x) y =
    ⊎_elim
    (λ h. rw (lt-ltb e.number n h) (ap (λ (m : List Entry). e ∷ m) (below_append n x y)))
    (λ h. rw (le-ltb e.number n h) (below_append n x y))
    (split_lt e.number n)

pub from_append : (n : ℕ) (x y : List Entry) → from n (x ++ y) ≡ from n x ++ from n y
unfolding from
from_append n [] y = refl
from_append n (e ∷ x) y =
    ⊎_elim
    (λ h. rw (lt-leb n e.number h) (from_append n x y))
    (λ h. rw (le-leb n e.number h) (ap (λ (m : List Entry). e ∷ m) (from_append n x y)))
    (split_lt e.number n)

pub below_below : (a n : ℕ) (l : List Entry) → a ≤ n → below n (below a l) ≡ below a l
unfolding below
below_below a n [] h = refl
below_below a n (e ∷ l) h =
    ⊎_elim
    (λ k.
    let z : e.number < n = omega arith in
    rw (lt-ltb e.number a k, lt-ltb e.number n z) (ap (λ (m : List Entry). e ∷ m) (below_below a n l h)))
    (λ k. rw (le-ltb e.number a k) (below_below a n l h))
    (split_lt e.number a)

pub below_lower : (a n : ℕ) (l : List Entry) → n ≤ a → below n (below a l) ≡ below n l
unfolding below
below_lower a n [] h = refl
below_lower a n (e ∷ l) h =
    ⊎_elim
    (λ k.
    ⊎_elim
    (λ j. rw (lt-ltb e.number a k, lt-ltb e.number n j) (ap (λ (m : List Entry). e ∷ m) (below_lower a n l h)))
    (λ j. rw (lt-ltb e.number a k, le-ltb e.number n j) (below_lower a n l h))
    (split_lt e.number n))
    (λ k.
    let z : n ≤ e.number = omega arith in
    rw (le-ltb e.number a k, le-ltb e.number n z) (below_lower a n l h))
    (split_lt e.number a)

pub from_below : (a n : ℕ) (l : List Entry) → a ≤ n → from n (below a l) ≡ []
unfolding below from
from_below a n [] h = refl
from_below a n (e ∷ l) h =
    ⊎_elim
    (λ k.
    let z : e.number < n = omega arith in
    rw (lt-ltb e.number a k, lt-leb n e.number z) (from_below a n l h))
    (λ k. rw (le-ltb e.number a k) (from_below a n l h))
    (split_lt e.number a)

pub below_from : (a n : ℕ) (l : List Entry) → n ≤ a → below n (from a l) ≡ []
unfolding below from
below_from a n [] h = refl
below_from a n (e ∷ l) h =
    ⊎_elim
    (λ k. rw (lt-leb a e.number k) (below_from a n l h))
    (λ k.
    let z : n ≤ e.number = omega arith in
    rw (le-leb a e.number k, le-ltb e.number n z) (below_from a n l h))
    (split_lt e.number a)

-- the two go by themselves
pub below_from_swap : (a n : ℕ) (l : List Entry) → from a (below n l) ≡ below n (from a l)
unfolding below from
below_from_swap a n [] = refl
below_from_swap a n (e ∷ l) =
    ⊎_elim
    (λ k.
    ⊎_elim
    (λ j. rw (lt-ltb e.number n k, lt-leb a e.number j) (below_from_swap a n l))
    (λ j. rw (lt-ltb e.number n k, le-leb a e.number j, lt-ltb e.number n k) (ap (λ (m : List Entry). e ∷ m) (below_from_swap a n l)))
    (split_lt e.number a))
    (λ k.
    ⊎_elim
    (λ j. rw (le-ltb e.number n k, lt-leb a e.number j) (below_from_swap a n l))
    (λ j. rw (le-ltb e.number n k, le-leb a e.number j, le-ltb e.number n k) (below_from_swap a n l))
    (split_lt e.number a))
    (split_lt e.number n)

pub from_from : (a n : ℕ) (l : List Entry) → a ≤ n → from n (from a l) ≡ from n l
unfolding from
from_from a n [] h = refl
from_from a n (e ∷ l) h =
    ⊎_elim
    (λ k.
    let z : e.number < n = omega arith in
    rw (lt-leb a e.number k, lt-leb n e.number z) (from_from a n l h))
    (λ k.
    ⊎_elim
    (λ j. rw (le-leb a e.number k, lt-leb n e.number j) (from_from a n l h))
    (λ j. rw (le-leb a e.number k, le-leb n e.number j) (ap (λ (m : List Entry). e ∷ m) (from_from a n l h)))
    (split_lt e.number n))
    (split_lt e.number a)

pub from_lower : (a n : ℕ) (l : List Entry) → n ≤ a → from n (from a l) ≡ from a l
unfolding from
from_lower a n [] h = refl
from_lower a n (e ∷ l) h =
    ⊎_elim
    (λ k. rw (lt-leb a e.number k) (from_lower a n l h))
    (λ k.
    let z : n ≤ e.number = omega arith in
    rw (le-leb a e.number k, le-leb n e.number z) (ap (λ (m : List Entry). e ∷ m) (from_lower a n l h)))
    (split_lt e.number a)

-- the two make up the whole
pub length_split : (n : ℕ) (l : List Entry) → rank n l + length (from n l) ≡ length l
unfolding below from
length_split n [] = refl
length_split n (x ∷ l) =
    ⊎_elim
    (λ h. rw (lt-ltb x.number n h, lt-leb n x.number h) (omega (arith, length_split n l)))
    (λ h. rw (le-ltb x.number n h, le-leb n x.number h) (omega (arith, length_split n l)))
    (split_lt x.number n)
