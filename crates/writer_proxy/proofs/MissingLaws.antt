-- Laws of `specs/Missing.antt`: the list by its parts, how many it has, which numbers and in what order, and its refusals. Assumes nothing.
use Prim.Native.Nat.{ℕ, zero, suc, ◌+◌, ◌-◌, ◌<◌, ◌≤◌, max}
use native.Mathlib.Omega.{arith}
use native.Mathlib.Nat.{suc-add, add-zero, zero-add, sub_self}
use native.Mathlib.Numerals.{add-one}
use mathlib.Core.Logic.{◌⊎◌, inl, inr, ⊎_elim, ◌↔◌}
use mathlib.Core.Path.{◌≡◌, refl, ap}
use mathlib.Core.Bool.{Bool, true, false, cond}
use mathlib.Core.List.Memᴰ
use mathlib.Core.List.{List, [], ◌∷◌, ◌++◌, map, Memᴰ}
use lib.ListN.{length, get_or}
use lib.Dec.{ltb, eqb}
use lib.IntN.{ℤ, pos}
use borrow.Author.Tests.{lt-ltb, le-ltb, eq-eqb, ne_eqb}
use Rattle.sequence_number.specs.Number.{top, nat_of}
use Rattle.outcome.specs.Outcome.{refused, done, refusal, is_refused}
use Rattle.outcome.specs.Lent.{over}
use Rattle.outcome.proofs.Split.{split, split_lt, split_eq, clash}
use Rattle.proxy_record.specs.Entries.{Entry, RisingEntries, is_tracked}
use Rattle.proxy_record.specs.State.{Proxy}
use Rattle.proxy_record.specs.Rows.{blank_entry, rank}
use Rattle.proxy_record.proofs.LookLaws.{rank_next}
use Rattle.writer_proxy.specs.Missing.{untracked_from, Ascending, missing_numbers, missing_listed}

-- whether n is tracked, as the list of the one number n
pub one_missing : (lo hi n : ℕ) (l : List Entry) → RisingEntries lo hi l
    → ((untracked_from n 1 l ≡ []) × (rank (suc n) l ≡ suc (rank n l)) × (rank n l < length l) × ((get_or l (rank n l) blank_entry).number ≡ n))
    ⊎ ((untracked_from n 1 l ≡ n ∷ []) × (rank (suc n) l ≡ rank n l) × (rank n l < length l → (get_or l (rank n l) blank_entry).number ≡ n → ⊥))
unfolding untracked_from
one_missing lo hi n l r =
    ⊎_elim
    (λ w. inl (rw w.0, w.1, w.2, w.3))
    (λ w. inr (rw w.0, w.1, w.2))
    (rank_next lo hi n l r)

cond_append : (b : Bool) (n : ℕ) (x y : List ℕ) → cond b (x ++ y) (n ∷ (x ++ y)) ≡ cond b x (n ∷ x) ++ y
cond_append true n x y = refl
cond_append false n x y = refl

pub missing_append : (lo k j : ℕ) (l : List Entry) → untracked_from lo (k + j) l ≡ untracked_from lo k l ++ untracked_from (lo + k) j l
unfolding untracked_from
missing_append lo zero j l = rw (zero-add, add-zero)
missing_append lo (suc k) j l =
    let e : lo + suc k ≡ suc lo + k = omega arith in
    rw (suc-add, e, missing_append (suc lo) k j l) (cond_append (is_tracked lo l) lo (untracked_from (suc lo) k l) (untracked_from (suc lo + k) j l))

pub missing_first : (lo k : ℕ) (l : List Entry) → untracked_from lo (suc k) l ≡ untracked_from lo 1 l ++ untracked_from (suc lo) k l
missing_first lo k l =
    let e : suc k ≡ 1 + k = omega arith in
    rw (e, missing_append lo 1 k l, add-one)

missing_nil : (lo : ℕ) (l : List Entry) → length (untracked_from lo 0 l) ≡ 0
unfolding untracked_from
missing_nil lo l = refl

-- what is missing and what is tracked make up the whole
pub missing_count : (hi lo k : ℕ) (l : List Entry) → RisingEntries 0 hi l → length (untracked_from lo k l) + rank (lo + k) l ≡ k + rank lo l
missing_count hi lo zero l r = rw add-zero (omega (arith, missing_nil lo l))
missing_count hi lo (suc k) l r =
    let e : lo + suc k ≡ suc lo + k = omega arith in
    let h = missing_count hi (suc lo) k l r in
    ⊎_elim
    (λ w. rw (missing_first lo k l, w.0, e) (omega (arith, h, w.1)))
    (λ w. rw (missing_first lo k l, w.0, e) (omega (arith, h, w.1)))
    (one_missing 0 hi lo l r)

pub missing_within : (lo k : ℕ) (l : List Entry) → length (untracked_from lo k l) ≤ k
unfolding untracked_from
missing_within lo zero l = omega arith
missing_within lo (suc k) l =
    let h = missing_within (suc lo) k l in
    split (is_tracked lo l) (λ e. rw e (omega arith)) (λ e. rw e (omega arith))

pub missing_none : (lo : ℕ) (l : List Entry) → untracked_from lo (lo - lo) l ≡ []
unfolding untracked_from
missing_none lo l = rw sub_self

-- `missing_seqnums`: its three answers
module _ (start end : ℤ) (s : Proxy) (out : List ℤ) where
  pub listed_last : nat_of end ≡ top → (refused 4 ≡ (missing_listed start end s out).answer) × (out ≡ (missing_listed start end s out).list)
  unfolding missing_listed
  listed_last e = rw (eq-eqb (nat_of end) top e) (refl, refl)

  pub listed_short : (nat_of end ≡ top → ⊥) → length out < length (missing_numbers start end s) → (refused 3 ≡ (missing_listed start end s out).answer) × (out ≡ (missing_listed start end s out).list)
  unfolding missing_listed
  listed_short e h = rw (ne_eqb (nat_of end) top e, lt-ltb (length out) (length (missing_numbers start end s)) h) (refl, refl)

  pub listed_all : (r : ℕ) (o : List ℤ) → (nat_of end ≡ top → ⊥) → length (missing_numbers start end s) ≤ length out → r ≡ length (missing_numbers start end s)
      → o ≡ over (map pos (missing_numbers start end s)) out → (done r ≡ (missing_listed start end s out).answer) × (o ≡ (missing_listed start end s out).list)
  unfolding missing_listed
  listed_all r o e h p q = rw (ne_eqb (nat_of end) top e, le-ltb (length out) (length (missing_numbers start end s)) h) (ap done p, q)

  pub missing_ends : (lo hi : ℕ) → lo ≡ max s.base (nat_of start) → hi ≡ max lo (nat_of end + 1) → untracked_from lo (hi - lo) s.tracked ≡ missing_numbers start end s
  missing_ends lo hi e f =
      let k : hi - lo ≡ suc (nat_of end) - max s.base (nat_of start) = omega arith in
      rw (k, e)

-- which numbers the list has, and their order
pub missing_has : (n lo k : ℕ) (l : List Entry) → Memᴰ n (untracked_from lo k l) ↔ ((lo ≤ n) × (n < lo + k) × (is_tracked n l ≡ false))
unfolding untracked_from
missing_has n lo zero l = (λ h. absurd (Memᴰ.not-nil h), λ h. absurd (omega (arith, h.0, h.1)))
missing_has n lo (suc k) l =
    let i = missing_has n (suc lo) k l in
    split (is_tracked lo l)
    (λ e.
    rw e (
      λ h. let m = i.0 h in (omega (arith, m.0), omega (arith, m.1), m.2),
      λ h.
          ⊎_elim
          (λ f. let z : ◌≡◌ {A = ℕ} 0 1 = (let g : is_tracked lo l ≡ false = rw f at h.2 in cc) in absurd (omega arith))
          (λ f. i.1 (omega (arith, h.0), omega (arith, h.1), h.2))
          (split_eq n lo),
    ))
    (λ e.
    rw e (
      λ h.
          ⊎_elim
          (λ f. (omega arith, omega arith, rw f e))
          (λ t. let m = i.0 t in (omega (arith, m.0), omega (arith, m.1), m.2))
          (Memᴰ.cases_cons h),
      λ h.
          ⊎_elim
          (λ f. Memᴰ.head f)
          (λ f. Memᴰ.tail (i.1 (omega (arith, h.0), omega (arith, h.1), h.2)))
          (split_eq n lo),
    ))

ascending_weaken : (lo : ℕ) (l : List ℕ) → Ascending (suc lo) l → Ascending lo l
ascending_weaken lo [] a = tt
ascending_weaken lo (x ∷ l) a = (omega (arith, a.0), a.1)

pub missing_ascends : (lo k : ℕ) (l : List Entry) → Ascending lo (untracked_from lo k l)
unfolding untracked_from
missing_ascends lo zero l = tt
missing_ascends lo (suc k) l =
    split (is_tracked lo l)
    (λ e. rw e (ascending_weaken lo (untracked_from (suc lo) k l) (missing_ascends (suc lo) k l)))
    (λ e. rw e (omega arith, missing_ascends (suc lo) k l))

-- its refusals: the number that document 01 gives, and that a refused call writes nothing
pub missing_number : (start end : ℤ) (s : Proxy) (out : List ℤ)
    → refusal (missing_listed start end s out).answer ≡ cond (eqb (nat_of end) top) 4 (cond (ltb (length out) (length (missing_numbers start end s))) 3 0)
unfolding missing_listed
missing_number start end s out =
    split (eqb (nat_of end) top)
    (λ e. rw e)
    (λ e. rw e (split (ltb (length out) (length (missing_numbers start end s))) (λ a. rw a) (λ a. rw a)))

pub missing_refused_if : (start end : ℤ) (s : Proxy) (out : List ℤ)
    → (is_refused (missing_listed start end s out).answer ≡ true) ↔ ((nat_of end ≡ top) ⊎ (length out < length (missing_numbers start end s)))
unfolding missing_listed
missing_refused_if start end s out =
    ⊎_elim
    (λ e. rw (eq-eqb (nat_of end) top e) (λ h. inl e, λ h. refl))
    (λ e.
    ⊎_elim
    (λ f. rw (ne_eqb (nat_of end) top e, lt-ltb (length out) (length (missing_numbers start end s)) f) (λ h. inr f, λ h. refl))
    (λ f.
    rw (ne_eqb (nat_of end) top e, le-ltb (length out) (length (missing_numbers start end s)) f)
    (λ h. absurd (clash false h refl), ⊎_elim (λ h. absurd (e h)) (λ h. absurd (omega arith))))
    (split_lt (length out) (length (missing_numbers start end s))))
    (split_eq (nat_of end) top)

pub missing_refused_same : (start end : ℤ) (s : Proxy) (out : List ℤ) (k : ℕ) → (missing_listed start end s out).answer ≡ refused k → (missing_listed start end s out).list ≡ out
unfolding missing_listed
missing_refused_same start end s out k =
    split (eqb (nat_of end) top)
    (λ e. rw e (λ h. refl))
    (λ e.
    rw e
    (split (ltb (length out) (length (missing_numbers start end s)))
    (λ a. rw a (λ h. refl))
    (λ a. rw a (λ h. let z : ◌≡◌ {A = ℕ} 0 1 = cc in absurd (omega arith)))))
