-- Laws of `run_len`: how far a run goes, and what is left from its end on. Assumes nothing.
use Prim.Native.Nat.{ℕ, suc, ◌+◌, ◌<◌, ◌≤◌}
use native.Mathlib.Omega.{arith}
use mathlib.Core.Logic.{inl, inr, ⊎_elim}
use mathlib.Core.Path.{◌≡◌, refl, ap, sym, subst, ◌∙◌}
use mathlib.Core.List.{List, [], ◌∷◌}
use lib.ListN.{length, drop}
use borrow.Author.Tests.{lt-leb, eq-eqb, ne_eqb}
use Rattle.outcome.proofs.Split.{split_lt, split_eq}
use Rattle.proxy_record.specs.Entries.{Entry, RisingEntries, from, run_len, Tracked}
use Rattle.proxy_record.proofs.EntriesLaws.{from_all}
use Rattle.proxy_record.proofs.LookLaws.{untracked_cons, untracked_low}

pub run_bound : (lo hi b : ℕ) (l : List Entry) → RisingEntries lo hi l → b ≤ hi → b + run_len b l ≤ hi
unfolding run_len
run_bound lo hi b [] r h = omega arith
run_bound lo hi b (x ∷ l) r h =
    ⊎_elim
    (λ e. rw (eq-eqb x.number b e) (omega (arith, run_bound (suc x.number) hi (suc b) l r.2 (omega (arith, r.1)))))
    (λ e. rw (ne_eqb x.number b e) (omega arith))
    (split_eq x.number b)

pub run_within : (b : ℕ) (l : List Entry) → run_len b l ≤ length l
unfolding run_len
run_within b [] = omega arith
run_within b (x ∷ l) =
    ⊎_elim
    (λ e. rw (eq-eqb x.number b e) (omega (arith, run_within (suc b) l)))
    (λ e. rw (ne_eqb x.number b e) (omega arith))
    (split_eq x.number b)

-- what is left from the end of the run on
pub from_run : (lo hi b : ℕ) (l : List Entry) → RisingEntries lo hi l → b ≤ lo → from (b + run_len b l) l ≡ drop (run_len b l) l
unfolding run_len from
from_run lo hi b [] r h = refl
from_run lo hi b (x ∷ l) r h =
    ⊎_elim
    (λ e.
    let k : b + suc (run_len (suc b) l) ≡ suc b + run_len (suc b) l = omega arith in
    let z : suc b ≤ suc x.number = omega arith in
    let q : x.number < b + suc (run_len (suc b) l) = omega arith in
    let u : run_len b (x ∷ l) ≡ suc (run_len (suc b) l) = rw (eq-eqb x.number b e) in
    let f : from (b + suc (run_len (suc b) l)) l ≡ drop (run_len (suc b) l) l =
    subst (λ v. from v l ≡ drop (run_len (suc b) l) l) (sym k) (from_run (suc x.number) hi (suc b) l r.2 z) in
    let g : from (b + suc (run_len (suc b) l)) (x ∷ l) ≡ drop (suc (run_len (suc b) l)) (x ∷ l) =
    rw (lt-leb (b + suc (run_len (suc b) l)) x.number q) f in
    subst (λ v. from (b + v) (x ∷ l) ≡ drop v (x ∷ l)) (sym u) g)
    (λ e.
    let u : run_len b (x ∷ l) ≡ 0 = rw (ne_eqb x.number b e) in
    subst (λ v. from (b + v) (x ∷ l) ≡ drop v (x ∷ l)) (sym u) (from_all lo hi (b + 0) (x ∷ l) r (omega arith)))
    (split_eq x.number b)

-- what a run passes over is tracked, and where it stops is not
pub run_tracked : (n b : ℕ) (l : List Entry) → b ≤ n → n < b + run_len b l → Tracked n l
unfolding run_len
run_tracked n b [] h k = omega arith
run_tracked n b (x ∷ l) h k =
    ⊎_elim
    (λ e.
    let z : n < b + suc (run_len (suc b) l) = rw (eq-eqb x.number b e) at k in
    ⊎_elim
    (λ p. inr (run_tracked n (suc b) l p (omega arith)))
    (λ p. inl (omega arith))
    (split_lt b n))
    (λ e. let z : n < b + 0 = rw (ne_eqb x.number b e) at k in absurd (omega arith))
    (split_eq x.number b)

pub run_stops : (lo hi b : ℕ) (l : List Entry) → RisingEntries lo hi l → b ≤ lo → Tracked (b + run_len b l) l → ⊥
unfolding run_len
run_stops lo hi b [] r h = λ t. t
run_stops lo hi b (x ∷ l) r h =
    ⊎_elim
    (λ e.
    let k : b + suc (run_len (suc b) l) ≡ suc b + run_len (suc b) l = omega arith in
    let j : suc b ≤ suc x.number = omega arith in
    let i : x.number ≡ suc b + run_len (suc b) l → ⊥ = λ f. omega arith in
    let u : run_len b (x ∷ l) ≡ suc (run_len (suc b) l) = rw (eq-eqb x.number b e) in
    let g : Tracked (suc b + run_len (suc b) l) (x ∷ l) → ⊥ =
    untracked_cons (suc b + run_len (suc b) l) x l i (run_stops (suc x.number) hi (suc b) l r.2 j) in
    subst (λ v. Tracked v (x ∷ l) → ⊥) (sym (ap (λ v. b + v) u ∙ k)) g)
    (λ e.
    let j : b + 0 < suc x.number = omega (arith, r.0) in
    let i : x.number ≡ b + 0 → ⊥ = λ f. e (omega arith) in
    let u : run_len b (x ∷ l) ≡ 0 = rw (ne_eqb x.number b e) in
    let g : Tracked (b + 0) (x ∷ l) → ⊥ = untracked_cons (b + 0) x l i (untracked_low (suc x.number) hi (b + 0) l r.2 j) in
    subst (λ v. Tracked (b + v) (x ∷ l) → ⊥) (sym u) g)
    (split_eq x.number b)
