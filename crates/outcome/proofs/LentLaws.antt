-- Laws of runs of stores, `lib.Seq.sets`, one after the other and over a lent list, and of a run of one element. Assumes nothing.
use Prim.Native.Nat.{ℕ, zero, suc, ◌+◌, ◌-◌, ◌<◌, ◌≤◌}
use mathlib.Core.Path.{◌≡◌, ap, ◌∙◌}
use mathlib.Core.List.{List, [], ◌∷◌, ◌++◌, append_assoc}
use native.Mathlib.Omega.{arith}
use native.Mathlib.Nat.{add-zero, sub-zero, zero-sub, suc-sub-suc}
use lib.ListN.{length, drop, get_or, set, replicate, length-append}
use lib.Seq.{sets, sets-eq, drop-cons, set_at}
use Rattle.outcome.specs.Lent.{over}

-- two runs, one after the other, are one
pub sets_append {ℓ} : {A : Type ℓ} (bs cs l : List A) (i : ℕ) → sets (sets l i bs) (i + length bs) cs ≡ sets l i (bs ++ cs)
sets_append [] cs l i = ap (λ (k : ℕ). sets l k cs) (add-zero i)
sets_append (b ∷ bs) cs l i =
    let e : i + suc (length bs) ≡ suc i + length bs = omega arith in
    ap (λ (k : ℕ). sets (sets (set l i b) (suc i) bs) k cs) e ∙ sets_append bs cs (set l i b) (suc i)

-- the same, where the second starts at a number that is known to be the first's end
pub sets_sets {ℓ} : {A : Type ℓ} (l l' l'' bs cs : List A) (at to : ℕ) → to ≡ at + length bs → l' ≡ sets l at bs → l'' ≡ sets l' to cs
    → l'' ≡ sets l at (bs ++ cs)
sets_sets l l' l'' bs cs at to e p q = q ∙ (λ j. sets (p j) (e j) cs) ∙ sets_append bs cs l at

-- a store at the end of a run makes it longer by one
pub set_sets {ℓ} : {A : Type ℓ} (l l₀ xs : List A) (i : ℕ) (x : A) → i ≡ length xs → l ≡ sets l₀ 0 xs → set l i x ≡ sets l₀ 0 (xs ++ (x ∷ []))
set_sets l l₀ xs i x e p =
    let k : i ≡ 0 + length xs = omega arith in
    (λ j. set (p j) (k j) x) ∙ sets_append xs (x ∷ []) l₀ 0

-- a run at the front is what a lent list holds after an answer
pub sets_over : {A : Type 0} (ms out : List A) → length ms ≤ length out → sets out 0 ms ≡ over ms out
sets_over ms out h =
    let k : 0 + length ms ≡ length ms = omega arith in
    sets-eq ms out 0 (omega arith) ∙ ap (λ (n : ℕ). ms ++ drop n out) k

-- a store at the end of an answer makes it longer by one
pub over_more : {A : Type 0} (m out : List A) (w : ℕ) (x : A) → length m ≡ w → w < length out → set (over m out) w x ≡ over (m ++ (x ∷ [])) out
over_more m out w x e h =
    let k : length (m ++ (x ∷ [])) ≡ suc w = simp length-append (omega arith) in
    rw (k, e, drop-cons out w x h, set_at m (get_or out w x) (drop (suc w) out) x w e, append_assoc)

-- what is left of a run of one element
pub drop_replicate : {A : Type 0} (n m : ℕ) (x : A) → drop n (replicate m x) ≡ replicate (m - n) x
drop_replicate zero m x = rw sub-zero
drop_replicate (suc n) zero x = rw zero-sub
drop_replicate (suc n) (suc m) x = rw suc-sub-suc (drop_replicate n m x)
