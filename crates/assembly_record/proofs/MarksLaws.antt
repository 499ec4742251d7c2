-- Laws of `specs/Marks.antt`. Assumes nothing.
use Prim.Native.Nat.{ℕ, zero, suc, ◌+◌, ◌-◌, ◌*◌, ◌/◌, ◌%◌, ◌^◌, ◌≤◌, ◌<◌}
use native.Mathlib.Omega.{arith}
use native.Mathlib.Nat.{not-suc-le-zero, le_of_suc-le-suc, eq-or-lt_of_le, mod-lt, zero-div}
use mathlib.Core.Path.{◌≡◌, refl, sym, ap, subst, ◌∙◌}
use mathlib.Core.Bool.{Bool, true, false, ◌||◌, or-false, or_assoc}
use mathlib.Core.Logic.{⊎_elim}
use mathlib.Core.List.{List}
use lib.ListN.{length, get_or, set, replicate, length-set, get_or-replicate, get_or-eq_default}
use lib.Dec.{ltb, leb, eqb}
use lib.Bits.{bit_or}
use borrow.Author.Tests.{ltb-true, ltb-false, leb-true, leb-false, eqb-true, eqb-false, lt-ltb, le-ltb, ne_eqb}
use Rattle.assembly_record.specs.Sizes.{most_fragments, mark_words}
use Rattle.outcome.proofs.Split.{split, both}
use Rattle.bitmap.proofs.WidthLaws.{one_within, or_sets, set_has}
use Rattle.assembly_record.specs.Marks.{with_mark, mark_run, marked, covers, all_below}

pub length_run : (m : List ℕ) (k n : ℕ) → length (mark_run m k n) ≡ length m
unfolding with_mark
length_run m k zero = refl
length_run m k (suc n) = simp length-set (length_run m k n)

-- a mark as the code sets it
pub mark_or : (m : List ℕ) (j : ℕ)
    → set m (j / 64) (bit_or (get_or m (j / 64) 0) ((1 * 2 ^ (j % 64)) % 18446744073709551616)) ≡ with_mark m j
unfolding with_mark
mark_or m j =
    let e : (1 * 2 ^ (j % 64)) % 18446744073709551616 ≡ 2 ^ (j % 64) = one_within (j % 64) 64 (mod-lt j (omega arith)) in
    ap (λ (x : ℕ). set m (j / 64) (bit_or (get_or m (j / 64) 0) x)) e ∙ ap (set m (j / 64)) (or_sets (get_or m (j / 64) 0) (j % 64))

-- a mark more of a run, the one at j
pub run_more : (m₀ m : List ℕ) (k j : ℕ) → k ≤ j → m ≡ mark_run m₀ k (j - k)
    → set m (j / 64) (bit_or (get_or m (j / 64) 0) ((1 * 2 ^ (j % 64)) % 18446744073709551616)) ≡ mark_run m₀ k (j + 1 - k)
run_more m₀ m k j h e =
    let at : j ≡ k + (j - k) = omega arith in
    let next : suc (j - k) ≡ j + 1 - k = omega arith in
    mark_or m j ∙ ap (λ (l : List ℕ). with_mark l j) e ∙ ap (with_mark (mark_run m₀ k (j - k))) at ∙ ap (mark_run m₀ k) next

-- after a mark is set the marks are those before, and it
pub marked_mark : (m : List ℕ) (i j : ℕ) → length m ≡ mark_words → i < most_fragments → marked (with_mark m i) j ≡ marked m j || eqb i j
unfolding with_mark marked
marked_mark m i j l h = set_has 64 (λ (n : ℕ). n % 64) (λ x y e f. omega arith) m i j (omega arith)

pub marked_none : (j : ℕ) → marked (replicate mark_words 0) j ≡ false
unfolding marked
marked_none j =
    let z : ◌≡◌ {A = ℕ} (get_or (replicate mark_words 0) (j / 64) 0) 0 =
    split (ltb (j / 64) 4) (λ t. get_or-replicate 4 (j / 64) 0 0 (ltb-true _ _ t)) (λ t. get_or-eq_default {A = ℕ} (replicate mark_words 0) 0 (ltb-false (j / 64) 4 t)) in
    rw (z, zero-div (2 ^ (j % 64)))

covers_suc : (k n j : ℕ) → covers k (suc n) j ≡ covers k n j || eqb (k + n) j
covers_suc k n j =
    split (leb k j)
    (λ t.
    let a : k ≤ j = leb-true k j t in
    split (ltb j (k + n))
    (λ u. let b = ltb-true j (k + n) u in rw (t, u, lt-ltb j (k + suc n) (omega arith)))
    (λ u.
    let b : k + n ≤ j = ltb-false j (k + n) u in
    split (eqb (k + n) j)
    (λ x. let y = eqb-true (k + n) j x in rw (t, u, x, lt-ltb j (k + suc n) (omega arith)))
    (λ x. let y = eqb-false (k + n) j x in rw (t, u, x, le-ltb j (k + suc n) (omega arith)))))
    (λ t. let a : j < k = leb-false k j t in rw (t, ne_eqb (k + n) j (λ z. omega arith)))

covers_zero : (k j : ℕ) → covers k 0 j ≡ false
covers_zero k j =
    split (leb k j) (λ t. let a = leb-true k j t in rw (t, le-ltb j (k + 0) (omega arith))) (λ t. rw t)

pub covers_past : (k n j : ℕ) → k + n ≤ j → covers k n j ≡ false
covers_past k n j h = split (leb k j) (λ t. rw (t, le-ltb j (k + n) h)) (λ t. rw t)

pub marked_run : (m : List ℕ) (k n j : ℕ) → length m ≡ mark_words → k + n ≤ most_fragments → marked (mark_run m k n) j ≡ marked m j || covers k n j
marked_run m k zero j l h = sym (or-false (marked m j)) ∙ ap (λ (b : Bool). marked m j || b) (sym (covers_zero k j))
marked_run m k (suc n) j l h =
    marked_mark (mark_run m k n) (k + n) j (length_run m k n ∙ l) (omega arith)
    ∙ ap (λ (b : Bool). b || eqb (k + n) j) (marked_run m k n j l (omega arith))
    ∙ or_assoc (marked m j) (covers k n j) (eqb (k + n) j)
    ∙ ap (λ (b : Bool). marked m j || b) (sym (covers_suc k n j))

pub all_ext : (f g : ℕ → Bool) (n : ℕ) → ((j : ℕ) → j < n → f j ≡ g j) → all_below f n ≡ all_below g n
all_ext f g zero h = refl
all_ext f g (suc n) h =
    let a = all_ext f g n (λ j l. h j (omega arith)) in
    let b = h n (omega arith) in cc

pub all_at : (f : ℕ → Bool) (n j : ℕ) → all_below f n ≡ true → j < n → f j ≡ true
all_at f zero j e l = absurd (not-suc-le-zero l)
all_at f (suc n) j e l =
    ⊎_elim (λ q. subst (λ (k : ℕ). f k ≡ true) (sym q) (both (all_below f n) (f n) e).1)
    (λ k. all_at f n j (both (all_below f n) (f n) e).0 k) (eq-or-lt_of_le (le_of_suc-le-suc l))

pub all_lacks : (f : ℕ → Bool) (n j : ℕ) → j < n → f j ≡ false → all_below f n ≡ false
all_lacks f n j l e = split (all_below f n) (λ t. t ∙ sym (all_at f n j t l) ∙ e) (λ t. t)

pub all_holds : (f : ℕ → Bool) (n : ℕ) → ((j : ℕ) → j < n → f j ≡ true) → all_below f n ≡ true
all_holds f zero h = refl
all_holds f (suc n) h = rw (all_holds f n (λ j l. h j (omega arith)), h n (omega arith))
