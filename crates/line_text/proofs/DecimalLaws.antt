-- Laws of `specs/Decimal.antt`: the digits of a number one by one, how long a text is, and a text over a lent buffer. Assumes nothing.
use Prim.Native.Nat.{ℕ, zero, suc, ◌+◌, ◌-◌, ◌/◌, ◌%◌, ◌^◌, ◌<◌, ◌≤◌}
use mathlib.Core.Path.{◌≡◌, refl, sym, ap, ◌∙◌}
use mathlib.Core.List.{List, [], ◌∷◌, ◌++◌, map, append-nil, append_assoc, map-append}
use native.Mathlib.Omega.{arith}
use native.Mathlib.Numerals.{add-one}
use lib.ListN.{length, take, drop, set, get_or, length-append, length-drop, drop_of_length-le}
use lib.IntN.{ℤ, pos}
use lib.Signed.{mag}
use mir.Syntax.{w64}
use mir.Val.{Fits, SFits, of_z, to_z}
use lib.Seq.{take-suc, take_all, take_at, drop_at, drop-drop}
use lib.Dec.{ltb}
use borrow.Author.Tests.{lt-ltb, le-ltb, ltb-true, ltb-false}
use Rattle.std.specs.Fmt.{decimal}
use Rattle.std.proofs.lemmas.Fmt.{decimal_by_steps}
use Rattle.outcome.specs.Lent.{over}
use Rattle.outcome.proofs.Split.{split}
use Rattle.sequence_number.specs.Number.{nat_of}
use Rattle.sequence_number.proofs.NumberLaws.{nat_top, nat_passed}
use Rattle.line_text.specs.Decimal.{digits_within, digits, spaced_number, spaced, started}

-- once there are enough, more steps change nothing
within_same : (f g n : ℕ) → n ≤ f → n ≤ g → digits_within f n ≡ digits_within g n
unfolding digits_within
within_same zero zero n a b = refl
within_same zero (suc g) n a b = rw (lt-ltb n 10 (omega arith))
within_same (suc f) zero n a b = rw (lt-ltb n 10 (omega arith))
within_same (suc f) (suc g) n a b =
    split (ltb n 10)
    (λ e. rw e)
    (λ e. rw e (ap (λ (l : List ℕ). l ++ ((48 + n % 10) ∷ [])) (within_same f g (n / 10) (omega (arith, ltb-false n 10 e)) (omega (arith, ltb-false n 10 e)))))

-- a number below ten is its own digit
pub digits_one : (n : ℕ) → n < 10 → digits n ≡ (48 + n) ∷ []
unfolding digits digits_within
digits_one zero h = refl
digits_one (suc n) h = rw (lt-ltb (suc n) 10 h)

-- any other ends in the remainder of ten
pub digits_more : (n : ℕ) → 10 ≤ n → digits n ≡ digits (n / 10) ++ ((48 + n % 10) ∷ [])
unfolding digits digits_within
digits_more zero h = absurd (omega arith)
digits_more (suc n) h = rw (le-ltb (suc n) 10 h) (ap (λ (l : List ℕ). l ++ ((48 + suc n % 10) ∷ [])) (within_same n (suc n / 10) (suc n / 10) (omega arith) (omega arith)))

digits_two : (n : ℕ) → 10 ≤ n → n < 100 → digits n ≡ (48 + n / 10) ∷ (48 + n % 10) ∷ []
digits_two n h f = digits_more n h ∙ ap (λ (l : List ℕ). l ++ ((48 + n % 10) ∷ [])) (digits_one (n / 10) (omega arith))

pub length_more : (n : ℕ) → 10 ≤ n → length (digits n) ≡ length (digits (n / 10)) + 1
length_more n h = ap length (digits_more n h) ∙ length-append (digits (n / 10)) ((48 + n % 10) ∷ [])

pub length_one : (n : ℕ) → n < 10 → length (digits n) ≡ 1
length_one n h = ap length (digits_one n h)

-- a number below a power of ten has no more digits than that
pub length_most : (k n : ℕ) → n < 10 ^ suc k → length (digits n) ≤ suc k
length_most zero n h = omega (arith, length_one n (omega arith))
length_most (suc k) n h =
    split (ltb n 10)
    (λ e. omega (arith, length_one n (ltb-true n 10 e)))
    (λ e. omega (arith, length_more n (ltb-false n 10 e), length_most k (n / 10) (omega arith)))

-- one digit or two, written one by one
over_one : (a : ℕ) (out : List ℕ) → 1 ≤ length out → set out 0 a ≡ over (a ∷ []) out
over_one a [] h = absurd (omega arith)
over_one a (x ∷ out) h = refl

over_two : (a b : ℕ) (out : List ℕ) → 2 ≤ length out → set (set out 0 a) 1 b ≡ over (a ∷ b ∷ []) out
over_two a b [] h = absurd (omega arith)
over_two a b (x ∷ []) h = absurd (omega arith)
over_two a b (x ∷ y ∷ out) h = refl

module _ (out : List ℕ) (n : ℕ) (enough : length (digits n) ≤ length out) where
  pub one_put : (a : ℕ) → a ≡ 48 + n → n < 10 → (set out 0 a ≡ over (digits n) out) × (1 ≡ length (digits n))
  one_put a e h = rw e (rw (digits_one n h) (over_one (48 + n) out (omega (arith, length_one n h)), refl))

  pub two_put : (a b : ℕ) → a ≡ 48 + n / 10 → b ≡ 48 + n % 10 → 10 ≤ n → n < 100 → (set (set out 0 a) 1 b ≡ over (digits n) out) × (2 ≡ length (digits n))
  two_put a b d e h f =
      rw d (rw e (rw (digits_two n h f) (over_two (48 + n / 10) (48 + n % 10) out (omega (arith, ap length (digits_two n h f))), refl)))

-- the library prints the same digits
pub decimal_digits : (n : ℕ) → n < 2 ^ 64 → decimal n ≡ digits n
decimal_digits n h =
    decimal_by_steps (λ n ds. ds ≡ digits n) (λ n h. sym (digits_one n h)) (λ n ds h e. ap (λ (l : List ℕ). l ++ ((48 + n % 10) ∷ [])) e ∙ sym (digits_more n h)) n h

pub printed : (text : List ℕ) (m n : ℕ) → text ≡ decimal m → m ≡ n → n < 2 ^ 64 → text ≡ digits n
printed text m n t e h = t ∙ ap decimal e ∙ decimal_digits n h

-- a text after a text, over a lent buffer
pub over_after : (a b out mid : List ℕ) (k : ℕ) → k ≡ length a → mid ≡ over a out → take k mid ++ over b (drop k mid) ≡ over (a ++ b) out
over_after a b out mid k e p =
    let t : take k mid ≡ a = ap (take k) p ∙ take_at a (drop (length a) out) k (sym e) in
    let d : drop k mid ≡ drop (length a) out = ap (drop k) p ∙ drop_at a (drop (length a) out) k (sym e) in
    let r : drop (length b) (drop k mid) ≡ drop (length (a ++ b)) out =
    ap (drop (length b)) d ∙ drop-drop (length b) (length a) out ∙ ap (λ (i : ℕ). drop i out) (sym (length-append a b)) in
    (λ i. t i ++ (b ++ r i)) ∙ sym (append_assoc a b (drop (length (a ++ b)) out))

-- the same of a part of the buffer, from a place on, that is lent and back
abbrev pub from_on : List ℕ → ℕ → List ℕ
from_on l k = take (length l - k) (drop k l)

abbrev pub put_from : List ℕ → ℕ → List ℕ → List ℕ
put_from l k part = take k l ++ (part ++ drop (length l - k) (drop k l))

pub over_on : (a b out mid part : List ℕ) (k : ℕ) → k ≡ length a → mid ≡ over a out → part ≡ over b (from_on mid k) → put_from mid k part ≡ over (a ++ b) out
over_on a b out mid part k e p q =
    let n = length mid - k in
    let all : from_on mid k ≡ drop k mid = take_all n (drop k mid) (omega (arith, length-drop k mid)) in
    let none : drop n (drop k mid) ≡ [] = drop_of_length-le (drop k mid) {i = n} (omega (arith, length-drop k mid)) in
    ap (λ (l : List ℕ). take k mid ++ (part ++ l)) none ∙ ap (λ (l : List ℕ). take k mid ++ l) (append-nil part ∙ q ∙ ap (over b) all) ∙ over_after a b out mid k e p

-- Lists of numbers

pub spaced_append : (l ms : List ℕ) → spaced (l ++ ms) ≡ spaced l ++ spaced ms
unfolding spaced
spaced_append [] ms = refl
spaced_append (x ∷ l) ms = ap (λ (t : List ℕ). spaced_number x ++ t) (spaced_append l ms) ∙ sym (append_assoc (spaced_number x) (spaced l) (spaced ms))

pub spaced_one : (n : ℕ) → spaced (n ∷ []) ≡ spaced_number n
unfolding spaced
spaced_one n = append-nil (spaced_number n)

spaced_end : (l : List ℕ) (n : ℕ) → spaced (l ++ (n ∷ [])) ≡ spaced l ++ spaced_number n
spaced_end l n = spaced_append l (n ∷ []) ∙ ap (λ (t : List ℕ). spaced l ++ t) (spaced_one n)

-- a number that an i64 holds takes nineteen digits at most
pub spaced_most : (z : ℤ) (n : ℕ) → mag z < 2 ^ 63 → n ≡ nat_of (to_z w64 (of_z w64 z)) → length (spaced_number n) ≤ 20
spaced_most z n h e =
    let f : SFits w64 z = record { sfits = h } in
    omega (arith, length_most 18 n (omega (arith, nat_passed z n f e, nat_top z f)))

pub list_none : (out : List ℕ) → (out ≡ over (spaced []) out) × (0 ≡ length (spaced []))
unfolding spaced
list_none out = (refl, refl)

-- one number more of a list
pub list_more : (out mid part : List ℕ) (end m : ℕ) (list : List ℤ) (i n : ℕ) → mag (get_or list i (pos 0)) < 2 ^ 63 → i < length list
    → n ≡ nat_of (to_z w64 (of_z w64 (get_or list i (pos 0))))
    → mid ≡ over (spaced (map nat_of (take i list))) out → end ≡ length (spaced (map nat_of (take i list)))
    → part ≡ over (spaced_number n) (from_on mid end) → m ≡ length (spaced_number n)
    → (put_from mid end part ≡ over (spaced (map nat_of (take (i + 1) list))) out) × (end + m ≡ length (spaced (map nat_of (take (i + 1) list))))
list_more out mid part end m list i n f h e p q p' q' =
    let old = map nat_of (take i list) in
    let t : map nat_of (take (i + 1) list) ≡ old ++ (n ∷ []) =
    rw add-one (ap (map nat_of) (take-suc list i (pos 0) h) ∙ map-append nat_of (take i list) (get_or list i (pos 0) ∷ []) ∙ ap (λ (k : ℕ). old ++ (k ∷ [])) (sym (nat_passed (get_or list i (pos 0)) n (record { sfits = f }) e))) in
    let w : spaced (map nat_of (take (i + 1) list)) ≡ spaced old ++ spaced_number n = ap spaced t ∙ spaced_end old n in (
      over_on (spaced old) (spaced_number n) out mid part end q p p' ∙ ap (λ (l : List ℕ). over l out) (sym w),
      omega (arith, ap length w, length-append (spaced old) (spaced_number n)),
    )

-- A line, from the front

-- what stands once a part of a line is written
abbrev pub Begun : List ℕ → List ℕ → ℕ → ℕ → List ℕ → Type 0
Begun out out' end k l = (out' ≡ over (started k l) out) × (end ≡ length (started k l))

started_none : (k : ℕ) → started k [] ≡ digits k
unfolding spaced
started_none k = append-nil (digits k)

started_append : (k : ℕ) (l ms : List ℕ) → started k (l ++ ms) ≡ started k l ++ spaced ms
started_append k l ms = ap (λ (t : List ℕ). digits k ++ t) (spaced_append l ms) ∙ sym (append_assoc (digits k) (spaced l) (spaced ms))

pub begun_first : (out out' : List ℕ) (end k : ℕ) → out' ≡ over (digits k) out → end ≡ length (digits k) → Begun out out' end k []
begun_first out out' end k p e = (p ∙ ap (λ (l : List ℕ). over l out) (sym (started_none k)), omega (arith, ap length (started_none k)))

pub goes_on : (out mid part : List ℕ) (end m k : ℕ) (l ms : List ℕ) → Begun out mid end k l → part ≡ over (spaced ms) (from_on mid end) → m ≡ length (spaced ms)
    → Begun out (put_from mid end part) (end + m) k (l ++ ms)
goes_on out mid part end m k l ms h p e =
    let w = started_append k l ms in (
      over_on (started k l) (spaced ms) out mid part end h.1 h.0 p ∙ ap (λ (t : List ℕ). over t out) (sym w),
      omega (arith, ap length w, length-append (started k l) (spaced ms), h.1),
    )

pub goes_on_one : (out mid part : List ℕ) (end m k n : ℕ) (l : List ℕ) → Begun out mid end k l → part ≡ over (spaced_number n) (from_on mid end) → m ≡ length (spaced_number n)
    → Begun out (put_from mid end part) (end + m) k (l ++ (n ∷ []))
goes_on_one out mid part end m k n l h p e =
    goes_on out mid part end m k l (n ∷ []) h (p ∙ ap (λ (t : List ℕ). over t (from_on mid end)) (sym (spaced_one n))) (omega (arith, ap length (spaced_one n)))

-- a word takes twenty digits at most
pub word_most : (n : ℕ) → Fits w64 n → length (digits n) ≤ 20
word_most n f = length_most 19 n (omega (arith, f.fits))

pub length_head : (k r n : ℕ) → length (started k (r ∷ n ∷ [])) ≡ length (digits k) + length (spaced_number r) + length (spaced_number n)
unfolding spaced
length_head k r n =
    let a = length-append (digits k) (spaced (r ∷ n ∷ [])) in
    let d = length-append (spaced_number r) (spaced (n ∷ [])) in
    omega (arith, a, d, ap length (spaced_one n))
