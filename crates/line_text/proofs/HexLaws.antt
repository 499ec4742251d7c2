-- Laws of `specs/Hex.antt`: what digits stand for, and how large a number they write. Assumes nothing.
use Prim.Native.Nat.{ℕ, zero, suc, ◌+◌, ◌-◌, ◌*◌, ◌^◌, ◌<◌, ◌≤◌}
use mathlib.Core.Path.{◌≡◌, refl, sym, ap, ◌∙◌}
use mathlib.Core.Bool.{true, false, not}
use mathlib.Core.List.{List, [], ◌∷◌}
use native.Mathlib.Omega.{arith}
use lib.ListN.{length, get_or}
use lib.Dec.{ltb, leb, eqb}
use lib.Pow.{pow-add, pow_mono}
use borrow.Author.Tests.{lt-ltb, le-ltb, le-leb, lt-leb, leb-true, eqb-true, eqb-false, eq-eqb, ne_eqb}
use Rattle.std.specs.Char.{digit_value, is_ascii_hexdigit}
use Rattle.std.specs.List.{list_all}
use Rattle.std.proofs.lemmas.Bool.Decides.{nat_tests}
use Rattle.outcome.proofs.Split.{split}
use Rattle.line_text.specs.Hex.{digit_of, all_hex, value_at}

-- the cases of a byte
module _ (c : ℕ) where
  pub digit_low : c < 48 → 16 ≡ digit_of c
  unfolding digit_of
  digit_low a = rw (lt-ltb c 48 a)

  pub digit_decimal : 48 ≤ c → c ≤ 57 → c - 48 ≡ digit_of c
  unfolding digit_of
  digit_decimal a b = rw (le-ltb c 48 a, le-leb c 57 b)

  pub digit_between : 57 < c → c < 65 → 16 ≡ digit_of c
  unfolding digit_of
  digit_between b d = rw (le-ltb c 48 (omega arith), lt-leb c 57 b, lt-ltb c 65 d)

  pub digit_upper : 65 ≤ c → c ≤ 70 → c - 55 ≡ digit_of c
  unfolding digit_of
  digit_upper d e = rw (le-ltb c 48 (omega arith), lt-leb c 57 (omega arith), le-ltb c 65 d, le-leb c 70 e)

  pub digit_between_cases : 70 < c → c < 97 → 16 ≡ digit_of c
  unfolding digit_of
  digit_between_cases e f = rw (le-ltb c 48 (omega arith), lt-leb c 57 (omega arith), le-ltb c 65 (omega arith), lt-leb c 70 e, lt-ltb c 97 f)

  pub digit_lower : 97 ≤ c → c ≤ 102 → c - 87 ≡ digit_of c
  unfolding digit_of
  digit_lower f g = rw (le-ltb c 48 (omega arith), lt-leb c 57 (omega arith), le-ltb c 65 (omega arith), lt-leb c 70 (omega arith), le-ltb c 97 f, le-leb c 102 g)

  pub digit_high : 102 < c → 16 ≡ digit_of c
  unfolding digit_of
  digit_high g = rw (le-ltb c 48 (omega arith), lt-leb c 57 (omega arith), le-ltb c 65 (omega arith), lt-leb c 70 (omega arith), le-ltb c 97 (omega arith), lt-leb c 102 g)

pub digit_most : (c : ℕ) → digit_of c ≤ 16
unfolding digit_of
digit_most c =
    split (ltb c 48) (λ a. rw a (omega arith)) (λ a. rw a (
    split (leb c 57) (λ b. rw b (omega (arith, leb-true c 57 b))) (λ b. rw b (
    split (ltb c 65) (λ d. rw d (omega arith)) (λ d. rw d (
    split (leb c 70) (λ e. rw e (omega (arith, leb-true c 70 e))) (λ e. rw e (
    split (ltb c 97) (λ f. rw f (omega arith)) (λ f. rw f (
    split (leb c 102) (λ g. rw g (omega (arith, leb-true c 102 g))) (λ g. rw g (omega arith))))))))))))

-- the library's words for a digit
module _ (c : ℕ) where
  pub value_is_digit : digit_value c < 16 → digit_value c ≡ digit_of c
  unfolding digit_of
  value_is_digit h = grind (arith, nat_tests)

  pub digit_has_value : digit_of c < 16 → digit_value c < 16
  unfolding digit_of
  digit_has_value h = grind (arith, nat_tests)

  pub hexdigit_is : is_ascii_hexdigit c ≡ not (eqb (digit_of c) 16)
  unfolding digit_of
  hexdigit_is = grind (arith, nat_tests)

pub hex_tests : (s : List ℕ) → list_all is_ascii_hexdigit s ≡ all_hex s
unfolding all_hex
hex_tests [] = refl
hex_tests (c ∷ s) =
    split (eqb (digit_of c) 16)
    (λ e. rw (hexdigit_is c, e))
    (λ e. rw (hexdigit_is c, e) (hex_tests s))

-- the first byte, and the rest
pub hex_first : (c : ℕ) (s : List ℕ) → digit_of c ≡ 16 → all_hex (c ∷ s) ≡ false
unfolding all_hex
hex_first c s e = rw (eq-eqb (digit_of c) 16 e)

pub hex_rest : (c : ℕ) (s : List ℕ) → (digit_of c ≡ 16 → ⊥) → all_hex (c ∷ s) ≡ all_hex s
unfolding all_hex
hex_rest c s e = rw (ne_eqb (digit_of c) 16 e)

-- every byte of digits is one
pub hex_at : (s : List ℕ) (i : ℕ) → all_hex s ≡ true → i < length s → digit_of (get_or s i 0) < 16
hex_at [] i a h = absurd (omega arith)
hex_at (c ∷ s) i a h =
    split (eqb (digit_of c) 16)
    (λ e. let f = hex_first c s (eqb-true (digit_of c) 16 e) in let z : ◌≡◌ {A = ℕ} 0 1 = cc in absurd (omega arith))
    (λ e. here i h (omega (arith, digit_most c, eqb-false (digit_of c) 16 e)) (hex_at s))
  where
    here : (i : ℕ) → i < suc (length s) → digit_of c < 16 → ((i : ℕ) → all_hex s ≡ true → i < length s → digit_of (get_or s i 0) < 16) → digit_of (get_or (c ∷ s) i 0) < 16
    here zero h d r = d
    here (suc i) h d r = r i (sym (hex_rest c s (λ x. omega arith)) ∙ a) (omega arith)

-- Numbers

pub value_none : (s : List ℕ) (at : ℕ) → 0 ≡ value_at s at 0
unfolding value_at
value_none s at = refl

pub value_more : (s : List ℕ) (at n : ℕ) → value_at s at (suc n) ≡ value_at s at n * 16 + digit_of (get_or s (at + n) 0)
unfolding value_at
value_more s at n = refl

pub value_small : (s : List ℕ) (at n : ℕ) → all_hex s ≡ true → at + n ≤ length s → value_at s at n < 2 ^ (4 * n)
value_small s at zero a h = omega (arith, value_none s at)
value_small s at (suc n) a h =
    let v = value_small s at n a (omega arith) in
    let d = hex_at s (at + n) a (omega arith) in
    let e : 4 * suc n ≡ 4 * n + 4 = omega arith in
    let p : 2 ^ (4 * suc n) ≡ 2 ^ (4 * n) * 16 = ap (λ (k : ℕ). 2 ^ k) e ∙ pow-add 2 (4 * n) 4 in
    omega (arith, value_more s at n)

-- sixteen digits fit a word
pub value_fits : (s : List ℕ) (at n : ℕ) → all_hex s ≡ true → at + n ≤ length s → n ≤ 16 → value_at s at n < 2 ^ 64
value_fits s at n a h k =
    let p : 2 ^ (4 * n) ≤ 2 ^ 64 = pow_mono {i = 4 * n} {j = 64} (omega arith) in
    omega (arith, value_small s at n a h)
