-- Laws of `specs/Number.antt`: what the number that a call takes says of the one that was passed, and signed tests as tests of naturals. Assumes nothing.
use Prim.Native.Nat.{ℕ, suc, ◌<◌, ◌≤◌, max}
use native.Mathlib.Omega.{arith}
use mathlib.Core.Logic.{◌⊎◌, inl, inr, ⊎_elim, ◌↔◌}
use mathlib.Core.Path.{◌≡◌, refl, ap}
use mathlib.Core.Bool.{true, false}
use lib.IntN.{ℤ, pos, negsuc}
use lib.Signed.{lt_z, le_z}
use mir.Syntax.{w64}
use mir.Val.{SFits, of_z, to_z}
use mir.Facts.{to_z-of_z}
use borrow.Author.Tests.{lt-ltb, le-ltb, ltb-true, le-leb, leb-true}
use Rattle.std.specs.Prelude.{Option, Some, None, unwrap_or, option_map}
use Rattle.sequence_number.specs.Number.{top, is_number, nat_of, number_of, taken}
use Rattle.outcome.proofs.Split.{split, split_lt, clash}

-- what the number that was taken says of the one that was passed
pub number_is : (n : ℤ) (k : ℕ) → k ≡ number_of n
    → ((k ≡ 0) × (is_number n ≡ false)) ⊎ ((0 < k) × (k < top) × (is_number n ≡ true) × (k ≡ nat_of n))
number_is (negsuc n) k e = inl (e, refl)
number_is (pos n) k e =
    ⊎_elim
    (λ a.
    ⊎_elim
    (λ b. let z : k ≡ n = rw (lt-ltb 0 n a, lt-ltb n top b) at e in inr (omega arith, omega arith, rw (lt-ltb 0 n a, lt-ltb n top b), z))
    (λ b. inl (rw (lt-ltb 0 n a, le-ltb n top b) at e, rw (lt-ltb 0 n a, le-ltb n top b)))
    (split_lt n top))
    (λ a. inl (rw (le-ltb 0 n a) at e, rw (le-ltb 0 n a)))
    (split_lt 0 n)

-- what is said of the number where it is handed out, and where nothing is
pub some_taken : (n : ℤ) (k : ℕ) → Some k ≡ taken n → (0 < k) × (k < top) × (is_number n ≡ true) × (k ≡ nat_of n) × (k ≡ number_of n)
some_taken n k e = split (is_number n) (λ h. go (number_is n (number_of n) refl) h (rw h at e)) (λ h. absurd (none_some (rw h at e)))
  where
    none_some : Some k ≡ None → ⊥
    none_some z = let one : ◌≡◌ {A = ℕ} 1 0 = ap (λ (o : Option ℕ). unwrap_or (option_map (λ x. 1) o) 0) z in omega arith

    go : ((number_of n ≡ 0) × (is_number n ≡ false)) ⊎ ((0 < number_of n) × (number_of n < top) × (is_number n ≡ true) × (number_of n ≡ nat_of n))
        → is_number n ≡ true → Some k ≡ Some (nat_of n) → (0 < k) × (k < top) × (is_number n ≡ true) × (k ≡ nat_of n) × (k ≡ number_of n)
    go (inl x) h z = absurd (clash (is_number n) h x.1)
    go (inr x) h z = let m : k ≡ nat_of n = ap (λ (o : Option ℕ). unwrap_or o 0) z in (omega (arith, x), omega (arith, x), h, m, omega (arith, x))

pub none_taken : (n : ℤ) → None ≡ taken n → (is_number n ≡ false) × (0 ≡ number_of n)
none_taken n e = split (is_number n) (λ h. absurd (some_none (rw h at e))) (λ h. (h, rw h refl))
  where
    some_none : ◌≡◌ {A = Option ℕ} None (Some (nat_of n)) → ⊥
    some_none z = let one : ◌≡◌ {A = ℕ} 0 1 = ap (λ (o : Option ℕ). unwrap_or (option_map (λ x. 1) o) 0) z in omega arith

pub nat_top : (n : ℤ) → SFits w64 n → nat_of n ≤ top
nat_top (pos n) f = omega (arith, f.sfits)
nat_top (negsuc n) f = omega arith

-- a number that went through a call
pub nat_passed : (n : ℤ) (k : ℕ) → SFits w64 n → k ≡ nat_of (to_z w64 (of_z w64 n)) → k ≡ nat_of n
nat_passed n k f e = rw (to_z-of_z f) at e

-- ---- signed tests as tests of the core's numbers

-- the last number of all
pub end_top : (n : ℤ) → (nat_of n ≡ top) ↔ (n ≡ pos top)
end_top (pos n) = (λ e. ap pos e, λ e. cc)
end_top (negsuc n) = (λ e. absurd (omega arith), λ e. let z : ◌≡◌ {A = ℕ} 0 1 = cc in absurd (omega arith))

pub start_low : (a : ℤ) (n : ℕ) → (le_z a (pos n) ≡ true) ↔ (nat_of a ≤ n)
start_low (pos a) n = (λ h. leb-true a n h, λ h. le-leb a n h)
start_low (negsuc a) n = (λ h. omega arith, λ h. refl)

pub end_high : (b : ℤ) (n : ℕ) → 1 ≤ n → (le_z (pos n) b ≡ true) ↔ (n ≤ nat_of b)
end_high (pos b) n h = (λ k. leb-true n b k, λ k. le-leb n b k)
end_high (negsuc b) n h = (λ k. let z : ◌≡◌ {A = ℕ} 0 1 = cc in absurd (omega arith), λ k. absurd (omega arith))

pub crossed : (a b : ℤ) (m : ℕ) → 1 ≤ m → lt_z b a ≡ true → suc (nat_of b) ≤ max m (nat_of a)
crossed (pos a) (pos b) m h e = omega (arith, ltb-true b a e)
crossed (negsuc a) (pos b) m h e = let z : ◌≡◌ {A = ℕ} 0 1 = cc in absurd (omega arith)
crossed a (negsuc b) m h e = omega arith
