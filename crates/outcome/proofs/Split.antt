-- Cases that most laws go by: of a Bool with its equation, of two numbers by their order or equality; and what a test says of its parts. Assumes nothing.
use Prim.Native.Nat.{ℕ, ◌<◌, ◌≤◌}
use native.Mathlib.Omega.{arith}
use native.Mathlib.Decide.{dec_lt, ℕ_discrete}
use mathlib.Core.Logic.{◌⊎◌, inl, inr}
use mathlib.Core.Path.{◌≡◌, refl}
use mathlib.Core.Bool.{Bool, true, false, ◌&&◌, ◌||◌}

pub split : {P : Type 0} (b : Bool) → (b ≡ true → P) → (b ≡ false → P) → P
split true yes_case no_case = yes_case refl
split false yes_case no_case = no_case refl

pub split_lt : (a b : ℕ) → (a < b) ⊎ (b ≤ a)
split_lt a b = elim (dec_lt a b) [ yes p ↦ inl p | no q ↦ inr (omega arith) ]

pub split_eq : (a b : ℕ) → (a ≡ b) ⊎ (a ≡ b → ⊥)
split_eq a b = elim (ℕ_discrete a b) [ yes p ↦ inl p | no q ↦ inr q ]

-- a test that passed did not fail
pub clash : (b : Bool) → b ≡ true → b ≡ false → ⊥
clash true e f = let z : ◌≡◌ {A = ℕ} 0 1 = cc in omega arith
clash false e f = let z : ◌≡◌ {A = ℕ} 0 1 = cc in omega arith

pub both : (a b : Bool) → a && b ≡ true → (a ≡ true) × (b ≡ true)
both true b e = (refl, e)
both false b e = absurd (clash false e refl)

pub neither : (a b : Bool) → a || b ≡ false → (a ≡ false) × (b ≡ false)
neither true b e = absurd (clash true refl e)
neither false b e = (refl, e)
