-- Laws of `specs/Counter.antt`: the count after one is a wrapping add of 1. Assumes nothing.
use Prim.Native.Nat.{zero, suc, ◌+◌, ◌-◌, ◌%◌, ◌<◌}
use native.Mathlib.Omega.{arith}
use native.Mathlib.Nat.{mod-eq_of_lt}
use native.Mathlib.Numerals.{add-one}
use mathlib.Core.Logic.{⊎_elim}
use mathlib.Core.Path.{◌≡◌, refl}
use lib.IntN.{ℤ, pos, negsuc}
use mir.Syntax.{w32}
use mir.Val.{SFits, of_z, to_z}
use mir.Facts.{to_z_pos, to_z-neg}
use borrow.Author.Tests.{eq-eqb, ne_eqb}
use Rattle.outcome.proofs.Split.{split_eq}
use Rattle.ack_nack_counter.specs.Counter.{next_count}

-- "steps by wrapping add on purpose": 1 more, modulo 2^32, read as signed
pub next_wraps : (n : ℤ) → SFits w32 n → next_count n ≡ to_z w32 ((of_z w32 n + 1) % 4294967296)
next_wraps (pos n) f =
    ⊎_elim
    (λ e. rw (eq-eqb n 2147483647 e, e))
    (λ e.
    let h : n + 1 < 4294967296 = omega (arith, f.sfits) in
    let k : n + 1 < 2147483648 = omega (arith, f.sfits) in
    rw (ne_eqb n 2147483647 e, mod-eq_of_lt h, to_z_pos w32 k, add-one))
    (split_eq n 2147483647)
next_wraps (negsuc zero) f = refl
next_wraps (negsuc (suc n)) f =
    let e : 4294967296 - suc (suc n) + 1 ≡ 4294967296 - suc n = omega (arith, f.sfits) in
    let h : 4294967296 - suc n < 4294967296 = omega arith in
    rw (e, mod-eq_of_lt h, to_z-neg w32 n (omega (arith, f.sfits)))
