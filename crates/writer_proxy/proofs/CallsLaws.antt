-- Laws of `specs/Calls.antt`: which way of a call is which, what each keeps of the rules, that none lowers the base, and what is refused. Assumes nothing.
use Prim.Native.Nat.{ℕ, suc, ◌+◌, ◌-◌, ◌<◌, ◌≤◌}
use native.Mathlib.Omega.{arith}
use mathlib.Core.Logic.{◌⊎◌, inl, ⊎_elim, ◌↔◌}
use mathlib.Core.Path.{◌≡◌, refl}
use mathlib.Core.Bool.{true, false, cond}
use lib.Dec.{ltb, leb}
use lib.IntN.{ℤ}
use lib.Signed.{lt_z}
use mir.Syntax.{w64}
use mir.Val.{SFits}
use borrow.Author.Tests.{lt-ltb, le-ltb, le-leb, lt-leb}
use Rattle.outcome.specs.Outcome.{done, refused, refusal, is_refused}
use Rattle.outcome.proofs.Split.{split, split_lt, split_eq}
use Rattle.sequence_number.specs.Number.{top, is_number, nat_of, number_of}
use Rattle.sequence_number.proofs.NumberLaws.{number_is, nat_top}
use Rattle.sequence_number.specs.Keeps.{rank_above}
use Rattle.proxy_record.specs.Entries.{Tracked}
use Rattle.proxy_record.specs.State.{Proxy, cap}
use Rattle.proxy_record.specs.Rules.{ProxyRules}
use Rattle.proxy_record.proofs.PutLaws.{tracked_put}
use Rattle.proxy_steps.specs.Steps.{noted, put, move_on, discard, cut_to, followed, unforced, ended_proxy, unavailable, skipped, put_each}
use Rattle.proxy_steps.proofs.StepsLaws.{ok_noted, ok_put, ok_followed, followed_old, followed_base, followed_other, ok_skipped, base_noted, base_moved, base_followed, base_skipped}
use Rattle.proxy_steps.proofs.CapLaws.{ok_ended, ended_few, base_ended, ended_passes, ended_accepted, ended_number, unless_same, unless_refused, if_same, if_refused}
use Rattle.proxy_steps.proofs.EachLaws.{ok_each, base_each}
use Rattle.writer_proxy.specs.Calls.{got, received_at, received, irrelevant_at, irrelevant, range_at, irrelevant_range}

-- Received

pub received_is : (n t : ℕ) (s : Proxy) → received_at n t s ≡ ended_proxy s (followed n (put (got n t) (noted n t s)))
unfolding received_at
received_is n t s = refl

pub ok_received_at : (n t : ℕ) (s : Proxy) → ProxyRules cap s → n < top → ProxyRules cap (received_at n t s).state
unfolding received_at
ok_received_at n t s o h = ok_ended (suc cap) s _ (ok_followed (got n t) (noted n t s) (ok_noted cap n t s h o) h)

pub ok_received : (n : ℤ) (t : ℕ) (s : Proxy) → ProxyRules cap s → ProxyRules cap (received n t s).state
unfolding received
ok_received n t s o =
    ⊎_elim
    (λ w. rw w.1 o)
    (λ w. rw w.2 (ok_received_at (nat_of n) t s o (omega (arith, w.1, w.3))))
    (number_is n (number_of n) refl)

-- the number is below the base after it, or tracked
pub received_passes : (n t : ℕ) (s : Proxy) → ProxyRules cap s → n < top → (n < (received_at n t s).state.base) ⊎ Tracked n (received_at n t s).state.tracked
unfolding received_at discard
received_passes n t s o h =
    let v = noted n t s in
    let p = ok_noted cap n t s h o in
    ⊎_elim
    (λ a. rw (followed_old cap (got n t) v p a) (inl (omega (arith, base_ended s v))))
    (λ a.
    ⊎_elim
    (λ b.
    let u = discard (move_on (cut_to (suc n) v)) in
    rw (followed_base (got n t) v p b) (inl (omega (arith, base_ended s u, base_moved (cut_to (suc n) v)))))
    (λ b.
    rw (followed_other (suc cap) n (put (got n t) v) (ok_put cap (got n t) v p a h) b)
    (ended_passes n s (put (got n t) v) (tracked_put (got n t) v.tracked)))
    (split_eq n v.base))
    (split_lt n v.base)

-- One irrelevant

pub irrelevant_old : (n : ℕ) (s : Proxy) → ProxyRules cap s → n < s.base → irrelevant_at n s ≡ record { state = s; answer = done unforced }
unfolding irrelevant_at
irrelevant_old n s o h =
    let z : n ≡ s.base → ⊥ = λ e. omega arith in
    rw (lt-ltb n s.base h, followed_other cap n s o z, ended_few s s o.few)

pub irrelevant_new : (n : ℕ) (s : Proxy) → s.base ≤ n → irrelevant_at n s ≡ ended_proxy s (followed n (put (unavailable n) s))
unfolding irrelevant_at
irrelevant_new n s h = rw (le-ltb n s.base h)

pub ok_irrelevant_at : (n : ℕ) (s : Proxy) → ProxyRules cap s → n < top → ProxyRules cap (irrelevant_at n s).state
ok_irrelevant_at n s o h =
    ⊎_elim
    (λ a. rw (irrelevant_old n s o a) o)
    (λ a. rw (irrelevant_new n s a) (ok_ended (suc cap) s _ (ok_followed (unavailable n) s o h)))
    (split_lt n s.base)

pub ok_irrelevant : (n : ℤ) (s : Proxy) → ProxyRules cap s → ProxyRules cap (irrelevant n s).state
unfolding irrelevant
ok_irrelevant n s o =
    ⊎_elim
    (λ w. rw w.1 o)
    (λ w. rw w.2 (ok_irrelevant_at (nat_of n) s o (omega (arith, w.1, w.3))))
    (number_is n (number_of n) refl)

-- A range

pub range_at_low : (a b : ℕ) (s : Proxy) → ProxyRules cap s → a ≤ s.base → b ≤ top → range_at a b s ≡ record { state = skipped a b s; answer = done unforced }
unfolding range_at
range_at_low a b s o h j = rw (le-leb a s.base h, ended_few s (skipped a b s) (ok_skipped a b s o h j).few)

pub range_at_above : (a b : ℕ) (s : Proxy) → s.base < a → range_at a b s ≡ ended_proxy s (put_each a (b - a) s)
unfolding range_at
range_at_above a b s h = rw (lt-leb a s.base h)

pub ok_range_at : (a b : ℕ) (s : Proxy) → ProxyRules cap s → a ≤ b → b ≤ top → ProxyRules cap (range_at a b s).state
ok_range_at a b s o h j =
    ⊎_elim
    (λ k. rw (range_at_above a b s k) (ok_ended (b - a + cap) s (put_each a (b - a) s) (ok_each (b - a) cap a s o (omega arith) (omega arith))))
    (λ k. rw (range_at_low a b s o k j) (ok_skipped a b s o k j))
    (split_lt s.base a)

pub ok_range : (a b : ℤ) (s : Proxy) → SFits w64 b → ProxyRules cap s → ProxyRules cap (irrelevant_range a b s).state
unfolding irrelevant_range
ok_range a b s f o =
    split (lt_z b a)
    (λ e. rw e o)
    (λ e. rw e (ok_range_at (nat_of a) (nat_of b) s o (rank_above a b e) (nat_top b f)))

-- No call lowers the base

pub base_received : (n : ℤ) (t : ℕ) (s : Proxy) → s.base ≤ (received n t s).state.base
unfolding received received_at
base_received n t s =
    split (is_number n)
    (λ e. rw e (omega (arith, base_noted (nat_of n) t s, base_followed (nat_of n) (put (got (nat_of n) t) (noted (nat_of n) t s)), base_ended s (followed (nat_of n) (put (got (nat_of n) t) (noted (nat_of n) t s))))))
    (λ e. rw e (omega arith))

base_irrelevant_at : (n : ℕ) (s : Proxy) → s.base ≤ (irrelevant_at n s).state.base
unfolding irrelevant_at
base_irrelevant_at n s =
    split (ltb n s.base)
    (λ e. rw e (omega (arith, base_followed n s, base_ended s (followed n s))))
    (λ e. rw e (omega (arith, base_followed n (put (unavailable n) s), base_ended s (followed n (put (unavailable n) s)))))

pub base_irrelevant : (n : ℤ) (s : Proxy) → s.base ≤ (irrelevant n s).state.base
unfolding irrelevant
base_irrelevant n s = split (is_number n) (λ e. rw e (base_irrelevant_at (nat_of n) s)) (λ e. rw e (omega arith))

pub base_range : (a b : ℤ) (s : Proxy) → s.base ≤ (irrelevant_range a b s).state.base
unfolding irrelevant_range range_at
base_range a b s =
    split (lt_z b a)
    (λ e. rw e (omega arith))
    (λ e.
    rw e
    (split (leb (nat_of a) s.base)
    (λ f. rw f (omega (arith, base_skipped (nat_of a) (nat_of b) s, base_ended s (skipped (nat_of a) (nat_of b) s))))
    (λ f. rw f (omega (arith, base_each (nat_of b - nat_of a) (nat_of a) s, base_ended s (put_each (nat_of a) (nat_of b - nat_of a) s))))))

-- A call that goes on to the cap is not refused

pub received_accepted : (n t : ℕ) (s : Proxy) (k : ℕ) → (received_at n t s).answer ≡ refused k → ⊥
unfolding received_at
received_accepted n t s k = ended_accepted s (followed n (put (got n t) (noted n t s))) k

pub irrelevant_accepted : (n : ℕ) (s : Proxy) (k : ℕ) → (irrelevant_at n s).answer ≡ refused k → ⊥
unfolding irrelevant_at
irrelevant_accepted n s k = ended_accepted s (followed n (cond (ltb n s.base) s (put (unavailable n) s))) k

pub range_accepted : (a b : ℕ) (s : Proxy) (k : ℕ) → (range_at a b s).answer ≡ refused k → ⊥
unfolding range_at
range_accepted a b s k = ended_accepted s (cond (leb a s.base) (skipped a b s) (put_each a (b - a) s)) k

-- A call that is refused changes nothing

pub received_refused_same : (n : ℤ) (s : Proxy) (t k : ℕ) → (received n t s).answer ≡ refused k → (received n t s).state ≡ s
unfolding received
received_refused_same n s t k = unless_same 4 s (received_at (nat_of n) t s) (received_accepted (nat_of n) t s) (is_number n) k

pub irrelevant_refused_same : (n : ℤ) (s : Proxy) (k : ℕ) → (irrelevant n s).answer ≡ refused k → (irrelevant n s).state ≡ s
unfolding irrelevant
irrelevant_refused_same n s k = unless_same 4 s (irrelevant_at (nat_of n) s) (irrelevant_accepted (nat_of n) s) (is_number n) k

pub range_refused_same : (a b : ℤ) (s : Proxy) (k : ℕ) → (irrelevant_range a b s).answer ≡ refused k → (irrelevant_range a b s).state ≡ s
unfolding irrelevant_range
range_refused_same a b s k = if_same 5 s (range_at (nat_of a) (nat_of b) s) (range_accepted (nat_of a) (nat_of b) s) (lt_z b a) k

-- A call is refused exactly if its test fails

pub received_refused_if : (n : ℤ) (t : ℕ) (s : Proxy) → (is_refused (received n t s).answer ≡ true) ↔ (is_number n ≡ false)
unfolding received
received_refused_if n t s = unless_refused 4 s (received_at (nat_of n) t s) (received_accepted (nat_of n) t s) (is_number n)

pub irrelevant_refused_if : (n : ℤ) (s : Proxy) → (is_refused (irrelevant n s).answer ≡ true) ↔ (is_number n ≡ false)
unfolding irrelevant
irrelevant_refused_if n s = unless_refused 4 s (irrelevant_at (nat_of n) s) (irrelevant_accepted (nat_of n) s) (is_number n)

pub range_refused_if : (a b : ℤ) (s : Proxy) → (is_refused (irrelevant_range a b s).answer ≡ true) ↔ (lt_z b a ≡ true)
unfolding irrelevant_range
range_refused_if a b s = if_refused 5 s (range_at (nat_of a) (nat_of b) s) (range_accepted (nat_of a) (nat_of b) s) (lt_z b a)

-- The number that document 01 gives

received_number_at : (n t : ℕ) (s : Proxy) → refusal (received_at n t s).answer ≡ 0
unfolding received_at
received_number_at n t s = ended_number s (followed n (put (got n t) (noted n t s)))

range_number_at : (a b : ℕ) (s : Proxy) → refusal (range_at a b s).answer ≡ 0
unfolding range_at
range_number_at a b s = ended_number s (cond (leb a s.base) (skipped a b s) (put_each a (b - a) s))

pub received_number : (n : ℤ) (t : ℕ) (s : Proxy) → refusal (received n t s).answer ≡ cond (is_number n) 0 4
unfolding received
received_number n t s = split (is_number n) (λ e. rw e (received_number_at (nat_of n) t s)) (λ e. rw e)

pub range_number : (a b : ℤ) (s : Proxy) → refusal (irrelevant_range a b s).answer ≡ cond (lt_z b a) 5 0
unfolding irrelevant_range
range_number a b s = split (lt_z b a) (λ e. rw e) (λ e. rw e (range_number_at (nat_of a) (nat_of b) s))
