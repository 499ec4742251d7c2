-- Laws of `put_each`: numbers put one by one keep the rules, and by numbers alone: how many there are, their ranks, and that what is below a number
-- may go before they are put or after. Assumes nothing.
use Prim.Native.Nat.{ℕ, zero, suc, ◌+◌, ◌-◌, ◌<◌, ◌≤◌}
use native.Mathlib.Omega.{arith}
use native.Mathlib.Nat.{add-zero, zero-add, suc-add}
use mathlib.Core.Logic.{◌⊎◌, inl, inr, ⊎_elim}
use mathlib.Core.Path.{◌≡◌, refl, ap, ◌∙◌}
use Rattle.std.specs.Prelude.{Some}
use mathlib.Core.List.{List}
use lib.ListN.{length}
use borrow.Author.Tests.{eq-eqb, ne_eqb}
use Rattle.outcome.proofs.Split.{split_lt}
use Rattle.sequence_number.specs.Number.{top}
use Rattle.proxy_record.specs.Entries.{Entry, RisingEntries, from, put_in, look}
use Rattle.proxy_record.specs.declared.Mark.TheVariants.{NotAvailable}
use Rattle.proxy_record.specs.State.{Proxy, with_tracked}
use Rattle.proxy_record.specs.Rules.{ProxyRules}
use Rattle.proxy_record.specs.Rows.{rank}
use Rattle.proxy_record.proofs.BelowFromLaws.{length_split}
use Rattle.proxy_record.proofs.PutLaws.{rising_put, below_put, from_put_below, from_put_above, rank_put, length_put, look_put}
use Rattle.proxy_steps.specs.Steps.{put, rebased, cut_to, unavailable, put_each}
use Rattle.proxy_steps.proofs.StepsLaws.{ok_put}

pub ok_each : (k m a : ℕ) (s : Proxy) → ProxyRules m s → s.base ≤ a → a + k ≤ top → ProxyRules (k + m) (put_each a k s)
unfolding put_each
ok_each zero m a s o h j = rw zero-add o
ok_each (suc k) m a s o h j =
    let e : suc k + m ≡ k + suc m = omega arith in
    rw e (ok_each k (suc m) (suc a) (put (unavailable a) s) (ok_put m (unavailable a) s o h (omega arith)) (omega arith) (omega arith))

pub base_each : (k a : ℕ) (s : Proxy) → (put_each a k s).base ≡ s.base
unfolding put_each
base_each zero a s = refl
base_each (suc k) a s = base_each k (suc a) (put (unavailable a) s)

pub rising_each : (k a lo : ℕ) (s : Proxy) → RisingEntries lo top s.tracked → lo ≤ a → a + k ≤ top → RisingEntries lo top (put_each a k s).tracked
unfolding put_each
rising_each zero a lo s r h j = r
rising_each (suc k) a lo s r h j = rising_each k (suc a) lo (put (unavailable a) s) (rising_put lo top (unavailable a) s.tracked r h (omega arith)) (omega arith) (omega arith)

-- ranks: of a number that is not above the range, and of one in it
pub rank_each_low : (k a c : ℕ) (s : Proxy) → c ≤ a → rank c (put_each a k s).tracked ≡ rank c s.tracked
unfolding put_each
rank_each_low zero a c s h = refl
rank_each_low (suc k) a c s h =
    rank_each_low k (suc a) c (put (unavailable a) s) (omega arith) ∙ ap length (below_put c (unavailable a) s.tracked h)

pub rank_each : (k j a : ℕ) (s : Proxy) → RisingEntries 0 top s.tracked → j ≤ k → a + k ≤ top → rank (a + j) (put_each a k s).tracked ≡ rank a s.tracked + j
unfolding put_each
rank_each k zero a s r h q = rw (add-zero, add-zero) (rank_each_low k a a s (omega arith))
rank_each zero (suc j) a s r h q = absurd (omega arith)
rank_each (suc k) (suc j) a s r h q =
    let e : a + suc j ≡ suc a + j = omega arith in
    let p : RisingEntries 0 top (put_in (unavailable a) s.tracked) = rising_put 0 top (unavailable a) s.tracked r (omega arith) (omega arith) in
    let i : rank (suc a) (put_in (unavailable a) s.tracked) ≡ suc (rank a s.tracked) = rank_put 0 top (unavailable a) s.tracked r in
    rw e (omega (arith, rank_each k j (suc a) (put (unavailable a) s) p (omega arith) (omega arith)))

-- what is above the range stays
from_each : (k a c : ℕ) (s : Proxy) → a + k ≤ c → from c (put_each a k s).tracked ≡ from c s.tracked
unfolding put_each
from_each zero a c s h = refl
from_each (suc k) a c s h =
    from_each k (suc a) c (put (unavailable a) s) (omega arith) ∙ from_put_below c (unavailable a) s.tracked (omega arith)

pub length_each : (k a : ℕ) (s : Proxy) → RisingEntries 0 top s.tracked → a + k ≤ top
    → length (put_each a k s).tracked ≡ rank a s.tracked + k + (length s.tracked - rank (a + k) s.tracked)
length_each k a s r h =
    omega (
      arith,
      length_split (a + k) (put_each a k s).tracked,
      length_split (a + k) s.tracked,
      rank_each k k a s r (omega arith) h,
      ap length (from_each k a (a + k) s (omega arith)),
    )

-- none is taken away
pub each_more : (k a : ℕ) (s : Proxy) → RisingEntries 0 top s.tracked → a + k ≤ top → length s.tracked ≤ length (put_each a k s).tracked
unfolding put_each
each_more zero a s r h = omega arith
each_more (suc k) a s r h =
    let p : RisingEntries 0 top (put_in (unavailable a) s.tracked) = rising_put 0 top (unavailable a) s.tracked r (omega arith) (omega arith) in
    omega (arith, (length_put 0 top (unavailable a) s.tracked r).0, each_more k (suc a) (put (unavailable a) s) p (omega arith))

-- what is below a number goes before the range is put or after: the number is not above the range, or is in it
pub each_cut_low : (k a c : ℕ) (s : Proxy) → c ≤ a → cut_to c (put_each a k s) ≡ put_each a k (cut_to c s)
unfolding put_each
each_cut_low zero a c s h = refl
each_cut_low (suc k) a c s h =
    each_cut_low k (suc a) c (put (unavailable a) s) (omega arith)
    ∙ ap (λ (l : List Entry). put_each (suc a) k (rebased c (with_tracked l s))) (from_put_above c (unavailable a) s.tracked h)

pub each_cut_in : (j k a : ℕ) (s : Proxy) → cut_to (a + j) (put_each a (j + k) s) ≡ put_each (a + j) k (cut_to (a + j) s)
unfolding put_each
each_cut_in zero k a s = rw (zero-add, add-zero) (each_cut_low k a a s (omega arith))
each_cut_in (suc j) k a s =
    let e : a + suc j ≡ suc a + j = omega arith in
    rw (suc-add, e)
    (each_cut_in j k (suc a) (put (unavailable a) s)
    ∙ ap (λ (l : List Entry). put_each (suc a + j) k (rebased (suc a + j) (with_tracked l s))) (from_put_below (suc a + j) (unavailable a) s.tracked (omega arith)))

-- numbers put one by one: those among them are not available, and the others are as they were
pub look_each_out : (k a m : ℕ) (s : Proxy) → (m < a) ⊎ (a + k ≤ m) → look m (put_each a k s).tracked ≡ look m s.tracked
unfolding put_each
look_each_out zero a m s h = refl
look_each_out (suc k) a m s h =
    let z : a ≡ m → ⊥ = λ e. ⊎_elim (λ p. omega arith) (λ p. omega arith) h in
    look_each_out k (suc a) m (put (unavailable a) s) (⊎_elim (λ p. inl (omega arith)) (λ p. inr (omega arith)) h)
    ∙ look_put m (unavailable a) s.tracked ∙ rw (ne_eqb a m z)

pub look_each_in : (k a m : ℕ) (s : Proxy) → a ≤ m → m < a + k → look m (put_each a k s).tracked ≡ Some NotAvailable
unfolding put_each
look_each_in zero a m s h j = absurd (omega arith)
look_each_in (suc k) a m s h j =
    ⊎_elim
    (λ p. look_each_in k (suc a) m (put (unavailable a) s) p (omega arith))
    (λ p.
    let e : a ≡ m = omega arith in
    look_each_out k (suc a) m (put (unavailable a) s) (inl (omega arith)) ∙ look_put m (unavailable a) s.tracked ∙ rw (eq-eqb a m e))
    (split_lt a m)
