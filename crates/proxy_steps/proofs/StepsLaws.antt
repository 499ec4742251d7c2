-- Laws of the steps of `specs/Steps.antt`: what each keeps of the rules, which way of a step is which, and that none lowers the base. Assumes nothing.
use Prim.Native.Nat.{ℕ, suc, ◌+◌, ◌<◌, ◌≤◌}
use native.Mathlib.Omega.{arith}
use mathlib.Core.Logic.{⊎_elim}
use mathlib.Core.Path.{◌≡◌, refl, sym, ◌∙◌}
use mathlib.Core.Bool.{Bool, true, false, cond}
use mathlib.Core.List.{List, []}
use lib.ListN.{length-drop}
use lib.Dec.{ltb, eqb}
use borrow.Author.Tests.{lt-ltb, le-ltb, ltb-true, le-leb, lt-leb, eq-eqb, ne_eqb}
use Rattle.sequence_number.specs.Number.{top}
use Rattle.outcome.proofs.Split.{split, split_lt, split_eq}
use Rattle.proxy_record.specs.Entries.{Entry, from, put_in, run_len, Tracked}
use Rattle.proxy_record.specs.State.{Proxy, with_tracked, cap}
use Rattle.proxy_record.specs.Rules.{ProxyRules}
use Rattle.proxy_record.proofs.EntriesLaws.{below_none, from_all, from_drop, rising_from}
use Rattle.proxy_record.proofs.BelowFromLaws.{from_from}
use Rattle.proxy_record.proofs.LookLaws.{tracked_from}
use Rattle.proxy_record.proofs.PutLaws.{rising_put, length_put, from_put, from_put_below, run_put, put_none}
use Rattle.proxy_record.proofs.RunLaws.{run_bound, from_run, run_tracked, run_stops}
use Rattle.proxy_record.proofs.RulesLaws.{ok_more}
use Rattle.proxy_steps.specs.Steps.{noted, put, rebased, move_on, discard, cut_to, followed, without, skipped}

-- The rules

ok_cond : (m : ℕ) (b : Bool) (x y : Proxy) → ProxyRules m x → ProxyRules m y → ProxyRules m (cond b x y)
ok_cond m true x y p q = p
ok_cond m false x y p q = q

pub ok_noted : (m n t : ℕ) (s : Proxy) → n < top → ProxyRules m s → ProxyRules m (noted n t s)
unfolding noted
ok_noted m n t s h o =
    ok_cond m (ltb s.last n) _ _
    (record { few = o.few; rising = o.rising; low = o.low; high = o.high; last_below = h }) o

pub ok_put : (m : ℕ) (e : Entry) (s : Proxy) → ProxyRules m s → s.base ≤ e.number → e.number < top → ProxyRules (suc m) (put e s)
ok_put m e s o p q =
    record {
      few = omega (arith, (length_put s.base top e s.tracked o.rising).1, o.few);
      rising = rising_put s.base top e s.tracked o.rising p q;
      low = o.low;
      high = o.high;
      last_below = o.last_below;
    }

pub ok_cut : (b : ℕ) (s : Proxy) → ProxyRules cap s → s.base ≤ b → b ≤ top → ProxyRules cap (cut_to b s)
ok_cut b s o h j =
    record {
      few = rw (← from_drop s.base top b s.tracked o.rising) (simp length-drop (omega (arith, o.few)));
      rising = rising_from s.base top b s.tracked o.rising;
      low = omega (arith, o.low);
      high = j;
      last_below = o.last_below;
    }

-- the base moves on, and what it passes goes
pub ok_advanced : (m : ℕ) (s : Proxy) → ProxyRules m s → ProxyRules m (discard (move_on s))
unfolding discard move_on
ok_advanced m s o =
    let f = from_all s.base top s.base s.tracked o.rising (omega arith) in
    record {
      few = rw (f, from_run s.base top s.base s.tracked o.rising (omega arith)) (simp length-drop (omega (arith, o.few)));
      rising = rising_from s.base top _ s.tracked o.rising;
      low = omega (arith, o.low);
      high = rw f (run_bound s.base top s.base s.tracked o.rising o.high);
      last_below = o.last_below;
    }

-- The ways of a number that was put

pub followed_old : (m : ℕ) (e : Entry) (s : Proxy) → ProxyRules m s → e.number < s.base → followed e.number (put e s) ≡ s
unfolding followed discard
followed_old m e s o h =
    rw (ne_eqb e.number s.base (omega arith), from_put s.base top e s.tracked o.rising h)

pub followed_at : (n : ℕ) (s : Proxy) → n ≡ s.base → followed n s ≡ discard (move_on s)
unfolding followed
followed_at n s e = rw (eq-eqb n s.base e)

pub followed_other : (m n : ℕ) (s : Proxy) → ProxyRules m s → (n ≡ s.base → ⊥) → followed n s ≡ s
unfolding followed discard
followed_other m n s o h = rw (ne_eqb n s.base h, from_all s.base top s.base s.tracked o.rising (omega arith))

pub followed_first : (e : Entry) (s : Proxy) → s.tracked ≡ [] → e.number ≡ s.base
    → followed e.number (put e s) ≡ record { base = e.number + 1; tracked = []; last = s.last; time = s.time }
unfolding followed discard move_on from run_len
followed_first e s h k =
    let a : s.base ≤ e.number = omega arith in
    let b : e.number < e.number + 1 = omega arith in
    rw (h, put_none, eq-eqb e.number s.base k, ← k, le-leb e.number e.number (omega arith), eq-eqb e.number e.number refl, lt-leb (e.number + 1) e.number b)

-- the base's own number: the base steps over it, and it is not tracked
pub followed_base : (e : Entry) (s : Proxy) → ProxyRules cap s → e.number ≡ s.base → followed e.number (put e s) ≡ discard (move_on (cut_to (suc e.number) s))
unfolding followed discard move_on
followed_base e s o h =
    let n = e.number in
    let m : List Entry = from (suc n) s.tracked in
    let k : n + suc (run_len (suc n) m) ≡ suc n + run_len (suc n) m = omega arith in
    let g : from (suc n) m ≡ m = from_all (suc n) top (suc n) m (rising_from s.base top (suc n) s.tracked o.rising) (omega arith) in
    let p : from (suc n + run_len (suc n) m) (put_in e s.tracked) ≡ from (suc n + run_len (suc n) m) m =
    from_put_below (suc n + run_len (suc n) m) e s.tracked (omega arith) ∙ sym (from_from (suc n) (suc n + run_len (suc n) m) s.tracked (omega arith)) in
    rw (eq-eqb n s.base h, ← h, run_put s.base top e s.tracked o.rising, k, g, p)

pub ok_followed : (e : Entry) (s : Proxy) → ProxyRules cap s → e.number < top → ProxyRules (suc cap) (followed e.number (put e s))
ok_followed e s o h =
    ⊎_elim
    (λ a. rw (followed_old cap e s o a) (ok_more cap (suc cap) s (omega arith) o))
    (λ a.
    let p = ok_put cap e s o a h in
    ⊎_elim
    (λ b. rw (followed_at e.number (put e s) b) (ok_advanced (suc cap) (put e s) p))
    (λ b. rw (followed_other (suc cap) e.number (put e s) p b) p)
    (split_eq e.number s.base))
    (split_lt e.number s.base)

-- The last received number

pub noted_kept : (n t : ℕ) (s : Proxy) → ((noted n t s).tracked ≡ s.tracked) × ((noted n t s).base ≡ s.base)
unfolding noted
noted_kept n t s = split (ltb s.last n) (λ e. rw e (refl, refl)) (λ e. rw e (refl, refl))

-- A range that starts at the base or below it

module _ (a b : ℕ) (s : Proxy) (o : ProxyRules cap s) (h : a ≤ s.base) where
  without_is : without a b s ≡ with_tracked (from b s.tracked) s
  unfolding without
  without_is = rw (below_none s.base top a s.tracked o.rising h)

  pub skipped_none : b ≤ s.base → skipped a b s ≡ s
  unfolding skipped
  skipped_none k = rw (le-ltb s.base b k, without_is, from_all s.base top b s.tracked o.rising k)

  pub skipped_some : s.base < b → skipped a b s ≡ discard (move_on (cut_to b s))
  unfolding skipped
  skipped_some k = rw (lt-ltb s.base b k, without_is)

pub ok_skipped : (a b : ℕ) (s : Proxy) → ProxyRules cap s → a ≤ s.base → b ≤ top → ProxyRules cap (skipped a b s)
ok_skipped a b s o h j =
    ⊎_elim
    (λ k. rw (skipped_some a b s o h k) (ok_advanced cap _ (ok_cut b s o (omega arith) j)))
    (λ k. rw (skipped_none a b s o h k) o)
    (split_lt s.base b)

-- a range's start below the base does not matter
pub skipped_same : (a b : ℕ) (s : Proxy) → ProxyRules cap s → a ≤ s.base → skipped 0 b s ≡ skipped a b s
skipped_same a b s o h =
    ⊎_elim
    (λ k. skipped_some 0 b s o (omega arith) k ∙ sym (skipped_some a b s o h k))
    (λ k. skipped_none 0 b s o (omega arith) k ∙ sym (skipped_none a b s o h k))
    (split_lt s.base b)

-- No step lowers the base

pub base_noted : (n t : ℕ) (s : Proxy) → s.base ≤ (noted n t s).base
base_noted n t s = omega (arith, (noted_kept n t s).1)

pub base_moved : (s : Proxy) → s.base ≤ (move_on s).base
unfolding move_on
base_moved s = omega arith

pub base_followed : (n : ℕ) (s : Proxy) → s.base ≤ (followed n s).base
unfolding followed discard
base_followed n s = split (eqb n s.base) (λ e. rw e (base_moved s)) (λ e. rw e (omega arith))

pub base_skipped : (a b : ℕ) (s : Proxy) → s.base ≤ (skipped a b s).base
unfolding skipped without discard
base_skipped a b s =
    split (ltb s.base b)
    (λ e. rw e (omega (arith, ltb-true s.base b e, base_moved (rebased b (without a b s)))))
    (λ e. rw e (omega arith))

-- "the base moves to the first untracked number"
pub moved_past : (n : ℕ) (s : Proxy) → s.base ≤ n → n < (move_on s).base → Tracked n s.tracked
unfolding move_on
moved_past n s h k = tracked_from n s.base s.tracked (run_tracked n s.base (from s.base s.tracked) h k)

pub moved_stops : (m : ℕ) (s : Proxy) → ProxyRules m s → Tracked (move_on s).base s.tracked → ⊥
unfolding move_on
moved_stops m s o = rw (from_all s.base top s.base s.tracked o.rising (omega arith)) (run_stops s.base top s.base s.tracked o.rising (omega arith))
