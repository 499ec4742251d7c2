-- The theorems of the writer proxy, under document 01's words. A call's own promise is its contract; here is what follows for every state, number and time.
-- `cap` is 256, `top` is 2^63 - 1, and `SFits w64 n` says that n is an i64. Assumes nothing.
use Prim.Native.Nat.{ℕ, suc, ◌+◌, ◌-◌, ◌<◌, ◌≤◌}
use native.Mathlib.Omega.{arith}
use mathlib.Core.Logic.{◌⊎◌, inl, inr, ⊎_elim, ◌↔◌}
use mathlib.Core.Path.{◌≡◌, refl, sym, ap}
use mathlib.Core.Bool.{true, false, cond}
use Rattle.std.specs.Prelude.{Option, None, Some, is_some}
use mathlib.Core.List.{List, [], map, Memᴰ}
use lib.ListN.{length}
use lib.Dec.{ltb, eqb}
use lib.IntN.{ℤ, pos, negsuc}
use lib.Signed.{lt_z, le_z}
use mir.Syntax.{w64}
use mir.Val.{SFits}
use borrow.Author.Tests.{lt-ltb, eq-eqb, ne_eqb}
use Rattle.sequence_number.specs.Number.{top, is_number, nat_of, number_of}
use Rattle.outcome.specs.Lent.{over}
use Rattle.outcome.specs.Outcome.{done, is_refused}
use Rattle.outcome.proofs.Split.{split, clash}
use Rattle.proxy_record.specs.Entries.{Entry, look, Tracked}
use Rattle.proxy_record.specs.declared.Mark.{Mark}
use Rattle.proxy_record.specs.declared.Mark.TheVariants.{NotAvailable}
use Rattle.proxy_record.specs.State.{Proxy, fresh_proxy, cap}
use Rattle.proxy_record.specs.Rules.{ProxyRules}
use Rattle.proxy_record.specs.Words.{proxy_words, proxy_of}
use Rattle.proxy_record.proofs.WordsLaws.{state_of}
use Rattle.proxy_record.proofs.RulesLaws.{ok_fresh}
use Rattle.proxy_record.proofs.LookLaws.{is_tracked_lem, not_tracked, look_kept}
use Rattle.proxy_record.proofs.PutLaws.{look_put}
use Rattle.proxy_steps.specs.Steps.{put, move_on, discard, forced, ended_proxy, unavailable, put_each}
use Rattle.outcome.proofs.RowLaws.{refused_number}
use Rattle.proxy_steps.proofs.StepsLaws.{moved_past, moved_stops}
use Rattle.proxy_steps.proofs.EachLaws.{look_each_out, look_each_in}
use Rattle.writer_proxy.specs.Calls.{received_at, received, irrelevant, irrelevant_range, up_to}
use Rattle.writer_proxy.proofs.CallsLaws.{ok_received, ok_irrelevant, range_at_above, ok_range, base_received, base_irrelevant, base_range, received_passes, received_refused_if, irrelevant_refused_if, range_refused_if, received_refused_same, irrelevant_refused_same, range_refused_same}
use Rattle.writer_proxy.specs.Queries.{ignored, status_of, last_received}
use Rattle.writer_proxy.specs.Missing.{untracked_from, Ascending, missing_from, missing_numbers, missing_listed}
use Rattle.writer_proxy.proofs.QueryLaws.{ignored_if}
use Rattle.writer_proxy.proofs.PassedLaws.{still_ignored, received_passed, irrelevant_passed, range_passed}
use Rattle.writer_proxy.proofs.MissingLaws.{listed_all, missing_has, missing_ascends, missing_refused_if, missing_refused_same}
use Rattle.sequence_number.proofs.NumberLaws.{number_is, end_top, start_low, end_high, crossed}

-- "their own rules hold, shown kept by every call": among them "Never more than 256 numbers are tracked after a call"
pub set_up_keeps : ProxyRules cap fresh_proxy
set_up_keeps = ok_fresh

pub received_keeps_rules : (n : ℤ) (t : ℕ) (s : Proxy) → ProxyRules cap s → ProxyRules cap (received n t s).state
received_keeps_rules = ok_received

pub irrelevant_keeps_rules : (n : ℤ) (s : Proxy) → ProxyRules cap s → ProxyRules cap (irrelevant n s).state
irrelevant_keeps_rules = ok_irrelevant

pub range_keeps_rules : (a b : ℤ) (s : Proxy) → SFits w64 b → ProxyRules cap s → ProxyRules cap (irrelevant_range a b s).state
range_keeps_rules = ok_range

pub up_to_keeps_rules : (n : ℤ) (s : Proxy) → SFits w64 n → ProxyRules cap s → ProxyRules cap (up_to n s).state
up_to_keeps_rules n = ok_range (pos 0) n

-- the words are the record of a state, one record a state
pub record_reads_back : (s : Proxy) → ProxyRules cap s → proxy_of (proxy_words s) ≡ s
record_reads_back s o = state_of s (proxy_words s) (omega (arith, o.few)) refl

-- "the ack base starts at 1 and never falls"
pub received_lifts_base : (n : ℤ) (t : ℕ) (s : Proxy) → s.base ≤ (received n t s).state.base
received_lifts_base = base_received

pub irrelevant_lifts_base : (n : ℤ) (s : Proxy) → s.base ≤ (irrelevant n s).state.base
irrelevant_lifts_base = base_irrelevant

pub range_lifts_base : (a b : ℤ) (s : Proxy) → s.base ≤ (irrelevant_range a b s).state.base
range_lifts_base = base_range

pub up_to_lifts_base : (n : ℤ) (s : Proxy) → s.base ≤ (up_to n s).state.base
up_to_lifts_base = base_range (pos 0)

-- "the base moves to the first untracked number"
pub first_untracked : (m : ℕ) (s : Proxy) → ProxyRules m s → ((n : ℕ) → s.base ≤ n → n < (move_on s).base → Tracked n s.tracked) × (Tracked (move_on s).base s.tracked → ⊥)
first_untracked m s o = (λ n. moved_past n s, moved_stops m s o)

-- What the table says of each number m after a step

-- "put .. over what was there"
pub put_shows : (m : ℕ) (e : Entry) (s : Proxy) → look m (put e s).tracked ≡ cond (eqb e.number m) (Some e.mark) (look m s.tracked)
put_shows m e s = look_put m e s.tracked

-- "tracked numbers below the base go"
pub discard_shows : (m : ℕ) (s : Proxy) → look m (discard s).tracked ≡ cond (ltb m s.base) None (look m s.tracked)
unfolding discard
discard_shows m s = look_kept m s.base s.tracked

-- "each is put not available": the k numbers from a on, and no other
pub puts_show : (k a m : ℕ) (s : Proxy) → a ≤ m → m < a + k → look m (put_each a k s).tracked ≡ Some NotAvailable
puts_show = look_each_in

pub puts_keep : (k a m : ℕ) (s : Proxy) → (m < a) ⊎ (a + k ≤ m) → look m (put_each a k s).tracked ≡ look m s.tracked
puts_keep = look_each_out

-- "Ignore holds exactly for a number below the base or tracked"
pub ignore_exact : (n : ℤ) (s : Proxy) → (ignored n s ≡ true) ↔ ((lt_z n (pos s.base) ≡ true) ⊎ Tracked (nat_of n) s.tracked)
ignore_exact (negsuc n) s = (λ h. inl refl, λ h. refl)
ignore_exact (pos n) s =
    split (ltb n s.base)
    (λ e. rw e (λ h. inl refl, λ h. refl))
    (λ e. rw e (λ h. inr ((is_tracked_lem n s.tracked).0 h), ⊎_elim (λ h. let z : ◌≡◌ {A = ℕ} 0 1 = cc in absurd (omega arith)) (λ h. (is_tracked_lem n s.tracked).1 h)))

-- The missing list, from max(heartbeat start, ack base) through heartbeat end
module _ (start end : ℤ) (s : Proxy) (o : ProxyRules cap s) where
  -- exactly the untracked numbers
  pub missing_exact : (n : ℕ) → Memᴰ n (missing_numbers start end s) ↔ ((s.base ≤ n) × (le_z start (pos n) ≡ true) × (le_z (pos n) end ≡ true) × (Tracked n s.tracked → ⊥))
  missing_exact n =
      let m = missing_has n (missing_from start s) (suc (nat_of end) - missing_from start s) s.tracked in (
        λ h.
            let p = m.0 h in
            let b : s.base ≤ n = omega (arith, p.0) in
            (b, (start_low start n).1 (omega (arith, p.0)), (end_high end n (omega (arith, o.low))).1 (omega (arith, p.0, p.1)), (not_tracked n s.tracked).0 p.2),
        λ h.
            let a : nat_of start ≤ n = (start_low start n).0 h.1 in
            let b : n ≤ nat_of end = (end_high end n (omega (arith, o.low, h.0))).0 h.2 in
            m.1 (omega (arith, h.0), omega (arith, h.0), (not_tracked n s.tracked).1 h.3),
      )

  -- in rising order
  pub missing_rising : Ascending (missing_from start s) (missing_numbers start end s)
  missing_rising = missing_ascends (missing_from start s) (suc (nat_of end) - missing_from start s) s.tracked

  -- "If heartbeat start exceeds its end, nothing is missing"
  pub missing_nothing : lt_z end start ≡ true → missing_numbers start end s ≡ []
  unfolding untracked_from
  missing_nothing e =
      let k : suc (nat_of end) - missing_from start s ≡ 0 = omega (arith, crossed start end s.base o.low e) in
      rw k

  -- given room and an end below 2^63 - 1, the list is written whole, its count is its length, and entries past it keep their values
  pub missing_listed_lem : (out : List ℤ) → (end ≡ pos top → ⊥) → length (missing_numbers start end s) ≤ length out
      → ((missing_listed start end s out).answer ≡ done (length (missing_numbers start end s))) × ((missing_listed start end s out).list ≡ over (map pos (missing_numbers start end s)) out)
  missing_listed_lem out n h =
      let a = listed_all start end s out (length (missing_numbers start end s)) (over (map pos (missing_numbers start end s)) out) (λ e. n ((end_top end).0 e)) h refl refl in
      (sym a.0, sym a.1)

-- "Else each is put not available, over what was there": a range above the base is its numbers put one by one, and then the cap
pub range_is_puts : (a b : ℤ) (s : Proxy) → lt_z b a ≡ false → s.base < nat_of a → irrelevant_range a b s ≡ ended_proxy s (put_each (nat_of a) (nat_of b - nat_of a) s)
unfolding irrelevant_range
range_is_puts a b s e h = rw e (range_at_above (nat_of a) (nat_of b) s h)

pub puts_one_by_one : (a k : ℕ) (s : Proxy) → (put_each a 0 s ≡ s) × (put_each a (suc k) s ≡ put_each (suc a) k (put (unavailable a) s))
unfolding put_each
puts_one_by_one a k s = (refl, refl)

-- "The answer reports a forced step with old and new base"
pub forced_said : (before s : Proxy) → cap < length s.tracked → (ended_proxy before s).answer ≡ done (forced s.base (ended_proxy before s).state.base)
unfolding ended_proxy
forced_said before s h = rw (lt-ltb cap (length s.tracked) h)

-- Accepted or refused, read off the answer

-- 4: "number below 1 or equal to 2^63 - 1 in received, one irrelevant"
pub received_refused : (n : ℤ) (t : ℕ) (s : Proxy) → (is_refused (received n t s).answer ≡ true) ↔ (is_number n ≡ false)
received_refused = received_refused_if

pub irrelevant_refused : (n : ℤ) (s : Proxy) → (is_refused (irrelevant n s).answer ≡ true) ↔ (is_number n ≡ false)
irrelevant_refused = irrelevant_refused_if

-- 5: "range with a > b"
pub range_refused : (a b : ℤ) (s : Proxy) → (is_refused (irrelevant_range a b s).answer ≡ true) ↔ (lt_z b a ≡ true)
range_refused = range_refused_if

pub up_to_refused : (n : ℤ) (s : Proxy) → (is_refused (up_to n s).answer ≡ true) ↔ (lt_z n (pos 0) ≡ true)
up_to_refused = range_refused_if (pos 0)

-- 4: "heartbeat end 2^63 - 1"; 3: "lent output shorter than the answer"
pub missing_refused : (start end : ℤ) (s : Proxy) (out : List ℤ)
    → (is_refused (missing_listed start end s out).answer ≡ true) ↔ ((end ≡ pos top) ⊎ (length out < length (missing_numbers start end s)))
missing_refused start end s out =
    let m = missing_refused_if start end s out in (
      λ h. ⊎_elim (λ e. inl ((end_top end).0 e)) inr (m.0 h),
      λ h. m.1 (⊎_elim (λ e. inl ((end_top end).1 e)) inr h),
    )

-- "Every refusal .. leaves state .. and output untouched"
pub received_refused_leaves : (n : ℤ) (t : ℕ) (s : Proxy) → is_refused (received n t s).answer ≡ true → (received n t s).state ≡ s
received_refused_leaves n t s h = received_refused_same n s t _ (refused_number (received n t s).answer h)

pub irrelevant_refused_leaves : (n : ℤ) (s : Proxy) → is_refused (irrelevant n s).answer ≡ true → (irrelevant n s).state ≡ s
irrelevant_refused_leaves n s h = irrelevant_refused_same n s _ (refused_number (irrelevant n s).answer h)

pub range_refused_leaves : (a b : ℤ) (s : Proxy) → is_refused (irrelevant_range a b s).answer ≡ true → (irrelevant_range a b s).state ≡ s
range_refused_leaves a b s h = range_refused_same a b s _ (refused_number (irrelevant_range a b s).answer h)

pub up_to_refused_leaves : (n : ℤ) (s : Proxy) → is_refused (up_to n s).answer ≡ true → (up_to n s).state ≡ s
up_to_refused_leaves = range_refused_leaves (pos 0)

pub missing_refused_leaves : (start end : ℤ) (s : Proxy) (out : List ℤ) → is_refused (missing_listed start end s out).answer ≡ true → (missing_listed start end s out).list ≡ out
missing_refused_leaves start end s out h = missing_refused_same start end s out _ (refused_number (missing_listed start end s out).answer h)

-- a number that a receipt was accepted for is to be ignored after it
pub received_settles : (n : ℤ) (t : ℕ) (s : Proxy) → ProxyRules cap s → is_refused (received n t s).answer ≡ false → ignored n (received n t s).state ≡ true
unfolding received
received_settles n t s o =
    ⊎_elim
    (λ w. rw w.1 (λ h. absurd (clash true refl h)))
    (λ w. rw w.2 (λ h. ignored_if n (received_at (nat_of n) t s).state (received_passes (nat_of n) t s o (omega (arith, w.1, w.3)))))
    (number_is n (number_of n) refl)

-- and what is to be ignored stays so, whatever is called
pub received_keeps_ignored : (m n : ℤ) (t : ℕ) (s : Proxy) → ignored m s ≡ true → ignored m (received n t s).state ≡ true
received_keeps_ignored m n t s = still_ignored m s (received n t s).state (λ k. received_passed k n t s)

pub irrelevant_keeps_ignored : (m n : ℤ) (s : Proxy) → ignored m s ≡ true → ignored m (irrelevant n s).state ≡ true
irrelevant_keeps_ignored m n s = still_ignored m s (irrelevant n s).state (λ k. irrelevant_passed k n s)

pub range_keeps_ignored : (m a b : ℤ) (s : Proxy) → ProxyRules cap s → ignored m s ≡ true → ignored m (irrelevant_range a b s).state ≡ true
range_keeps_ignored m a b s o = still_ignored m s (irrelevant_range a b s).state (λ k. range_passed k a b s o)

pub up_to_keeps_ignored : (m n : ℤ) (s : Proxy) → ProxyRules cap s → ignored m s ≡ true → ignored m (up_to n s).state ≡ true
up_to_keeps_ignored m = range_keeps_ignored m (pos 0)

-- "The last time is absent while the last number is 0"
pub last_said : (s : Proxy) → (s.last ≡ 0 → last_received s ≡ None) × ((s.last ≡ 0 → ⊥) → last_received s ≡ Some (s.last, s.time))
unfolding last_received
last_said s = (λ e. rw (eq-eqb s.last 0 e), λ e. rw (ne_eqb s.last 0 e))

-- there is no status exactly of a number that is not tracked
not_given : (o : Option Mark) → (o ≡ None) ↔ (is_some o ≡ false)
not_given None = (λ h. refl, λ h. refl)
not_given (Some m) = (λ h. ap is_some h, λ h. let z : ◌≡◌ {A = ℕ} 0 1 = cc in absurd (omega arith))

pub status_said_lem : (n : ℕ) (s : Proxy) → (status_of (pos n) s ≡ None) ↔ (Tracked n s.tracked → ⊥)
status_said_lem n s =
    let e = not_given (look n s.tracked) in
    (λ h. (not_tracked n s.tracked).0 (e.0 h), λ h. e.1 ((not_tracked n s.tracked).1 h))
