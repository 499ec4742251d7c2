-- A number that is below the base or tracked is so after every step and every call. Assumes nothing.
use Prim.Native.Nat.{ℕ, zero, suc, ◌-◌, ◌<◌, ◌≤◌}
use native.Mathlib.Omega.{arith}
use mathlib.Core.Logic.{◌⊎◌, inl, inr, ⊎_elim}
use mathlib.Core.Path.{◌≡◌, refl, ap, ◌∙◌}
use mathlib.Core.Bool.{true, cond}
use Rattle.std.specs.Prelude.{Some, is_some}
use mathlib.Core.List.{List}
use lib.Dec.{ltb, eqb}
use lib.IntN.{ℤ, pos, negsuc}
use lib.Signed.{lt_z}
use borrow.Author.Tests.{ltb-true, le-leb, lt-leb}
use Rattle.outcome.proofs.Split.{split, split_lt}
use Rattle.sequence_number.specs.Number.{is_number, nat_of}
use Rattle.proxy_record.specs.Entries.{Entry, from, put_in, look, Tracked}
use Rattle.proxy_record.specs.State.{Proxy, cap}
use Rattle.proxy_record.specs.Rules.{ProxyRules}
use Rattle.proxy_record.proofs.LookLaws.{is_tracked_lem, look_from}
use Rattle.proxy_record.proofs.PutLaws.{look_put}
use Rattle.proxy_steps.specs.Steps.{noted, put, move_on, discard, cut_to, followed, ended_proxy, unavailable, skipped, put_each}
use Rattle.proxy_steps.proofs.StepsLaws.{noted_kept, skipped_none, skipped_some}
use Rattle.proxy_steps.proofs.CapLaws.{base_ended, ended_passes}
use Rattle.writer_proxy.specs.Calls.{got, received_at, received, irrelevant_at, irrelevant, range_at, irrelevant_range}
use Rattle.writer_proxy.specs.Queries.{ignored}
use Rattle.writer_proxy.proofs.QueryLaws.{ignored_if}

abbrev pub Passed : ℕ → Proxy → Type 0
Passed n s = (n < s.base) ⊎ Tracked n s.tracked

tracked_stays : (n : ℕ) (e : Entry) (l : List Entry) → Tracked n l → Tracked n (put_in e l)
tracked_stays n e l t =
    let h : is_some (cond (eqb e.number n) (Some e.mark) (look n l)) ≡ true = split (eqb e.number n) (λ q. rw q) (λ q. rw q ((is_tracked_lem n l).1 t)) in
    (is_tracked_lem n (put_in e l)).0 (ap is_some (look_put n e l) ∙ h)

tracked_above : (n b : ℕ) (l : List Entry) → Tracked n l → (n < b) ⊎ Tracked n (from b l)
tracked_above n b l t =
    ⊎_elim
    (λ h. inl h)
    (λ h. inr ((is_tracked_lem n (from b l)).0 (ap is_some (look_from n b l h) ∙ (is_tracked_lem n l).1 t)))
    (split_lt n b)

-- The steps

module _ (n : ℕ) where
  noted_passed : (m t : ℕ) (s : Proxy) → Passed n s → Passed n (noted m t s)
  noted_passed m t s p = rw ((noted_kept m t s).0, (noted_kept m t s).1) p

  put_passed : (e : Entry) (s : Proxy) → Passed n s → Passed n (put e s)
  put_passed e s = ⊎_elim inl (λ t. inr (tracked_stays n e s.tracked t))

  moved_passed : (s : Proxy) → Passed n s → Passed n (move_on s)
  unfolding move_on
  moved_passed s = ⊎_elim (λ h. inl (omega arith)) inr

  discard_passed : (s : Proxy) → Passed n s → Passed n (discard s)
  unfolding discard
  discard_passed s = ⊎_elim inl (tracked_above n s.base s.tracked)

  cut_passed : (b : ℕ) (s : Proxy) → s.base ≤ b → Passed n s → Passed n (cut_to b s)
  cut_passed b s h = ⊎_elim (λ k. inl (omega arith)) (tracked_above n b s.tracked)

  followed_passed : (m : ℕ) (s : Proxy) → Passed n s → Passed n (followed m s)
  unfolding followed
  followed_passed m s p = split (eqb m s.base) (λ e. rw e (discard_passed (move_on s) (moved_passed s p))) (λ e. rw e (discard_passed s p))

  each_passed : (k a : ℕ) (s : Proxy) → Passed n s → Passed n (put_each a k s)
  unfolding put_each
  each_passed zero a s p = p
  each_passed (suc k) a s p = each_passed k (suc a) (put (unavailable a) s) (put_passed (unavailable a) s p)

  skipped_passed : (a b : ℕ) (s : Proxy) → ProxyRules cap s → a ≤ s.base → Passed n s → Passed n (skipped a b s)
  skipped_passed a b s o h p =
      ⊎_elim
      (λ k. rw (skipped_some a b s o h k) (discard_passed (move_on (cut_to b s)) (moved_passed (cut_to b s) (cut_passed b s (omega arith) p))))
      (λ k. rw (skipped_none a b s o h k) p)
      (split_lt s.base b)

  ended_passed : (before s : Proxy) → Passed n s → Passed n (ended_proxy before s).state
  ended_passed before s = ⊎_elim (λ h. inl (omega (arith, base_ended before s))) (ended_passes n before s)

  -- The calls

  pub received_passed : (m : ℤ) (t : ℕ) (s : Proxy) → Passed n s → Passed n (received m t s).state
  unfolding received received_at
  received_passed m t s p =
      let k = nat_of m in
      split (is_number m)
      (λ e. rw e (ended_passed s _ (followed_passed k _ (put_passed (got k t) (noted k t s) (noted_passed k t s p)))))
      (λ e. rw e p)

  pub irrelevant_passed : (m : ℤ) (s : Proxy) → Passed n s → Passed n (irrelevant m s).state
  unfolding irrelevant irrelevant_at
  irrelevant_passed m s p =
      let k = nat_of m in
      split (is_number m)
      (λ e.
      rw e
      (split (ltb k s.base)
      (λ f. rw f (ended_passed s _ (followed_passed k s p)))
      (λ f. rw f (ended_passed s _ (followed_passed k _ (put_passed (unavailable k) s p))))))
      (λ e. rw e p)

  pub range_passed : (a b : ℤ) (s : Proxy) → ProxyRules cap s → Passed n s → Passed n (irrelevant_range a b s).state
  unfolding irrelevant_range range_at
  range_passed a b s o p =
      split (lt_z b a)
      (λ e. rw e p)
      (λ e.
      rw e
      (⊎_elim
      (λ h. rw (lt-leb (nat_of a) s.base h) (ended_passed s _ (each_passed (nat_of b - nat_of a) (nat_of a) s p)))
      (λ h. rw (le-leb (nat_of a) s.base h) (ended_passed s _ (skipped_passed (nat_of a) (nat_of b) s o h p)))
      (split_lt s.base (nat_of a))))

-- what is ignored, by any step that keeps what was passed
passed_of : (n : ℕ) (s : Proxy) → ignored (pos n) s ≡ true → Passed n s
passed_of n s h =
    split (ltb n s.base)
    (λ e. inl (ltb-true n s.base e))
    (λ e. inr ((is_tracked_lem n s.tracked).0 (rw e at h)))

pub still_ignored : (n : ℤ) (s u : Proxy) → ((m : ℕ) → Passed m s → Passed m u) → ignored n s ≡ true → ignored n u ≡ true
still_ignored (negsuc n) s u f h = refl
still_ignored (pos n) s u f h = ignored_if (pos n) u (f n (passed_of n s h))
