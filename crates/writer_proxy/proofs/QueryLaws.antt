-- Laws of `specs/Queries.antt`, and what `find` finds at a number's place. Assumes nothing.
use Prim.Native.Nat.{ℕ, ◌<◌, ◌≤◌}
use native.Mathlib.Omega.{arith}
use mathlib.Core.Logic.{◌⊎◌, inl, inr, ⊎_elim}
use mathlib.Core.Path.{◌≡◌, refl, sym, ap, ◌∙◌}
use mathlib.Core.Bool.{true}
use Rattle.std.specs.Prelude.{Option, None, Some, is_some, option_map}
use mathlib.Core.List.{List}
use lib.ListN.{length, get_or}
use lib.Dec.{ltb}
use lib.IntN.{ℤ, pos, negsuc}
use borrow.Author.Tests.{lt-ltb, le-ltb, eq-eqb, ne_eqb}
use Rattle.sequence_number.specs.Number.{top, nat_of}
use Rattle.outcome.proofs.Split.{split}
use Rattle.proxy_record.specs.Entries.{look, is_tracked, Tracked}
use Rattle.proxy_record.specs.declared.Mark.{Mark}
use Rattle.proxy_record.specs.State.{Proxy}
use Rattle.proxy_record.specs.Rules.{ProxyRules, GoodProxy}
use Rattle.proxy_record.specs.Words.{number_in, proxy_of, tracked_in}
use Rattle.proxy_record.specs.Rows.{blank_entry, rank}
use Rattle.proxy_record.proofs.LookLaws.{is_tracked_lem, look_low, rank_next}
use Rattle.writer_proxy.specs.Queries.{ignored, status_of, last_received}

-- `find`: the number's place is `at`
module _ (w : List ℕ) (g : GoodProxy w) (n at : ℕ) (p : at ≡ rank n (tracked_in w)) where
  pub status_some : (x : ℕ) → at < get_or w 1 0 → x ≡ number_in (get_or (tracked_in w) at blank_entry) → x ≡ n
      → Some (get_or (tracked_in w) at blank_entry).mark ≡ look n (tracked_in w)
  status_some x h e f =
      let a : (get_or (tracked_in w) (rank n (tracked_in w)) blank_entry).number ≡ n = rw (← p) (sym e ∙ f) in
      let b : rank n (tracked_in w) < length (tracked_in w) = omega (arith, g.count) in
      ⊎_elim
      (λ v. rw p (sym v.0))
      (λ v. absurd (v.2 b a))
      (rank_next (proxy_of w).base top n (tracked_in w) g.ok.rising)

  pub status_none : (at < get_or w 1 0 → number_in (get_or (tracked_in w) at blank_entry) ≡ n → ⊥) → None ≡ look n (tracked_in w)
  status_none h =
      ⊎_elim
      (λ v.
      let k : at < get_or w 1 0 = omega (arith, p, v.2, g.count) in
      absurd (h k (rw p v.3)))
      (λ v. rw v.0)
      (rank_next (proxy_of w).base top n (tracked_in w) g.ok.rising)

-- negative numbers: not tracked, and below every base
pub status_nat : (m : ℕ) (n : ℤ) (s : Proxy) → ProxyRules m s → look (nat_of n) s.tracked ≡ status_of n s
status_nat m (pos n) s o = refl
status_nat m (negsuc n) s o = rw (look_low s.base top 0 s.tracked o.rising o.low)

pub ignored_if : (n : ℤ) (s : Proxy) → (nat_of n < s.base) ⊎ Tracked (nat_of n) s.tracked → ignored n s ≡ true
ignored_if (negsuc n) s h = refl
ignored_if (pos n) s (inl h) = rw (lt-ltb n s.base h)
ignored_if (pos n) s (inr t) = split (ltb n s.base) (λ e. rw e) (λ e. rw e ((is_tracked_lem n s.tracked).1 t))

pub ignored_low : (n : ℤ) (s : Proxy) → nat_of n < s.base → true ≡ ignored n s
ignored_low (pos n) s h = rw (lt-ltb n s.base h)
ignored_low (negsuc n) s h = refl

pub ignored_else : (m : ℕ) (n : ℤ) (s : Proxy) → ProxyRules m s → s.base ≤ nat_of n → is_tracked (nat_of n) s.tracked ≡ ignored n s
ignored_else m (pos n) s o h = rw (le-ltb n s.base h)
ignored_else m (negsuc n) s o h = absurd (omega (arith, o.low))

-- the other queries
pub last_none : (s : Proxy) (n : ℕ) → n ≡ s.last → n ≡ 0 → None ≡ last_received s
unfolding last_received
last_none s n e h = rw (eq-eqb s.last 0 (sym e ∙ h))

pub last_some : (s : Proxy) (n t : ℕ) → n ≡ s.last → t ≡ s.time → (n ≡ 0 → ⊥) → Some (n, t) ≡ last_received s
unfolding last_received
last_some s n t e f h =
    let k : s.last ≡ 0 → ⊥ = λ z. h (e ∙ z) in
    rw (ne_eqb s.last 0 k, e, f)

-- `should_ignore_change`, past the base: r is what `find` answered
pub ignored_by : (m : ℕ) (n : ℤ) (k : ℕ) (s : Proxy) (r : Option ℕ) (f : ℕ → Mark) → ProxyRules m s → k ≡ nat_of n → s.base ≤ k → option_map f r ≡ look k s.tracked
    → is_some r ≡ ignored n s
ignored_by m n k s r f o e h q =
    given r ∙ ap is_some q ∙ ap (λ (i : ℕ). is_tracked i s.tracked) e ∙ ignored_else m n s o (omega arith)
  where
    given : (r : Option ℕ) → is_some r ≡ is_some (option_map f r)
    given None = refl
    given (Some x) = refl
