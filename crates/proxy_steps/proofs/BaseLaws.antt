-- The steps of `base` on lent words: what the record is after each, in the words of the code. Assumes nothing.
use Prim.Native.Nat.{ℕ, suc, ◌+◌, ◌-◌, ◌<◌, ◌≤◌, max}
use native.Mathlib.Omega.{arith}
use native.Mathlib.Numerals.{add-one}
use mathlib.Core.Path.{◌≡◌, refl, sym, ap, ◌∙◌, subst}
use mathlib.Core.List.{List}
use lib.ListN.{length, drop, get_or, set, length-drop}
use lib.Seq.{drop-drop}
use borrow.Author.Tests.{lt-ltb, le-ltb}
use Rattle.sequence_number.specs.Number.{top}
use Rattle.outcome.specs.Outcome.{done}
use Rattle.proxy_record.specs.Entries.{Entry, RisingEntries, from, run_len}
use Rattle.proxy_record.specs.State.{with_tracked, cap}
use Rattle.proxy_record.specs.Rules.{ProxyRules, GoodProxyUpTo, GoodProxy}
use Rattle.proxy_record.specs.Words.{column_size, number_in, proxy_words, proxy_of, tracked_in}
use Rattle.proxy_record.specs.Rows.{blank_entry, rank}
use Rattle.proxy_record.proofs.EntriesLaws.{rising_from, from_all, from_drop, rank_within}
use Rattle.proxy_record.proofs.RunLaws.{run_within, run_bound, from_run}
use Rattle.proxy_record.proofs.PartLaws.{last_at, base_laid, last_laid, time_laid}
use Rattle.proxy_record.proofs.WordsLaws.{kept_of, good_kept, of_laid, state_of, good_is}
use Rattle.proxy_record.proofs.RulesLaws.{base_word}
use Rattle.std.specs.Prelude.{Result, Ok, Option, Some, None}
use Rattle.outcome.specs.declared.Refusal.{Refusal}
use Rattle.proxy_steps.specs.declared.Forced.{Forced}
use Rattle.proxy_steps.specs.Steps.{ProxyReply, noted, put, move_on, discard, cut_to, followed, capped, ended_proxy, forced, ProxyAnswers}
use Rattle.proxy_steps.proofs.StepsLaws.{ok_put, ok_advanced, ok_cut, followed_base, followed_other}
use Rattle.proxy_steps.proofs.CapLaws.{ended_few, ended_before, lowest_gone_lem}

-- what a call answers and leaves is what a reply says
pub answered : (r : Result (Option Forced) Refusal) (o : List ℕ) (x y : ProxyReply) → x ≡ y → ProxyAnswers r o x → ProxyAnswers r o y
answered r o x y e a = subst (λ (z : ProxyReply). ProxyAnswers r o z) e a

-- `note`
module _ (w : List ℕ) (n t : ℕ) (g : GoodProxy w) where
  pub note_new : get_or w 2 0 < n → set (set w 2 n) 3 t ≡ proxy_words (noted n t (proxy_of w))
  unfolding noted
  note_new h =
      let d = good_kept cap w (omega arith) g in
      let k : (proxy_of w).last < n = rw (last_at d) at h in
      rw (lt-ltb (proxy_of w).last n k)
      (of_laid (record { base = (proxy_of w).base; tracked = tracked_in w; last = n; time = t }) (time_laid (last_laid d n) t) refl refl refl refl refl refl refl)

  pub note_old : n ≤ get_or w 2 0 → w ≡ proxy_words (noted n t (proxy_of w))
  unfolding noted
  note_old h =
      let k : n ≤ (proxy_of w).last = rw (last_at (good_kept cap w (omega arith) g)) at h in
      rw (le-ltb (proxy_of w).last n k) g.made

-- `advance_ack_base`: k is the place of b, and r how far the numbers from there on go b, b + 1, ..
module _ {w : List ℕ} (g : GoodProxy w) (b : ℕ) {k r : ℕ} (j : b ≤ top) (p : k ≡ rank b (tracked_in w)) (q : r ≡ run_len b (drop k (tracked_in w))) where
  high : RisingEntries b top (from b (tracked_in w))
  high = rising_from (proxy_of w).base top b (tracked_in w) g.ok.rising

  high_is : drop k (tracked_in w) ≡ from b (tracked_in w)
  high_is = rw p (from_drop (proxy_of w).base top b (tracked_in w) g.ok.rising)

  pub advance_within : k + r ≤ length (tracked_in w)
  advance_within = omega (arith, q, run_within b (drop k (tracked_in w)), length-drop k (tracked_in w), p, rank_within b (tracked_in w))

  pub advance_fits : b + r ≤ top
  advance_fits = rw (q, high_is) (run_bound b top b (from b (tracked_in w)) high j)

  pub advanced : (u : List ℕ) → u ≡ proxy_words (with_tracked (drop (k + r) (tracked_in w)) (proxy_of w)) → set u 0 (b + r) ≡ proxy_words (discard (move_on (cut_to b (proxy_of w))))
  unfolding discard move_on
  advanced u e =
      let s = proxy_of w in
      let f : from b (from b (tracked_in w)) ≡ from b (tracked_in w) = from_all b top b (from b (tracked_in w)) high (omega arith) in
      let v : r ≡ run_len b (from b (tracked_in w)) = q ∙ ap (run_len b) high_is in
      let c : drop (k + r) (tracked_in w) ≡ from (b + r) (from b (tracked_in w)) =
      sym (drop-drop r k (tracked_in w)) ∙ ap (drop r) high_is
      ∙ rw v (sym (from_run b top b (from b (tracked_in w)) high (omega arith))) in
      let d = kept_of (with_tracked (drop (k + r) (tracked_in w)) s) u (simp length-drop (omega (arith, g.ok.few))) e in
      rw (f, ← v, ← c)
      (of_laid (record { base = b + r; tracked = drop (k + r) (tracked_in w); last = s.last; time = s.time }) (base_laid d (b + r)) refl refl refl refl refl refl refl)

-- `enforce_change_map_cap`: x is the lowest number
module _ (w : List ℕ) (g : GoodProxyUpTo column_size w) where
  pub cap_none : get_or w 1 0 ≤ cap → ProxyAnswers (Ok None) w (ended_proxy (proxy_of w) (proxy_of w))
  cap_none h =
      let k : length (tracked_in w) ≤ cap = omega (arith, g.count) in
      rw (ended_few (proxy_of w) (proxy_of w) k) (refl, g.made)

  pub cap_one : (b x : ℕ) (u : List ℕ) → cap < get_or w 1 0 → x ≡ number_in (get_or (tracked_in w) 0 blank_entry) → b ≡ max (get_or w 0 0) (x + 1)
      → u ≡ proxy_words (with_tracked (drop 1 (tracked_in w)) (proxy_of w)) → ProxyAnswers (Ok (Some (record { old = get_or w 0 0; new = b }))) (set u 0 b) (ended_proxy (proxy_of w) (proxy_of w))
  unfolding ended_proxy capped
  cap_one b x u h e f z =
      let s = proxy_of w in
      let k : 0 < length (tracked_in w) = omega (arith, g.count) in
      let n : length (tracked_in w) - cap ≡ 1 = omega (arith, g.count, g.ok.few) in
      let m : cap < length (tracked_in w) = omega (arith, g.count) in
      let c : get_or w 0 0 ≡ s.base = base_word column_size w (omega arith) g in
      let y : max s.base (suc (get_or s.tracked 0 blank_entry).number) ≡ b = omega arith in
      let d = kept_of (with_tracked (drop 1 s.tracked) s) u (simp length-drop (omega (arith, g.ok.few))) z in
      rw (n, lt-ltb cap (length (tracked_in w)) m, lowest_gone_lem (tracked_in w) s k, y) (
        ap (λ (v : ℕ). done (forced v b)) c,
        of_laid (record { base = b; tracked = drop 1 s.tracked; last = s.last; time = s.time }) (base_laid d b) refl refl refl refl refl refl refl,
      )

-- `track`: p is the record that the entry was put in
module _ (w : List ℕ) (g : GoodProxy w) (e : Entry) (h : (proxy_of w).base ≤ e.number) (j : e.number < top) where
  module _ (p : List ℕ) (f : p ≡ proxy_words (put e (proxy_of w))) where
    put_ok : ProxyRules column_size (put e (proxy_of w))
    put_ok = ok_put cap e (proxy_of w) g.ok h j

    pub put_good : GoodProxyUpTo column_size p
    put_good = good_is column_size p (put e (proxy_of w)) (omega arith) put_ok f

    put_state : proxy_of p ≡ put e (proxy_of w)
    put_state = state_of (put e (proxy_of w)) p put_ok.few f

    pub track_above : (r : Result (Option Forced) Refusal) (o : List ℕ) → (e.number ≡ get_or w 0 0 → ⊥) → ProxyAnswers r o (ended_proxy (proxy_of p) (proxy_of p))
        → ProxyAnswers r o (ended_proxy (proxy_of w) (followed e.number (put e (proxy_of w))))
    track_above r o k a =
        let z : e.number ≡ (proxy_of w).base → ⊥ = λ q. k (q ∙ sym (base_word cap w (omega arith) g)) in
        answered r o (ended_proxy (proxy_of p) (proxy_of p)) _
        (ended_before (proxy_of p) (proxy_of w) (proxy_of p) ∙ ap (ended_proxy (proxy_of w)) (put_state ∙ sym (followed_other column_size e.number (put e (proxy_of w)) put_ok z))) a

  pub track_base : (o : List ℕ) → e.number ≡ get_or w 0 0 → o ≡ proxy_words (discard (move_on (cut_to (e.number + 1) (proxy_of w))))
      → ProxyAnswers (Ok None) o (ended_proxy (proxy_of w) (followed e.number (put e (proxy_of w))))
  track_base o k z =
      let b : e.number ≡ (proxy_of w).base = k ∙ base_word cap w (omega arith) g in
      let s = discard (move_on (cut_to (suc e.number) (proxy_of w))) in
      let f : length s.tracked ≤ cap = (ok_advanced cap _ (ok_cut (suc e.number) (proxy_of w) g.ok (omega arith) j)).few in
      rw (followed_base e (proxy_of w) g.ok b, ended_few (proxy_of w) s f) (refl, rw add-one at z)
