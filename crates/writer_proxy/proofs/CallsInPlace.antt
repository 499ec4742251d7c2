-- The calls on lent words: what the record is after each, in the words of the code, and what a call makes of a number. Assumes nothing.
use Prim.Native.Nat.{ℕ, ◌+◌, ◌-◌, ◌<◌, ◌≤◌}
use native.Mathlib.Omega.{arith}
use mathlib.Core.Path.{◌≡◌, refl, sym, ap, ◌∙◌}
use mathlib.Core.Bool.{true, false, cond}
use mathlib.Core.List.{List, []}
use lib.ListN.{length, get_or, set, drop_of_length-le}
use lib.IntN.{ℤ}
use lib.Signed.{lt_z}
use mir.Syntax.{w64}
use mir.Val.{SFits, of_z, to_z}
use mir.Facts.{to_z-of_z}
use Rattle.sequence_number.specs.Number.{top, is_number, nat_of, number_of, taken}
use Rattle.sequence_number.proofs.NumberLaws.{some_taken, none_taken, nat_top}
use Rattle.sequence_number.specs.Keeps.{rank_above}
use Rattle.proxy_record.specs.State.{Proxy, cap}
use Rattle.proxy_record.specs.Rules.{ProxyRules, GoodProxy}
use Rattle.proxy_record.specs.Words.{column, proxy_words, proxy_of, tracked_in}
use Rattle.proxy_record.proofs.PartLaws.{base_laid}
use Rattle.proxy_record.proofs.WordsLaws.{kept_of, of_laid, state_of}
use Rattle.proxy_record.proofs.RulesLaws.{good_of, base_word}
use Rattle.std.specs.Prelude.{Option, Some, None, Result, Ok, Err, ok_or}
use Rattle.outcome.specs.Outcome.{refused, refusal}
use Rattle.outcome.specs.Refusal.{number_of_refusal, said}
use Rattle.outcome.specs.declared.Refusal.{Refusal}
use Rattle.outcome.specs.declared.Refusal.TheVariants.{NoNumber, BackwardRange}
use Rattle.proxy_steps.specs.declared.Forced.{Forced}
use Rattle.proxy_steps.specs.Steps.{ProxyReply, noted, put, followed, ended_proxy, refused_proxy, skipped, put_each, ProxyAnswers}
use Rattle.proxy_steps.proofs.StepsLaws.{ok_noted, noted_kept, followed_old, followed_first, skipped_same}
use Rattle.proxy_steps.proofs.CapLaws.{ended_few, ended_before}
use Rattle.proxy_steps.proofs.BaseLaws.{answered}
use Rattle.writer_proxy.specs.Calls.{got, received_at, received, irrelevant, range_at, irrelevant_range}
use Rattle.writer_proxy.proofs.CallsLaws.{received_is, ok_received, ok_irrelevant, range_at_low, range_at_above, ok_range}

-- a call that takes a number: k is what `number_of` made of n, and G what the call does with it
module _ (n : ℤ) (k : ℕ) (f : SFits w64 n) (e : Some k ≡ taken (to_z w64 (of_z w64 n))) where
  taken_facts : (0 < k) × (k < top) × (is_number n ≡ true) × (k ≡ nat_of n) × (k ≡ number_of n)
  taken_facts = some_taken n k (rw (to_z-of_z f) at e)

  pub taken_below : k < top
  taken_below = taken_facts.1

  pub taken_is : (G : ℕ → ProxyReply) (y : ProxyReply) (r : Result (Option Forced) Refusal) (o : List ℕ) → ProxyAnswers r o (G k) → ProxyAnswers r o (cond (is_number n) (G (nat_of n)) y)
  taken_is G y r o a = rw (taken_facts.2, ← taken_facts.3) a

-- and one that is refused: o is what `number_of` made of n, and r what is returned
pub taken_not : (n : ℤ) → SFits w64 n → (o : Option ℕ) → o ≡ taken (to_z w64 (of_z w64 n)) → o ≡ None → (d : Refusal) → Err d ≡ ok_or o NoNumber
    → (r : Result (Option Forced) Refusal) → r ≡ Err d → (x : ProxyReply) (w : List ℕ) → GoodProxy w → ProxyAnswers r w (cond (is_number n) x (refused_proxy 4 (proxy_of w)))
taken_not n f o e h d i r j x w g =
    let z : is_number n ≡ false = (none_taken n (sym h ∙ (rw (to_z-of_z f) at e))).0 in
    let k : number_of_refusal d ≡ 4 = ap (λ (q : Result ℕ Refusal). refusal (said q)) (rw h at i) in
    rw (z, j) (ap refused k, g.made)

-- `received_any`, `received_at`: v is the record that the number was noted in
module _ (n t : ℕ) (w v : List ℕ) (g : GoodProxy w) (j : n < top) (e : v ≡ proxy_words (noted n t (proxy_of w))) where
  noted_ok : ProxyRules cap (noted n t (proxy_of w))
  noted_ok = ok_noted cap n t (proxy_of w) j g.ok

  pub noted_good : GoodProxy v
  noted_good = good_of v (noted n t (proxy_of w)) noted_ok e

  noted_state : proxy_of v ≡ noted n t (proxy_of w)
  noted_state = state_of (noted n t (proxy_of w)) v (omega (arith, noted_ok.few)) e

  pub received_old : n < get_or v 0 0 → ProxyAnswers (Ok None) v (received_at n t (proxy_of w))
  received_old h =
      let s = noted n t (proxy_of w) in
      let b : n < s.base = rw (base_word cap v (omega arith) noted_good ∙ ap (λ (x : Proxy). x.base) noted_state) at h in
      rw (received_is, followed_old cap (got n t) s noted_ok b, ended_few (proxy_of w) s noted_ok.few) (refl, e)

  pub received_above : (r : Result (Option Forced) Refusal) (o : List ℕ) → ProxyAnswers r o (ended_proxy (proxy_of v) (followed n (put (got n t) (proxy_of v)))) → ProxyAnswers r o (received_at n t (proxy_of w))
  received_above r o a =
      answered r o _ _
      (ended_before (proxy_of v) (proxy_of w) (followed n (put (got n t) (proxy_of v))) ∙ ap (λ (x : Proxy). ended_proxy (proxy_of w) (followed n (put (got n t) x))) noted_state ∙ sym (received_is n t (proxy_of w))) a

  -- the short way
  pub received_first : n ≡ get_or w 0 0 → get_or w 1 0 ≡ 0 → ProxyAnswers (Ok None) (set v 0 (n + 1)) (received_at n t (proxy_of w))
  received_first h z =
      let s = noted n t (proxy_of w) in
      let k = noted_kept n t (proxy_of w) in
      let l : tracked_in w ≡ [] = drop_of_length-le (tracked_in w) {i = 0} (omega (arith, g.count)) in
      let m : s.tracked ≡ [] = k.0 ∙ l in
      let b : n ≡ s.base = h ∙ base_word cap w (omega arith) g ∙ sym k.1 in
      let d = kept_of s v (omega (arith, noted_ok.few)) e in
      let x : Proxy = record { base = n + 1; tracked = []; last = s.last; time = s.time } in
      rw (received_is, followed_first (got n t) s m b, ended_few (proxy_of w) x (omega arith))
      (refl, of_laid x (base_laid d (n + 1)) refl (ap length m) refl refl (ap (column _) m) (ap (column _) m) (ap (column _) m))

pub received_keeps : (n : ℤ) (t : ℕ) (w o : List ℕ) → GoodProxy w → o ≡ proxy_words (received n t (proxy_of w)).state → GoodProxy o
received_keeps n t w o g e = good_of o (received n t (proxy_of w)).state (ok_received n t (proxy_of w) g.ok) e

pub irrelevant_keeps : (n : ℤ) (w o : List ℕ) → GoodProxy w → o ≡ proxy_words (irrelevant n (proxy_of w)).state → GoodProxy o
irrelevant_keeps n w o g e = good_of o (irrelevant n (proxy_of w)).state (ok_irrelevant n (proxy_of w) g.ok) e

-- `irrelevant_changes_range`
module _ (a b : ℤ) (fb : SFits w64 b) (w : List ℕ) (g : GoodProxy w) where
  pub range_refused : lt_z b a ≡ true → ProxyAnswers (Err BackwardRange) w (irrelevant_range a b (proxy_of w))
  unfolding irrelevant_range
  range_refused e = rw e (refl, g.made)

  pub range_keeps : (o : List ℕ) → o ≡ proxy_words (irrelevant_range a b (proxy_of w)).state → GoodProxy o
  range_keeps o e = good_of o (irrelevant_range a b (proxy_of w)).state (ok_range a b (proxy_of w) fb g.ok) e

  module _ (e : lt_z b a ≡ false) (x y : ℕ) (p : x ≡ nat_of a) (q : y ≡ nat_of b) where
    pub range_order : (x ≤ y) × (y ≤ top)
    range_order = (omega (arith, rank_above a b e), omega (arith, nat_top b fb))

    range_is : irrelevant_range a b (proxy_of w) ≡ range_at x y (proxy_of w)
    unfolding irrelevant_range
    range_is = rw (e, p, q)

    pub range_skips : (o : List ℕ) → x ≤ get_or w 0 0 → o ≡ proxy_words (skipped 0 y (proxy_of w)) → ProxyAnswers (Ok None) o (irrelevant_range a b (proxy_of w))
    range_skips o h z =
        let k : x ≤ (proxy_of w).base = rw (base_word cap w (omega arith) g) at h in
        rw (range_is, range_at_low x y (proxy_of w) g.ok k range_order.1) (refl, z ∙ ap proxy_words (skipped_same x y (proxy_of w) g.ok k))

    pub range_above_base : get_or w 0 0 < x → (proxy_of w).base < x
    range_above_base h = rw (base_word cap w (omega arith) g) at h

    pub range_puts : (r : Result (Option Forced) Refusal) (o : List ℕ) → get_or w 0 0 < x → ProxyAnswers r o (ended_proxy (proxy_of w) (put_each x (y - x) (proxy_of w))) → ProxyAnswers r o (irrelevant_range a b (proxy_of w))
    range_puts r o h z = answered r o _ _ (sym (range_is ∙ range_at_above x y (proxy_of w) (range_above_base h))) z
