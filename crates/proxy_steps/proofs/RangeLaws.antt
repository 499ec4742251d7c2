-- The functions of `range` on lent words: what the record is after each, in the words of the code. Assumes nothing.
use Prim.Native.Nat.{ℕ, suc, ◌+◌, ◌-◌, ◌<◌, ◌≤◌}
use native.Mathlib.Omega.{arith}
use mathlib.Core.Path.{◌≡◌, refl, sym, ap, ◌∙◌}
use mathlib.Core.List.{List}
use lib.ListN.{length, drop, get_or, set, length-drop}
use Rattle.sequence_number.specs.Number.{top}
use Rattle.outcome.specs.Outcome.{done}
use Rattle.proxy_record.specs.Entries.{Entry, RisingEntries, from}
use Rattle.proxy_record.specs.State.{Proxy, with_tracked, cap}
use Rattle.proxy_record.specs.Rules.{ProxyRules, GoodProxy}
use Rattle.proxy_record.specs.Words.{column_size, number_in, proxy_words, proxy_of, tracked_in}
use Rattle.proxy_record.specs.Rows.{blank_entry, rank}
use Rattle.proxy_record.proofs.EntriesLaws.{rising_any, rising_get, from_drop, rank_within, rank_low, rank_entry}
use Rattle.proxy_record.proofs.BelowFromLaws.{length_split}
use Rattle.proxy_record.proofs.PartLaws.{base_laid}
use Rattle.proxy_record.proofs.WordsLaws.{kept_of, of_laid, state_of}
use Rattle.proxy_record.proofs.RulesLaws.{good_of, good_rising, base_word}
use Rattle.std.specs.Prelude.{Ok, Some, None}
use Rattle.proxy_steps.specs.Steps.{put, rebased, move_on, discard, cut_to, ended_proxy, forced, unavailable, skipped, put_each, ProxyAnswers}
use Rattle.proxy_steps.proofs.StepsLaws.{ok_put, ok_cut, skipped_none, skipped_some}
use Rattle.proxy_steps.proofs.CapLaws.{ended_few, ended_cut}
use Rattle.proxy_steps.proofs.EachLaws.{base_each, rising_each, rank_each_low, rank_each, length_each, each_more, each_cut_low, each_cut_in}

-- `skip_to`
module _ (w : List ℕ) (g : GoodProxy w) (b : ℕ) (j : b ≤ top) where
  pub skip_none : b ≤ get_or w 0 0 → w ≡ proxy_words (skipped 0 b (proxy_of w))
  skip_none h =
      let k : b ≤ (proxy_of w).base = rw (base_word cap w (omega arith) g) at h in
      rw (skipped_none 0 b (proxy_of w) g.ok (omega arith) k) g.made

  pub skip_past : get_or w 0 0 < b → (proxy_of w).base ≤ b
  skip_past h = omega (arith, base_word cap w (omega arith) g)

  pub skip_some : (o : List ℕ) → get_or w 0 0 < b → o ≡ proxy_words (discard (move_on (cut_to b (proxy_of w)))) → o ≡ proxy_words (skipped 0 b (proxy_of w))
  skip_some o h q =
      let k : (proxy_of w).base < b = omega (arith, base_word cap w (omega arith) g) in
      q ∙ ap proxy_words (sym (skipped_some 0 b (proxy_of w) g.ok (omega arith) k))

-- where the loop of `fill` stands: the numbers from n on lead to the same
pub record Filling (w₀ w : List ℕ) (a b n : ℕ) : Type 0 where
  pub good : GoodProxy w
  pub same : (proxy_of w).base ≡ (proxy_of w₀).base
  pub rest : put_each n (b - n) (proxy_of w) ≡ put_each a (b - a) (proxy_of w₀)

pub fill_more : (w₀ w o : List ℕ) (a b n : ℕ) → Filling w₀ w a b n → a ≤ n → n < b → (proxy_of w₀).base ≤ a → b ≤ top → length (put_each a (b - a) (proxy_of w₀)).tracked ≤ cap
    → o ≡ proxy_words (put (unavailable n) (proxy_of w)) → Filling w₀ o a b (n + 1)
unfolding put_each
fill_more w₀ w o a b n f h i j k q e =
    let s = put (unavailable n) (proxy_of w) in
    let p : ProxyRules column_size s = ok_put cap (unavailable n) (proxy_of w) f.good.ok (omega (arith, f.same)) (omega arith) in
    let t : proxy_of o ≡ s = state_of s o p.few e in
    let m : suc n ≡ n + 1 = omega arith in
    let d : b - n ≡ suc (b - suc n) = omega arith in
    let c : put_each (n + 1) (b - (n + 1)) s ≡ put_each a (b - a) (proxy_of w₀) = rw (← m) (rw d at f.rest) in
    let y : RisingEntries 0 top s.tracked = rising_any s.base top s.tracked p.rising in
    let z : length s.tracked ≤ cap = omega (arith, each_more (b - (n + 1)) (n + 1) s y (omega arith), ap (λ (x : Proxy). length x.tracked) c) in
    record {
      good = good_of o s (record { few = z; rising = p.rising; low = p.low; high = p.high; last_below = p.last_below }) e;
      same = ap (λ (x : Proxy). x.base) t ∙ f.same;
      rest = rw t c;
    }

pub fill_end : (w₀ w : List ℕ) (a b n : ℕ) → Filling w₀ w a b n → b ≤ n → w ≡ proxy_words (put_each a (b - a) (proxy_of w₀))
unfolding put_each
fill_end w₀ w a b n f h =
    let z : b - n ≡ 0 = omega arith in
    f.good.made ∙ ap proxy_words (rw z at f.rest)

-- `range_above`: x and y are the places of the range's ends, and T is how many would be tracked

-- what `fill` asks
abbrev pub Room : List ℕ → ℕ → ℕ → Type 0
Room w a b = GoodProxy w × ((proxy_of w).base ≤ a) × (a ≤ b) × (b ≤ top) × (length (put_each a (b - a) (proxy_of w)).tracked ≤ cap)

-- the range's ends and their places
pub record Ends (w : List ℕ) (a b x y : ℕ) : Type 0 where
  pub good : GoodProxy w
  pub above : (proxy_of w).base < a
  pub order : a ≤ b
  pub high : b ≤ top
  pub at_a : x ≡ rank a (tracked_in w)
  pub at_b : y ≡ rank b (tracked_in w)

module _ {w : List ℕ} {a b x y : ℕ} (ends : Ends w a b x y) (T : ℕ) (t : T ≡ x + (b - a) + (get_or w 1 0 - y)) where
  -- the state with the range put, the cap not yet applied
  abbrev whole : Proxy
  whole = put_each a (b - a) (proxy_of w)

  all : length whole.tracked ≡ T
  all =
      let u : a + (b - a) ≡ b = omega arith in
      rw (t, ends.at_a, ends.at_b, ends.good.count) (rw u at (length_each (b - a) a (proxy_of w) (good_rising w ends.good) (omega arith)))

  pub room_few : T ≤ cap → Room w a b
  room_few q = (ends.good, omega (arith, ends.above), ends.order, ends.high, rw all q)

  pub range_few : (o : List ℕ) → T ≤ cap → o ≡ proxy_words whole → ProxyAnswers (Ok None) o (ended_proxy (proxy_of w) whole)
  range_few o q e =
      let z : length whole.tracked ≤ cap = rw all q in
      rw (ended_few (proxy_of w) whole z) (refl, e)

  -- a forced step: c is the last number that goes and v the base after it, n how many entries go first, and the numbers from d on are put
  module _ (q : cap < T) (n c v d : ℕ) (u : List ℕ) (e : u ≡ proxy_words (with_tracked (drop n (tracked_in w)) (proxy_of w)))
      (f : v ≡ suc c) (p : n ≡ rank v (tracked_in w)) (lo : (proxy_of w).base ≤ v) (hi : v ≤ d) (m : d ≤ b)
      (s : rank (suc c) whole.tracked ≡ suc (rank c whole.tracked)) (r : rank v whole.tracked ≡ T - cap)
      (z : cut_to v whole ≡ put_each d (b - d) (cut_to v (proxy_of w))) where
    cut_made : set u 0 v ≡ proxy_words (cut_to v (proxy_of w))
    cut_made =
        let l : drop n (tracked_in w) ≡ from v (tracked_in w) = rw p (from_drop 0 top v (tracked_in w) (good_rising w ends.good)) in
        of_laid (rebased v (with_tracked (drop n (tracked_in w)) (proxy_of w))) (base_laid (kept_of (with_tracked (drop n (tracked_in w)) (proxy_of w)) u (simp length-drop (omega (arith, ends.good.ok.few))) e) v)
        refl refl refl refl refl refl refl
        ∙ ap (λ (i : List Entry). proxy_words (rebased v (with_tracked i (proxy_of w)))) l

    cut_ok : ProxyRules cap (cut_to v (proxy_of w))
    cut_ok = ok_cut v (proxy_of w) ends.good.ok lo (omega arith)

    cut_state : proxy_of (set u 0 v) ≡ cut_to v (proxy_of w)
    cut_state = state_of (cut_to v (proxy_of w)) (set u 0 v) (omega (arith, cut_ok.few)) cut_made

    pub room_forced : Room (set u 0 v) d b
    room_forced = (
      good_of (set u 0 v) (cut_to v (proxy_of w)) cut_ok cut_made,
      rw cut_state hi,
      m,
      ends.high,
      rw (cut_state, ← z) (omega (arith, all, length_split v whole.tracked)),
    )

    pub range_forced : (o : List ℕ) → o ≡ proxy_words (put_each d (b - d) (proxy_of (set u 0 v))) → ProxyAnswers (Ok (Some (record { old = get_or w 0 0; new = v }))) o (ended_proxy (proxy_of w) whole)
    range_forced o i =
        let l : RisingEntries whole.base top whole.tracked =
        rw (base_each (b - a) a (proxy_of w)) (rising_each (b - a) a (proxy_of w).base (proxy_of w) ends.good.ok.rising (omega arith) (omega arith)) in
        rw (ended_cut (proxy_of w) whole c v l f s (omega (arith, all)))
        (ap (λ (y : ℕ). done (forced y v)) (base_word cap w (omega arith) ends.good ∙ sym (base_each (b - a) a (proxy_of w))), i ∙ ap proxy_words (ap (put_each d (b - d)) cut_state ∙ sym z))

  -- the range stays whole: the base is after the last entry that goes
  module _ (q : cap < T) (v : T - cap ≤ x) (e : ℕ) (c : e ≡ number_in (get_or (tracked_in w) (T - cap - 1) blank_entry)) where
    inside : T - cap - 1 < rank a (tracked_in w)
    inside = omega (arith, ends.at_a)

    entry_is : T - cap - 1 < length (tracked_in w)
    entry_is = omega (arith, inside, rank_within a (tracked_in w))

    pub low_below : e + 1 ≤ a
    low_below = omega (arith, rank_low (proxy_of w).base top a (T - cap - 1) (tracked_in w) ends.good.ok.rising inside)

    low_above : (proxy_of w).base ≤ e
    low_above = omega (arith, rising_get (proxy_of w).base top (T - cap - 1) (tracked_in w) ends.good.ok.rising entry_is)

    ranks : (rank e (tracked_in w) ≡ T - cap - 1) × (rank (suc e) (tracked_in w) ≡ suc (T - cap - 1))
    ranks = rw c (rank_entry (proxy_of w).base top (T - cap - 1) (tracked_in w) ends.good.ok.rising entry_is)

    low_last : rank (suc e) whole.tracked ≡ suc (rank e whole.tracked)
    low_last =
        rw (rank_each_low (b - a) a (suc e) (proxy_of w) (omega (arith, low_below)), rank_each_low (b - a) a e (proxy_of w) (omega (arith, low_below)))
        (omega (arith, ranks.0, ranks.1))

    low_count : T - cap ≡ rank (e + 1) (tracked_in w)
    low_count = let i : e + 1 ≡ suc e = omega arith in rw i (omega (arith, ranks.1))

    low_rank : rank (e + 1) whole.tracked ≡ T - cap
    low_rank = rank_each_low (b - a) a (e + 1) (proxy_of w) low_below ∙ sym low_count

    module _ (u : List ℕ) (z : u ≡ proxy_words (with_tracked (drop (T - cap) (tracked_in w)) (proxy_of w))) where
      pub room_low : Room (set u 0 (e + 1)) a b
      room_low =
          room_forced q (T - cap) e (e + 1) a u z (omega arith) low_count (omega (arith, low_above)) low_below ends.order low_last low_rank
          (each_cut_low (b - a) a (e + 1) (proxy_of w) low_below)

      pub range_low : (o : List ℕ) → o ≡ proxy_words (put_each a (b - a) (proxy_of (set u 0 (e + 1)))) → ProxyAnswers (Ok (Some (record { old = get_or w 0 0; new = e + 1 }))) o (ended_proxy (proxy_of w) whole)
      range_low =
          range_forced q (T - cap) e (e + 1) a u z (omega arith) low_count (omega (arith, low_above)) low_below ends.order low_last low_rank
          (each_cut_low (b - a) a (e + 1) (proxy_of w) low_below)

  -- of the range only the end stays, from v on
  module _ (i : x < T - cap) (v : ℕ) (c : v ≡ a + (T - cap - x)) (n : ℕ) (p : n ≡ rank v (tracked_in w)) (u : List ℕ)
      (z : u ≡ proxy_words (with_tracked (drop n (tracked_in w)) (proxy_of w))) where
    pub high_within : v ≤ b
    high_within = omega (arith, ends.good.count, ends.good.ok.few)

    high_rank : rank v whole.tracked ≡ T - cap
    high_rank =
        rw c (omega (arith, rank_each (b - a) (T - cap - x) a (proxy_of w) (good_rising w ends.good) (omega (arith, high_within)) (omega arith), ends.at_a))

    high_last : rank (suc (v - 1)) whole.tracked ≡ suc (rank (v - 1) whole.tracked)
    high_last =
        let l : suc (v - 1) ≡ v = omega arith in
        let f : v - 1 ≡ a + (T - cap - x - 1) = omega arith in
        let r : rank (a + (T - cap - x - 1)) whole.tracked ≡ rank a (tracked_in w) + (T - cap - x - 1) =
        rank_each (b - a) (T - cap - x - 1) a (proxy_of w) (good_rising w ends.good) (omega (arith, high_within)) (omega arith) in
        rw (l, f) (omega (arith, high_rank, r, ends.at_a))

    high_rest : cut_to v whole ≡ put_each v (b - v) (cut_to v (proxy_of w))
    high_rest =
        let l : b - a ≡ (T - cap - x) + (b - v) = omega (arith, high_within) in
        rw (l, c) (rw c at (each_cut_in (T - cap - x) (b - v) a (proxy_of w)))

    pub room_high : Room (set u 0 v) v b
    room_high = room_forced (omega arith) n (v - 1) v v u z (omega arith) p (omega arith) (omega arith) high_within high_last high_rank high_rest

    pub range_high : (o : List ℕ) → o ≡ proxy_words (put_each v (b - v) (proxy_of (set u 0 v))) → ProxyAnswers (Ok (Some (record { old = get_or w 0 0; new = v }))) o (ended_proxy (proxy_of w) whole)
    range_high = range_forced (omega arith) n (v - 1) v v u z (omega arith) p (omega arith) (omega arith) high_within high_last high_rank high_rest
