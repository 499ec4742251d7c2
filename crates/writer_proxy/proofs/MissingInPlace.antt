-- The functions of `missing` on lent words: the count by two places, the loop that lists, and the ends in the words of the code. Assumes nothing.
use Prim.Native.Nat.{ℕ, ◌+◌, ◌-◌, ◌<◌, ◌≤◌, max}
use native.Mathlib.Omega.{arith}
use native.Mathlib.Numerals.{add-one}
use mathlib.Core.Logic.{⊎_elim}
use mathlib.Core.Path.{◌≡◌, sym, ◌∙◌}
use mathlib.Core.List.{List, [], ◌∷◌, ◌++◌, map, append-nil, map-append}
use lib.ListN.{length, take, get_or, set, length-append, length-drop, length-map}
use lib.Seq.{take_all, take_at}
use lib.IntN.{ℤ, pos, negsuc}
use mir.Syntax.{w64}
use mir.Val.{SFits, of_z, to_z}
use mir.Facts.{to_z_pos}
use Rattle.sequence_number.specs.Number.{top, nat_of}
use Rattle.sequence_number.proofs.NumberLaws.{nat_top, nat_passed}
use Rattle.outcome.specs.Lent.{over}
use Rattle.outcome.proofs.LentLaws.{over_more}
use Rattle.proxy_record.specs.Entries.{Entry}
use Rattle.proxy_record.specs.State.{cap}
use Rattle.proxy_record.specs.Words.{number_in, proxy_of, tracked_in}
use Rattle.proxy_record.specs.Rules.{GoodProxy}
use Rattle.proxy_record.specs.Rows.{blank_entry, rank}
use Rattle.proxy_record.proofs.RulesLaws.{good_rising, base_word}
use Rattle.writer_proxy.specs.Missing.{untracked_from, missing_numbers}
use Rattle.writer_proxy.proofs.MissingLaws.{one_missing, missing_append, missing_count, missing_within, missing_none, missing_ends}

-- `count_missing`: a and b are the places of lo and hi
pub counted : {w : List ℕ} (lo hi : ℕ) {a b : ℕ} → GoodProxy w → lo ≤ hi → a ≡ rank lo (tracked_in w) → b ≡ rank hi (tracked_in w)
    → (a ≤ b) × (b - a ≤ hi - lo) × (hi - lo - (b - a) ≡ length (untracked_from lo (hi - lo) (tracked_in w)))
counted {w} lo hi {a} {b} g h p q =
    let e : lo + (hi - lo) ≡ hi = omega arith in
    let c = rw e at (missing_count top lo (hi - lo) (tracked_in w) (good_rising w g)) in
    let m = missing_within lo (hi - lo) (tracked_in w) in
    (omega arith, omega arith, omega arith)

-- `list_missing`: where its loop stands
pub record SoFar (w : List ℕ) (lo hi : ℕ) (out₀ out : List ℤ) (i m n : ℕ) : Type 0 where
  pub low : lo ≤ n
  pub high : n ≤ hi
  pub place : i ≡ rank n (tracked_in w)
  pub many : m ≡ length (untracked_from lo (n - lo) (tracked_in w))
  pub room : m ≤ length out₀
  pub written : out ≡ over (map pos (untracked_from lo (n - lo) (tracked_in w))) out₀

so_far_more : (lo n : ℕ) (l : List Entry) → lo ≤ n → untracked_from lo (n + 1 - lo) l ≡ untracked_from lo (n - lo) l ++ untracked_from n 1 l
so_far_more lo n l h =
    let a : n + 1 - lo ≡ n - lo + 1 = omega arith in
    let b : lo + (n - lo) ≡ n = omega arith in
    rw (a, missing_append lo (n - lo) 1 l, b)

module _ {w : List ℕ} (g : GoodProxy w) {lo hi : ℕ} {out₀ : List ℤ} where
  pub so_far_none : (i : ℕ) → lo ≤ hi → i ≡ rank lo (tracked_in w) → SoFar w lo hi out₀ out₀ i 0 lo
  so_far_none i h p =
      let e = missing_none lo (tracked_in w) in
      record { low = omega arith; high = h; place = p; many = rw e; room = omega arith; written = rw e }

  module _ {out : List ℤ} {i m n : ℕ} (v : SoFar w lo hi out₀ out i m n) where
    pub so_far_length : length out ≡ length out₀
    so_far_length = rw v.written (simp (length-append, length-map, length-drop) (omega (arith, v.many, v.room)))

    -- there is room for no more
    pub so_far_full : m ≡ length out₀ → out ≡ over (take (length out₀) (map pos (untracked_from lo (hi - lo) (tracked_in w)))) out₀
    so_far_full f =
        let a : hi - lo ≡ n - lo + (hi - n) = omega (arith, v.low, v.high) in
        let b : lo + (n - lo) ≡ n = omega (arith, v.low) in
        let c : length (map pos (untracked_from lo (n - lo) (tracked_in w))) ≡ length out₀ = simp length-map (omega (arith, v.many)) in
        rw (a, missing_append lo (n - lo) (hi - n) (tracked_in w), b, map-append, take_at (map pos (untracked_from lo (n - lo) (tracked_in w))) (map pos (untracked_from n (hi - n) (tracked_in w))) (length out₀) c) v.written

    pub so_far_end : hi ≤ n → out ≡ over (take (length out₀) (map pos (untracked_from lo (hi - lo) (tracked_in w)))) out₀
    so_far_end h =
        let e : n ≡ hi = omega (arith, v.high) in
        let a : length (untracked_from lo (hi - lo) (tracked_in w)) ≤ length out₀ = rw (← e) (omega (arith, v.many, v.room)) in
        let c : length (map pos (untracked_from lo (hi - lo) (tracked_in w))) ≤ length out₀ = simp length-map a in
        rw (take_all (length out₀) (map pos (untracked_from lo (hi - lo) (tracked_in w))) c) (rw e at v.written)

    -- n is tracked, and the loop passes it
    pub so_far_tracked : n < hi → i < get_or w 1 0 → number_in (get_or (tracked_in w) i blank_entry) ≡ n → SoFar w lo hi out₀ out (i + 1) m (n + 1)
    so_far_tracked h k e =
        let f : (get_or (tracked_in w) (rank n (tracked_in w)) blank_entry).number ≡ n = rw (← v.place) e in
        ⊎_elim
        (λ x.
        let d : untracked_from lo (n + 1 - lo) (tracked_in w) ≡ untracked_from lo (n - lo) (tracked_in w) = so_far_more lo n (tracked_in w) v.low ∙ rw (x.0, append-nil) in
        record {
          low = omega (arith, v.low);
          high = omega arith;
          place = rw (add-one n) (omega (arith, x.1, v.place));
          many = rw d v.many;
          room = v.room;
          written = rw d v.written;
        })
        (λ x. absurd (x.2 (omega (arith, v.place, g.count)) f))
        (one_missing 0 top n (tracked_in w) (good_rising w g))

    -- n is not tracked, and the loop writes it
    pub so_far_missing : n < hi → hi ≤ top → (i < get_or w 1 0 → number_in (get_or (tracked_in w) i blank_entry) ≡ n → ⊥) → m < length out₀ → SoFar w lo hi out₀ (set out m (to_z w64 n)) i (m + 1) (n + 1)
    so_far_missing h j k r =
        ⊎_elim
        (λ x. absurd (k (omega (arith, x.2, v.place, g.count)) (rw v.place x.3)))
        (λ x.
        let z : to_z w64 n ≡ pos n = to_z_pos w64 (omega arith) in
        let d : untracked_from lo (n + 1 - lo) (tracked_in w) ≡ untracked_from lo (n - lo) (tracked_in w) ++ (n ∷ []) = so_far_more lo n (tracked_in w) v.low ∙ rw x.0 in
        let e : length (map pos (untracked_from lo (n - lo) (tracked_in w))) ≡ m = simp length-map (sym v.many) in
        record {
          low = omega (arith, v.low);
          high = omega arith;
          place = rw (add-one n) (omega (arith, x.1, v.place));
          many = rw d (simp length-append (omega (arith, v.many)));
          room = omega arith;
          written = rw (z, d, v.written, map-append) (over_more (map pos (untracked_from lo (n - lo) (tracked_in w))) out₀ m (pos n) e r);
        })
        (one_missing 0 top n (tracked_in w) (good_rising w g))

-- the last number of all, in the words of the code
pub last_is : (n : ℤ) → SFits w64 n → of_z w64 n ≡ top → nat_of n ≡ top
last_is (pos n) f e = e
last_is (negsuc n) f e = absurd (omega (arith, f.sfits))

is_last : (n : ℤ) → nat_of n ≡ top → of_z w64 n ≡ top
is_last (pos n) e = e
is_last (negsuc n) e = absurd (omega arith)

-- the two ends, in the words of the code
module _ (start end : ℤ) (fs : SFits w64 start) (fe : SFits w64 end) (w : List ℕ) (g : GoodProxy w) (last first lo hi : ℕ)
    (pe : last ≡ nat_of (to_z w64 (of_z w64 end))) (ps : first ≡ nat_of (to_z w64 (of_z w64 start))) (n : of_z w64 end ≡ top → ⊥)
    (l : lo ≡ max (get_or w 0 0) first) (h : hi ≡ max lo (last + 1)) where
  end_open : nat_of end ≡ top → ⊥
  end_open z = n (is_last end z)

  ends_order : (lo ≤ hi) × (hi ≤ top)
  ends_order =
      let a = nat_passed end last fe pe in
      let b = nat_passed start first fs ps in
      let c = base_word cap w (omega arith) g in
      let o : nat_of end < top = omega (arith, nat_top end fe, end_open) in
      (omega arith, omega (arith, nat_top start fs, g.ok.high))

  ends_list : untracked_from lo (hi - lo) (tracked_in w) ≡ missing_numbers start end (proxy_of w)
  ends_list =
      let a = nat_passed end last fe pe in
      let b = nat_passed start first fs ps in
      let c = base_word cap w (omega arith) g in
      missing_ends start end (proxy_of w) [] lo hi (omega arith) (omega arith)

  pub ends_found : (nat_of end ≡ top → ⊥) × (lo ≤ hi) × (hi ≤ top) × (untracked_from lo (hi - lo) (tracked_in w) ≡ missing_numbers start end (proxy_of w))
  ends_found = (end_open, ends_order.0, ends_order.1, ends_list)
