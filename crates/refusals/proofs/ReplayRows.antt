-- The rows of the replay's calls: which lines are malformed, and which refusal an answer line shows. Assumes nothing.
use Prim.Native.Nat.{ℕ, suc, ◌+◌, ◌*◌, ◌<◌, ◌≤◌, ◌^◌}
use native.Mathlib.Omega.{arith}
use mathlib.Core.Path.{◌≡◌, refl, sym, ap, subst, ◌∙◌}
use mathlib.Core.Bool.{true}
use mathlib.Core.Logic.{inl, inr, ⊎_elim}
use mathlib.Core.List.{List, [], ◌∷◌, ◌++◌}
use lib.ListN.{length, get_or, take, drop, take-append-drop}
use lib.Dec.{eqb}
use lib.IntN.{ℤ}
use lib.Signed.{lt_z}
use mir.Syntax.{w64}
use mir.Val.{SFits, to_z}
use mir.Facts.{sfits_to_z}
use borrow.Author.Tests.{eqb-true, eqb-false, ne_eqb}
use Rattle.outcome.specs.Outcome.{Outcome, refused, done, refusal}
use Rattle.outcome.specs.Row.{Row, accepted, verdict, numbered, Exactly, Refuses}
use Rattle.outcome.specs.Lent.{over}
use Rattle.sequence_number.specs.Number.{top, is_number, nat_of}
use Rattle.outcome.proofs.Split.{split, split_lt, split_eq}
use Rattle.proxy_record.specs.State.{Proxy}
use Rattle.proxy_record.specs.Words.{proxy_words, proxy_of}
use Rattle.proxy_record.specs.Rules.{GoodProxy}
use Rattle.writer_proxy.specs.Calls.{received, irrelevant_range}
use Rattle.writer_proxy.specs.Missing.{missing_numbers, missing_listed}
use Rattle.sequence_number.proofs.NumberLaws.{end_top}
use Rattle.writer_proxy.proofs.CallsLaws.{received_number, range_number, received_refused_same, range_refused_same}
use Rattle.writer_proxy.proofs.MissingLaws.{missing_number, missing_refused_same}
use Rattle.line_text.specs.Hex.{digit_of, all_hex, value_at}
use Rattle.line_text.specs.Decimal.{line_of}
use Rattle.line_text.specs.Held.{held_line}
use Rattle.line_text.proofs.HexLaws.{digit_low, digit_decimal, digit_between, digit_upper, digit_between_cases, digit_lower, digit_high, hex_at, value_none, value_more, value_fits}
use Rattle.std.specs.Prelude.{Result, Ok, Err}
use Rattle.outcome.specs.Refusal.{number_of_refusal, said}
use Rattle.outcome.specs.declared.Refusal.{Refusal}
use Rattle.replay_lines.specs.Frame.{frame_of, parsed}
use Rattle.replay_lines.specs.Answer.{Step, counted, step_of, text_of, LineAnswered}
use Rattle.replay_lines.specs.Feed.{Feeding, took, says}
use Rattle.replay_lines.specs.declared.frame.Frame.{Frame}
use Rattle.replay_lines.specs.declared.frame.Frame.TheVariants.{Received, Range, Missing}
use Rattle.replay_lines.proofs.FrameLaws.{parsed_length, parsed_digit, parsed_frame, frame_other, frame_received, frame_range, frame_missing}
use Rattle.refusals.specs.RefusalTable.{Digit, WellFormed, malformed, frame_rows, line_rows, LineByRows}
use Rattle.outcome.proofs.RowLaws.{none_left, holds, passes, asks, asks_not, asks_less, by_number}
use Rattle.refusals.proofs.ProxyRows.{row_holds, row_fails, below_holds, below_fails}

-- ---- which lines read

digit_counts : (c : ℕ) → Digit c → digit_of c ≡ 16 → ⊥
digit_counts c d e =
    ⊎_elim (λ h. let k = digit_decimal c h.0 h.1 in omega (arith, h.0, h.1))
    (⊎_elim (λ h. let k = digit_upper c h.0 h.1 in omega (arith, h.0, h.1)) (λ h. let k = digit_lower c h.0 h.1 in omega (arith, h.0, h.1)))
    d

counts_digit : (c : ℕ) → digit_of c < 16 → Digit c
counts_digit c h =
    ⊎_elim (λ a. let k = digit_low c a in absurd (omega arith))
    (λ a.
    ⊎_elim (λ b. inl (a, omega arith))
    (λ b.
    ⊎_elim (λ d. let k = digit_between c (omega arith) d in absurd (omega arith))
    (λ d.
    ⊎_elim (λ e. inr (inl (d, omega arith)))
    (λ e.
    ⊎_elim (λ f. let k = digit_between_cases c (omega arith) f in absurd (omega arith))
    (λ f.
    ⊎_elim (λ g. inr (inr (f, omega arith))) (λ g. let k = digit_high c (omega arith) in absurd (omega arith))
    (split_lt c 103))
    (split_lt c 97))
    (split_lt c 71))
    (split_lt c 65))
    (split_lt c 58))
    (split_lt c 48)

all_digits : (s : List ℕ) → ((i : ℕ) → i < length s → Digit (get_or s i 0)) → all_hex s ≡ true
unfolding all_hex
all_digits [] f = refl
all_digits (c ∷ s) f = rw (ne_eqb (digit_of c) 16 (digit_counts c (f 0 (omega arith)))) (all_digits s (λ i h. f (suc i) (omega arith)))

not_both : {n : ℕ} (frame : Frame) → refused n ≡ done frame → ⊥
not_both frame e = let z : ◌≡◌ {A = ℕ} 0 1 = cc in omega arith

-- a digit below ten
digit_small : (c : ℕ) → Digit c → digit_of c < 10 → c ≡ 48 + digit_of c
digit_small c d h =
    ⊎_elim (λ k. let e = digit_decimal c k.0 k.1 in omega (arith, k.0, k.1))
    (⊎_elim (λ k. let e = digit_upper c k.0 k.1 in omega (arith, k.0, k.1)) (λ k. let e = digit_lower c k.0 k.1 in omega (arith, k.0, k.1)))
    d

module _ (line : List ℕ) where
  abbrev kind : ℕ
  kind = value_at line 0 2

  abbrev first : ℕ
  first = value_at line 2 16

  abbrev second : ℕ
  second = value_at line 18 16

  -- a line that reads has its length and its digits
  reads_digits : (frame : Frame) → parsed line ≡ done frame → (length line ≡ 34) × (all_hex line ≡ true)
  reads_digits frame e =
      ⊎_elim
      (λ l.
      split (all_hex line) (λ a. (l, a)) (λ a. absurd (not_both frame (parsed_digit line l a ∙ e))))
      (λ l. absurd (not_both frame (parsed_length line l ∙ e)))
      (split_eq (length line) 34)

  kind_digits : kind ≡ digit_of (get_or line 0 0) * 16 + digit_of (get_or line 1 0)
  kind_digits = omega (arith, value_none line 0, value_more line 0 0, value_more line 0 1)

  reads_kind : (frame : Frame) → parsed line ≡ done frame → (1 ≤ kind) × (kind ≤ 3)
  reads_kind frame e =
      let r = reads_digits frame e in
      let f : said (frame_of kind first second) ≡ done frame = parsed_frame line r.0 r.1 ∙ e in
      let other : (kind ≡ 1 → ⊥) → (kind ≡ 2 → ⊥) → (kind ≡ 3 → ⊥) → ⊥ = λ a b c. not_both frame (ap said (frame_other kind first second a b c) ∙ f) in (
        ⊎_elim (λ h. absurd (other (λ z. omega arith) (λ z. omega arith) (λ z. omega arith))) (λ h. h) (split_lt kind 1),
        ⊎_elim (λ h. absurd (other (λ z. omega arith) (λ z. omega arith) (λ z. omega arith))) (λ h. h) (split_lt 3 kind),
      )

  reads_form : (frame : Frame) → parsed line ≡ done frame → WellFormed line
  reads_form frame e =
      let r = reads_digits frame e in
      let k = reads_kind frame e in
      let digit : (i : ℕ) → i < 34 → Digit (get_or line i 0) = λ i h. counts_digit (get_or line i 0) (hex_at line i r.1 (omega (arith, r.0))) in
      let a : get_or line 0 0 ≡ 48 + digit_of (get_or line 0 0) = digit_small (get_or line 0 0) (digit 0 (omega arith)) (omega (arith, kind_digits, k.1)) in
      let b : get_or line 1 0 ≡ 48 + digit_of (get_or line 1 0) = digit_small (get_or line 1 0) (digit 1 (omega arith)) (omega (arith, kind_digits, k.1)) in
      record {
        long = r.0;
        digits = digit;
        first = omega (arith, kind_digits, k.1);
        second = (omega (arith, kind_digits, k.0, k.1), omega (arith, kind_digits, k.1));
      }

  form_reads : WellFormed line → parsed line ≡ refused 1 → ⊥
  form_reads w e =
      let a : all_hex line ≡ true = all_digits line (λ i h. w.digits i (omega (arith, w.long))) in
      let f : said (frame_of kind first second) ≡ refused 1 = parsed_frame line w.long a ∙ e in
      let x = to_z w64 first in
      let y = to_z w64 second in
      let c = digit_decimal (get_or line 0 0) (omega (arith, w.first)) (omega (arith, w.first)) in
      let d = digit_decimal (get_or line 1 0) (omega (arith, w.second.0)) (omega (arith, w.second.1)) in
      ⊎_elim (λ k. not_both (Received x second) (sym (ap said (frame_received kind first second x k refl) ∙ f)))
      (λ k.
      ⊎_elim (λ m. not_both (Range x y) (sym (ap said (frame_range kind first second x y k m refl refl) ∙ f)))
      (λ m.
      not_both (Missing x y)
      (sym (ap said (frame_missing kind first second x y k m (omega (arith, kind_digits, w.first, w.second.0, w.second.1)) refl refl) ∙ f)))
      (split_eq kind 2))
      (split_eq kind 1)

  -- a received number that was read is an i64
  received_fits : (n : ℤ) (t : ℕ) → parsed line ≡ done (Received n t) → SFits w64 n
  received_fits n t e =
      let r = reads_digits (Received n t) e in
      let w = reads_kind (Received n t) e in
      let f : said (frame_of kind first second) ≡ done (Received n t) = parsed_frame line r.0 r.1 ∙ e in
      let x = to_z w64 first in
      let y = to_z w64 second in
      ⊎_elim
      (λ k.
      let same : done (Received x second) ≡ done (Received n t) = ap said (frame_received kind first second x k refl) ∙ f in
      let z : x ≡ n = cc in
      let l : first < 2 ^ 64 = value_fits line 2 16 r.1 (omega (arith, r.0)) (omega arith) in
      subst (SFits w64) z (sfits_to_z {w = w64} {n = first} (record { fits = l })))
      (λ k.
      ⊎_elim
      (λ m.
      let same : done (Range x y) ≡ done (Received n t) = ap said (frame_range kind first second x y k m refl refl) ∙ f in
      let z : ◌≡◌ {A = ℕ} 0 1 = cc in absurd (omega arith))
      (λ m.
      let same : done (Missing x y) ≡ done (Received n t) = ap said (frame_missing kind first second x y k m (omega (arith, w.0, w.1)) refl refl) ∙ f in
      let z : ◌≡◌ {A = ℕ} 0 1 = cc in absurd (omega arith))
      (split_eq kind 2))
      (split_eq kind 1)

  -- a line that does not read is refused with 1
  refused_one : (n : ℕ) → parsed line ≡ refused n → n ≡ 1
  refused_one n e =
      ⊎_elim
      (λ l.
      split (all_hex line) (λ a. by_kind (parsed_frame line l a ∙ e)) (λ a. ap refusal (sym e ∙ sym (parsed_digit line l a))))
      (λ l. ap refusal (sym e ∙ sym (parsed_length line l)))
      (split_eq (length line) 34)
    where
      by_kind : said (frame_of kind first second) ≡ refused n → n ≡ 1
      by_kind f =
          let x = to_z w64 first in
          let y = to_z w64 second in
          ⊎_elim (λ k. absurd (not_both (Received x second) (sym (ap said (frame_received kind first second x k refl) ∙ f))))
          (λ k.
          ⊎_elim (λ m. absurd (not_both (Range x y) (sym (ap said (frame_range kind first second x y k m refl refl) ∙ f))))
          (λ m.
          ⊎_elim (λ o. absurd (not_both (Missing x y) (sym (ap said (frame_missing kind first second x y k m o refl refl) ∙ f))))
          (λ o. ap refusal (sym f ∙ ap said (sym (frame_other kind first second k m o))))
          (split_eq kind 3))
          (split_eq kind 2))
          (split_eq kind 1)

  -- the first row, of a line that reads as it does
  read_rows : (p : Outcome Frame) → parsed line ≡ p → (v : Outcome (Unit {0})) (rows : List Row) → ((n : ℕ) → p ≡ refused n → v ≡ refused 1)
      → ((frame : Frame) → p ≡ done frame → Exactly v rows)
      → Exactly v (malformed line ∷ rows)
  read_rows (refused n) e v rows bad good =
      rw (bad n refl) (holds 1 (WellFormed line → ⊥) rows (λ w. form_reads w (e ∙ ap refused (refused_one n e))))
  read_rows (done frame) e v rows bad good = passes 1 (WellFormed line → ⊥) rows (λ f. f (reads_form frame e)) (good frame refl)

  pub parse_rows : (r : Result Frame Refusal) → said r ≡ parsed line → Exactly (verdict (said r)) (malformed line ∷ [])
  parse_rows (Ok frame) e = read_rows (done frame) (sym e) accepted [] (λ n z. absurd (not_both frame (sym z))) (λ f z. none_left)
  parse_rows (Err x) e =
      read_rows (refused (number_of_refusal x)) (sym e) (refused (number_of_refusal x)) [] (λ n z. ap refused (refused_one (number_of_refusal x) (sym e)))
      (λ frame z. absurd (not_both frame z))

-- ---- the refusal in an answer line

abbrev past_number : List ℕ → ℕ → Outcome ℕ → List ℕ
past_number numbers base (refused k) = base ∷ []
past_number numbers base (done n) = base ∷ n ∷ numbers

counted_number : (numbers : List ℕ) (base : ℕ) (r : Outcome ℕ) → counted numbers base r ≡ refusal r ∷ past_number numbers base r
counted_number numbers base (refused k) = refl
counted_number numbers base (done n) = refl

-- a step shows a number, which is by the rows, and a refused one changes nothing
record Shows (x : Step) (rows : List Row) (s : Proxy) (list : List ℤ) : Type 0 where
  number : ℕ
  rest : List ℕ
  after : x.after ≡ number ∷ rest
  refuses : Refuses (numbered number) rows ((x.state ≡ s) × (x.list ≡ list))

module _ (line : List ℕ) (s : Proxy) (list : List ℤ) where
  shows : (p : Outcome Frame) → parsed line ≡ p → Shows (step_of p s list) (line_rows line s list) s list
  unfolding step_of
  shows (refused n) e =
      record {
        number = n;
        rest = s.base ∷ [];
        after = refl;
        refuses =
            record {
              exactly =
                  read_rows line (refused n) e (numbered n) (frame_rows (parsed line) s list) (λ m z. ap numbered (refused_one line n e))
                  (λ frame z. absurd (not_both frame z));
              untouched = λ m z. (refl, refl);
            };
      }
  shows (done (Received n t)) e =
      record {
        number = refusal (received n t s).answer;
        rest = (received n t s).state.base ∷ [];
        after = refl;
        refuses =
            record {
              exactly =
                  read_rows line (done (Received n t)) e (numbered (refusal (received n t s).answer)) (frame_rows (parsed line) s list)
                  (λ m z. absurd (not_both (Received n t) (sym z)))
                  (λ frame z.
                  rw (e, received_number n t s)
                  (asks_not numbered refl (is_number n) (row_holds n (received_fits line n t e)) (row_fails n (received_fits line n t e)) (λ h. none_left)));
              untouched = λ k z. (received_refused_same n s t k (by_number (received n t s).answer k z), refl);
            };
      }
  shows (done (Range a b)) e =
      record {
        number = refusal (irrelevant_range a b s).answer;
        rest = (irrelevant_range a b s).state.base ∷ [];
        after = refl;
        refuses =
            record {
              exactly =
                  read_rows line (done (Range a b)) e (numbered (refusal (irrelevant_range a b s).answer)) (frame_rows (parsed line) s list)
                  (λ m z. absurd (not_both (Range a b) (sym z)))
                  (λ frame z. rw (e, range_number a b s) (asks numbered refl (lt_z b a) (below_holds b a) (below_fails b a) (λ h. none_left)));
              untouched = λ k z. (range_refused_same a b s k (by_number (irrelevant_range a b s).answer k z), refl);
            };
      }
  shows (done (Missing start end)) e =
      let some : List ℤ = take 256 list in
      let answer : Outcome ℕ = (missing_listed start end s some).answer in
      record {
        number = refusal answer;
        rest = past_number (missing_numbers start end s) s.base answer;
        after = counted_number (missing_numbers start end s) s.base answer;
        refuses =
            record {
              exactly =
                  read_rows line (done (Missing start end)) e (numbered (refusal answer)) (frame_rows (parsed line) s list)
                  (λ m z. absurd (not_both (Missing start end) (sym z)))
                  (λ frame z.
                  rw (e, missing_number start end s some)
                  (asks numbered refl (eqb (nat_of end) top)
                  (λ h. (end_top end).0 (eqb-true (nat_of end) top h))
                  (λ h k. eqb-false (nat_of end) top h ((end_top end).1 k))
                  (λ h. asks_less numbered refl (length some) (length (missing_numbers start end s)) (λ k. none_left))));
              untouched =
                  λ k z.
                  (refl, ap (λ (l : List ℤ). l ++ drop 256 list) (missing_refused_same start end s some k (by_number answer k z)) ∙ take-append-drop 256 list);
            };
      }

  -- the line that a step says, and what follows where it leaves the state and the list
  step_line : {W L : Type 0} → ((step_of (parsed line) s list).state ≡ s → W) → ((step_of (parsed line) s list).list ≡ list → L)
      → LineByRows (line_rows line s list) (text_of (step_of (parsed line) s list)) (W × L)
  step_line words lists =
      let t = shows (parsed line) refl in
      record {
        kind = (step_of (parsed line) s list).kind;
        number = t.number;
        rest = t.rest;
        line = ap (line_of (step_of (parsed line) s list).kind) t.after;
        refuses =
            record {
              exactly = t.refuses.exactly;
              untouched = λ n h. let u = t.refuses.untouched n h in (words u.0, lists u.1);
            };
      }

-- ---- the calls

pub line_rows_lem : (w w' line : List ℕ) (list list' : List ℤ) (out out' : List ℕ) (n : ℕ) → GoodProxy w
    → LineAnswered n w' list' out out' (step_of (parsed line) (proxy_of w) list)
    → (text : List ℕ) × (n ≡ length text) × (out' ≡ over text out)
    × LineByRows (line_rows line (proxy_of w) list) text ((w' ≡ w) × (list' ≡ list))
line_rows_lem w w' line list list' out out' n g a = (
  text_of (step_of (parsed line) (proxy_of w) list),
  a.wrote.count,
  a.wrote.line,
  step_line line (proxy_of w) list (λ h. a.words_are ∙ ap proxy_words h ∙ sym g.made) (λ h. a.list_is ∙ h),
)

pub feed_line : (x : Feeding) → GoodProxy x.words
    → LineByRows (line_rows (held_line x.held) (proxy_of x.words) x.list) (says 10 x) (((took 10 x).words ≡ x.words) × ((took 10 x).list ≡ x.list))
unfolding says took
feed_line x g = step_line (held_line x.held) (proxy_of x.words) x.list (λ h. ap proxy_words h ∙ sym g.made) (λ h. h)
