-- Laws of `specs/Answer.antt`: a whole line over what was there, and one law for each answer of the code. Assumes nothing.
use Prim.Native.Nat.{ℕ, ◌+◌, ◌-◌, ◌<◌, ◌≤◌}
use mathlib.Core.Path.{◌≡◌, refl, sym, ap, subst, ◌∙◌}
use mathlib.Core.List.{List, [], ◌∷◌, ◌++◌, map, append_assoc}
use native.Mathlib.Omega.{arith}
use lib.ListN.{length, take, drop, set, length-append, length-take, length-drop, length-map}
use lib.Seq.{take_at, length-take-le}
use lib.Dec.{ltb, eqb}
use lib.IntN.{ℤ, pos}
use borrow.Author.Tests.{ltb-false}
use Rattle.sequence_number.specs.Number.{top, nat_of}
use Rattle.outcome.specs.Lent.{over}
use Rattle.outcome.specs.Outcome.{Outcome, refused, done, refusal}
use Rattle.outcome.proofs.Split.{split}
use Rattle.outcome.proofs.LentLaws.{over_more}
use Rattle.proxy_record.specs.State.{Proxy}
use Rattle.proxy_record.specs.Rules.{GoodProxy}
use Rattle.proxy_record.specs.Words.{proxy_layout, proxy_words, proxy_of}
use Rattle.proxy_steps.specs.declared.Forced.{Forced}
use Rattle.proxy_steps.specs.Steps.{report_said, ProxyReply, ProxyAnswers}
use Rattle.writer_proxy.specs.Calls.{received, irrelevant_range}
use Rattle.writer_proxy.specs.Missing.{missing_numbers, missing_listed}
use Rattle.std.specs.Prelude.{Option, Result}
use Rattle.outcome.specs.declared.Refusal.{Refusal}
use Rattle.line_text.specs.Decimal.{spaced_number, started, line_of}
use Rattle.replay_lines.specs.declared.frame.Frame.{Frame}
use Rattle.replay_lines.specs.declared.frame.Frame.TheVariants.{Received, Range, Missing}
use Rattle.replay_lines.specs.Answer.{missing_room, told, counted, told_missing, step_of, LineWritten, LineAnswered}
use Rattle.line_text.proofs.DecimalLaws.{from_on, Begun, length_one, length_most, length_head}

-- behind what is begun there is the room that the buffer has left
pub room_on : (out mid : List ℕ) (end k : ℕ) (l : List ℕ) → Begun out mid end k l → (n : ℕ) → end + n ≤ length out → (end + n ≤ length mid) × (n ≤ length (from_on mid end))
room_on out mid end k l h n e =
    let s = started k l in
    let m : length mid ≡ length out = omega (arith, h.1, ap length h.0, length-append s (drop (length s) out), length-drop (length s) out) in
    (omega arith, omega (arith, length-take (length mid - end) (drop end mid), length-drop end mid))

-- the line feed
pub ends : (out mid : List ℕ) (end k : ℕ) (l : List ℕ) → Begun out mid end k l → end < length out → LineWritten (end + 1) out (set mid end 10) k l
ends out mid end k l h b =
    let n : length (line_of k l) ≡ length (started k l) + 1 = length-append (started k l) (10 ∷ []) in
    record {
      line = ap (λ (t : List ℕ). set t end 10) h.0 ∙ over_more (started k l) out end 10 (sym h.1) b;
      count = omega (arith, h.1);
    }

-- the same line by other names
wrote_as : (n : ℕ) (out out' : List ℕ) (kind : ℕ) (l l' : List ℕ) → l ≡ l' → LineWritten n out out' kind l → LineWritten n out out' kind l'
wrote_as n out out' kind l l' e w = subst (λ (x : List ℕ). LineWritten n out out' kind x) e w

pub told_as : (n : ℕ) (out out' : List ℕ) (kind x y x' y' : ℕ) → LineWritten n out out' kind (x ∷ y ∷ []) → x ≡ x' → y ≡ y' → LineWritten n out out' kind (x' ∷ y' ∷ [])
told_as n out out' kind x y x' y' w e f = wrote_as n out out' kind _ _ (λ i. e i ∷ f i ∷ []) w

-- Missing lists

-- the head of a missing list's line, and its count
pub head_most : (n : ℕ) → n ≤ top → length (started 3 (0 ∷ n ∷ [])) ≤ 23
head_most n h = omega (arith, length_head 3 0 n, length_one 3 (omega arith), length_one 0 (omega arith), length_most 18 n (omega arith))

pub count_most : (n : ℕ) → n ≤ 256 → length (spaced_number n) ≤ 4
count_most n h = omega (arith, length_most 2 n (omega arith))

counted_listed : (numbers : List ℕ) (base k : ℕ) (a : Outcome ℕ) → a ≡ done k → counted numbers base a ≡ 0 ∷ base ∷ k ∷ numbers
counted_listed numbers base k a e = rw e

map_back : (m : List ℕ) → map nat_of (map pos m) ≡ m
map_back [] = refl
map_back (n ∷ m) = ap (λ (l : List ℕ). n ∷ l) (map_back m)

-- an answer, and what the lent list then holds
module _ (start end : ℤ) (s : Proxy) (lent o : List ℤ) (o_is : o ≡ (missing_listed start end s lent).list) where
  -- a list that was given is as long as it says and stands at the front
  given_list : (k : ℕ) → (missing_listed start end s lent).answer ≡ done k
      → (k ≡ length (missing_numbers start end s)) × (k ≤ length lent) × ((missing_listed start end s lent).list ≡ over (map pos (missing_numbers start end s)) lent)
  unfolding missing_listed
  given_list k =
      split (eqb (nat_of end) top)
      (λ e. rw e (λ q. let z : ◌≡◌ {A = ℕ} 0 1 = cc in absurd (omega arith)))
      (λ e. rw e (
      split (ltb (length lent) (length (missing_numbers start end s)))
      (λ f. rw f (λ q. let z : ◌≡◌ {A = ℕ} 0 1 = cc in absurd (omega arith)))
      (λ f. rw f (λ q. let w : length (missing_numbers start end s) ≡ k = cc in (sym w, omega (arith, ltb-false (length lent) (length (missing_numbers start end s)) f), refl)))))

  -- the numbers that are read back from it
  numbers_back : (k : ℕ) (rest : List ℤ) → done k ≡ (missing_listed start end s lent).answer → (k ≤ length lent) × (k ≤ length (o ++ rest)) × (map nat_of (take k (o ++ rest)) ≡ missing_numbers start end s)
  numbers_back k rest e =
      let m = missing_numbers start end s in
      let g = given_list k (sym e) in
      let w : o ++ rest ≡ map pos m ++ (drop (length (map pos m)) lent ++ rest) =
      ap (λ (l : List ℤ). l ++ rest) (o_is ∙ g.2) ∙ append_assoc (map pos m) (drop (length (map pos m)) lent) rest in
      let n : length (map pos m) ≡ k = length-map m pos ∙ sym g.0 in (
        g.1,
        omega (arith, ap length w, length-append (map pos m) (drop (length (map pos m)) lent ++ rest)),
        ap (λ (l : List ℤ). map nat_of (take k l)) w ∙ ap (map nat_of) (take_at (map pos m) (drop (length (map pos m)) lent ++ rest) k n) ∙ map_back m,
      )

module _ (start end : ℤ) (s : Proxy) (list o : List ℤ) (o_is : o ≡ (missing_listed start end s (take missing_room list)).list) (k : ℕ) where
  -- what the line of a missing list asks for
  pub missing_fits : done k ≡ (missing_listed start end s (take missing_room list)).answer → (k ≤ missing_room) × (k ≤ length (o ++ drop missing_room list))
  missing_fits e =
      let m = numbers_back start end s (take missing_room list) o o_is k (drop missing_room list) e in
      (omega (arith, m.0, length-take missing_room list), m.1)

  module _ (n : ℕ) (out out' : List ℕ) (base : ℕ) (base_is : base ≡ s.base) where
    pub missing_told : done k ≡ (missing_listed start end s (take missing_room list)).answer
        → let l = take k (o ++ drop missing_room list) in
        LineWritten n out out' 3 (0 ∷ base ∷ length l ∷ map nat_of l) → LineWritten n out out' 3 (told_missing start end s list).after × (o ++ drop missing_room list ≡ (told_missing start end s list).list)
    missing_told e w =
        let m = numbers_back start end s (take missing_room list) o o_is k (drop missing_room list) e in
        let c = length-take-le k (o ++ drop missing_room list) m.1 in (
          wrote_as n out out' 3 _ _ ((λ i. 0 ∷ base_is i ∷ c i ∷ m.2 i) ∙ sym (counted_listed _ _ k _ (sym e))) w,
          ap (λ (l : List ℤ). l ++ drop missing_room list) o_is,
        )

-- Frames

base_is : (s : Proxy) → (proxy_of (proxy_words s)).base ≡ s.base
unfolding proxy_of proxy_words proxy_layout
base_is s = refl

-- a call that changes the proxy
did_told : (n kind : ℕ) (x : ProxyReply) (r : Result (Option Forced) Refusal) (w : List ℕ) (list : List ℤ) (out out' : List ℕ) → ProxyAnswers r w x
    → LineWritten n out out' kind (refusal (report_said r) ∷ (proxy_of w).base ∷ []) → LineAnswered n w list out out' (told kind x list)
did_told n kind x r w list out out' a t = record {
  words_are = a.1;
  list_is = refl;
  wrote = told_as n out out' kind _ _ _ _ t (ap refusal a.0) (ap (λ (y : List ℕ). (proxy_of y).base) a.1 ∙ base_is x.state);
}

module _ (n : ℕ) (frame : Frame) (s : Proxy) (w : List ℕ) (list : List ℤ) (out out' : List ℕ) where
  pub did_received : (r : Result (Option Forced) Refusal) (a : ℤ) (t : ℕ) → frame ≡ Received a t → ProxyAnswers r w (received a t s) → LineWritten n out out' 1 (refusal (report_said r) ∷ (proxy_of w).base ∷ [])
      → LineAnswered n w list out out' (step_of (done frame) s list)
  unfolding step_of
  did_received r a t e x y = rw e (did_told n 1 (received a t s) r w list out out' x y)

  pub did_range : (r : Result (Option Forced) Refusal) (a z : ℤ) → frame ≡ Range a z → ProxyAnswers r w (irrelevant_range a z s) → LineWritten n out out' 2 (refusal (report_said r) ∷ (proxy_of w).base ∷ [])
      → LineAnswered n w list out out' (step_of (done frame) s list)
  unfolding step_of
  did_range r a z e x y = rw e (did_told n 2 (irrelevant_range a z s) r w list out out' x y)

  pub did_missing : (list' : List ℤ) (a z : ℤ) → frame ≡ Missing a z → w ≡ proxy_words s → LineWritten n out out' 3 (told_missing a z s list).after → list' ≡ (told_missing a z s list).list
      → LineAnswered n w list' out out' (step_of (done frame) s list)
  unfolding step_of
  did_missing list' a z e x y l = rw e (record { words_are = x; list_is = l; wrote = y })

-- Lines

-- a line that does not read
pub did_nothing : (words : List ℕ) (list : List ℤ) (out out' : List ℕ) (k n m base : ℕ) → GoodProxy words → m ≡ k → base ≡ (proxy_of words).base → LineWritten n out out' 0 (m ∷ base ∷ [])
    → LineAnswered n words list out out' (step_of (refused k) (proxy_of words) list)
unfolding step_of
did_nothing words list out out' k n m base g e f w = record { words_are = g.made; list_is = refl; wrote = told_as n out out' 0 m base _ _ w e f }
