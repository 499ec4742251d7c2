-- Laws of `step_of`: a line keeps the proxy's rules, and of the lent list only its length matters. Assumes nothing.
use Prim.Native.Nat.{ℕ, ◌^◌, ◌<◌, ◌≤◌}
use mathlib.Core.Path.{◌≡◌, refl, sym, ap, subst, ◌∙◌}
use mathlib.Core.List.{List, map}
use native.Mathlib.Omega.{arith}
use lib.ListN.{length, take, drop, length-append, length-drop, length-map, take-append-drop}
use lib.Seq.{length-take-le}
use lib.Dec.{ltb, eqb}
use lib.IntN.{ℤ, pos}
use mir.Syntax.{w64}
use mir.Val.{to_z}
use mir.Facts.{sfits_to_z}
use borrow.Author.Tests.{ltb-false, eqb-true, eqb-false}
use Rattle.sequence_number.specs.Number.{top, nat_of}
use Rattle.outcome.specs.Outcome.{Outcome, refused, done}
use Rattle.outcome.specs.Refusal.{said}
use Rattle.outcome.proofs.Split.{split}
use Rattle.proxy_record.specs.State.{Proxy, cap}
use Rattle.proxy_record.specs.Rules.{ProxyRules}
use Rattle.writer_proxy.specs.Missing.{missing_numbers, missing_listed}
use Rattle.writer_proxy.proofs.Promises.{received_keeps_rules, range_keeps_rules}
use Rattle.line_text.specs.Decimal.{line_of}
use Rattle.line_text.specs.Hex.{all_hex}
use Rattle.replay_lines.specs.Frame.{frame_of, parsed}
use Rattle.replay_lines.specs.Answer.{missing_room, counted, step_of, text_of}
use Rattle.replay_lines.specs.declared.frame.Frame.{Frame}
use Rattle.replay_lines.specs.declared.frame.Frame.TheVariants.{Received, Range, Missing}
use Rattle.line_text.proofs.HexLaws.{value_fits}
use Rattle.replay_lines.proofs.FrameLaws.{parsed_length, parsed_digit, parsed_frame}

-- The rules

module _ (s : Proxy) (list : List ℤ) (o : ProxyRules cap s) where
  frame_keeps : (kind a b : ℕ) → b < 2 ^ 64 → ProxyRules cap (step_of (said (frame_of kind a b)) s list).state
  unfolding step_of frame_of
  frame_keeps kind a b h =
      split (eqb kind 1) (λ e. rw e (received_keeps_rules (to_z w64 a) b s o))
      (λ e. split (eqb kind 2) (λ f. rw (e, f) (range_keeps_rules (to_z w64 a) (to_z w64 b) s (sfits_to_z (record { fits = h })) o))
      (λ f. split (eqb kind 3) (λ g. rw (e, f, g) o) (λ g. rw (e, f, g) o)))

  pub line_keeps : (line : List ℕ) → ProxyRules cap (step_of (parsed line) s list).state
  unfolding step_of
  line_keeps line =
      split (eqb (length line) 34)
      (λ e.
      let n : length line ≡ 34 = eqb-true (length line) 34 e in
      split (all_hex line)
      (λ f. subst (λ (p : Outcome Frame). ProxyRules cap (step_of p s list).state) (parsed_frame line n f) (frame_keeps _ _ _ (value_fits line 18 16 f (omega arith) (omega arith))))
      (λ f. subst (λ (p : Outcome Frame). ProxyRules cap (step_of p s list).state) (parsed_digit line n f) o))
      (λ e. subst (λ (p : Outcome Frame). ProxyRules cap (step_of p s list).state) (parsed_length line (eqb-false (length line) 34 e)) o)

-- The lent list

module _ (start end : ℤ) (s : Proxy) where
  listed_alike : (l m : List ℤ) → length l ≡ length m → (missing_listed start end s l).answer ≡ (missing_listed start end s m).answer
  unfolding missing_listed
  listed_alike l m h =
      split (eqb (nat_of end) top) (λ e. rw e)
      (λ e. split (ltb (length m) (length (missing_numbers start end s))) (λ f. rw (e, h, f)) (λ f. rw (e, h, f)))

  listed_length : (l : List ℤ) → length (missing_listed start end s l).list ≡ length l
  unfolding missing_listed
  listed_length l =
      let m = map pos (missing_numbers start end s) in
      split (eqb (nat_of end) top) (λ e. rw e)
      (λ e. split (ltb (length l) (length (missing_numbers start end s))) (λ f. rw (e, f))
      (λ f. rw (e, f) (omega (arith, ltb-false (length l) (length (missing_numbers start end s)) f, length-map (missing_numbers start end s) pos, length-append m (drop (length m) l), length-drop (length m) l))))

pub step_alike : (p : Outcome Frame) (s : Proxy) (l m : List ℤ) → missing_room ≤ length l → missing_room ≤ length m
    → ((step_of p s l).state ≡ (step_of p s m).state) × (text_of (step_of p s l) ≡ text_of (step_of p s m))
unfolding step_of
step_alike (refused n) s l m h k = (refl, refl)
step_alike (done (Received number time)) s l m h k = (refl, refl)
step_alike (done (Range from until)) s l m h k = (refl, refl)
step_alike (done (Missing start end)) s l m h k =
    let n : length (take missing_room l) ≡ length (take missing_room m) = length-take-le missing_room l h ∙ sym (length-take-le missing_room m k) in
    (refl, ap (λ (x : Outcome ℕ). line_of 3 (counted (missing_numbers start end s) s.base x)) (listed_alike start end s (take missing_room l) (take missing_room m) n))

pub step_length : (p : Outcome Frame) (s : Proxy) (l : List ℤ) → length (step_of p s l).list ≡ length l
unfolding step_of
step_length (refused n) s l = refl
step_length (done (Received number time)) s l = refl
step_length (done (Range from until)) s l = refl
step_length (done (Missing start end)) s l =
    let o = (missing_listed start end s (take missing_room l)).list in
    omega (arith, length-append o (drop missing_room l), listed_length start end s (take missing_room l), length-append (take missing_room l) (drop missing_room l), ap length (take-append-drop missing_room l))
