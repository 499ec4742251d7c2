-- Laws of `specs/Feed.antt`: runs of bytes, a byte's two ways in the code, how much bytes say, and the loop over a piece. Assumes nothing.
use Prim.Native.Nat.{ℕ, suc, ◌+◌, ◌-◌, ◌*◌, ◌<◌, ◌≤◌}
use mathlib.Core.Path.{◌≡◌, refl, sym, ap, subst, ◌∙◌}
use mathlib.Core.Logic.{⊎_elim}
use mathlib.Core.List.{List, [], ◌∷◌, ◌++◌, append_assoc, append-nil}
use native.Mathlib.Omega.{arith}
use native.Mathlib.Numerals.{add-one}
use lib.ListN.{length, take, drop, get_or, length-append, length-drop, take-append-drop}
use lib.Seq.{drop-append-le, length-take-le, take-suc}
use lib.IntN.{ℤ}
use borrow.Author.Tests.{eq-eqb, ne_eqb}
use Rattle.outcome.specs.Lent.{over}
use Rattle.outcome.specs.Outcome.{Outcome}
use Rattle.outcome.proofs.Split.{split_eq}
use Rattle.sequence_number.specs.Number.{top}
use Rattle.line_text.specs.Held.{Holding, held_line, held_on, held_through}
use Rattle.line_text.specs.Lines.{NoFeed}
use Rattle.line_text.specs.Decimal.{started}
use Rattle.line_text.proofs.HeldLaws.{held_room_lem, held_one, held_most}
use Rattle.line_text.proofs.DecimalLaws.{length_one, length_most, length_head, over_after}
use Rattle.proxy_record.specs.State.{Proxy}
use Rattle.proxy_record.specs.Rules.{GoodProxy}
use Rattle.proxy_record.specs.Words.{proxy_of}
use Rattle.replay_lines.specs.Frame.{parsed}
use Rattle.replay_lines.specs.Answer.{answer_most, step_of, text_of, LineAnswered}
use Rattle.replay_lines.specs.Feed.{held_room, Feeding, line_does, line_goes_on, took, says, feeding, fed_through, said_through, FedWith}
use Rattle.replay_lines.specs.Inner.{said_most}
use Rattle.replay_lines.specs.declared.frame.Frame.{Frame}
use Rattle.replay_lines.proofs.FrameLaws.{parsed_length}

-- Runs of bytes

-- one run of bytes after another
pub fed_append : (a b : List ℕ) (r : Feeding) → fed_through (a ++ b) r ≡ fed_through b (fed_through a r)
fed_append [] b r = refl
fed_append (x ∷ a) b r = fed_append a b (took x r)

pub said_append : (a b : List ℕ) (r : Feeding) → said_through (a ++ b) r ≡ said_through a r ++ said_through b (fed_through a r)
said_append [] b r = refl
said_append (x ∷ a) b r = ap (λ (l : List ℕ). says x r ++ l) (said_append a b (took x r)) ∙ sym (append_assoc (says x r) (said_through a (took x r)) (said_through b (fed_through a (took x r))))

-- a byte that is no line feed
byte_goes_on : (b : ℕ) → (b ≡ 10 → ⊥) → (r : Feeding) → (says b r ≡ []) × (took b r ≡ line_goes_on b r)
unfolding took says
byte_goes_on b e r = rw (ne_eqb b 10 e) (refl, refl)

-- a line so far: nothing is said, and its bytes are held
pub line_goes_on_lem : (line : List ℕ) → NoFeed line → (r : Feeding)
    → (said_through line r ≡ []) × (fed_through line r ≡ record { words = r.words; list = r.list; held = held_through line r.held })
line_goes_on_lem [] n r = (refl, refl)
line_goes_on_lem (b ∷ line) n r =
    let e = byte_goes_on b n.0 r in
    let t = line_goes_on_lem line n.1 (line_goes_on b r) in
    ((λ i. e.0 i ++ said_through line (e.1 i)) ∙ t.0, ap (fed_through line) e.1 ∙ t.1)

-- no byte changes how many can be held
took_held : (b : ℕ) (r : Feeding) → length (took b r).held.bytes ≡ length r.held.bytes
unfolding took
took_held b r = ⊎_elim (λ e. rw (eq-eqb b 10 e)) (λ e. rw (ne_eqb b 10 e) (held_room_lem b r.held)) (split_eq b 10)

pub fed_held : (bytes : List ℕ) (r : Feeding) → length (fed_through bytes r).held.bytes ≡ length r.held.bytes
fed_held [] r = refl
fed_held (b ∷ bytes) r = fed_held bytes (took b r) ∙ took_held b r

-- A byte

module _ (r : Feeding) (out : List ℕ) where
  pub line_fed : (n : ℕ) (words : List ℕ) (list : List ℤ) (out' : List ℕ) → LineAnswered n words list out out' (line_does r)
      → FedWith n (feeding words list r.held.bytes 0) out out' (10 ∷ []) r
  unfolding took says
  line_fed n words list out' d =
      let t = text_of (line_does r) in
      record {
        fed_is = λ i. feeding (d.words_are i) (d.list_is i) r.held.bytes 0;
        out_is = d.wrote.line ∙ ap (λ (l : List ℕ). over l out) (sym (append-nil t));
        wrote_is = d.wrote.count ∙ ap length (sym (append-nil t));
      }

  pub byte_held : (b : ℕ) (held : Holding) → (b ≡ 10 → ⊥) → held ≡ held_on b r.held → FedWith 0 (record { words = r.words; list = r.list; held = held }) out out (b ∷ []) r
  byte_held b held e h =
      let t = byte_goes_on b e r in
      record {
        fed_is = (λ i. record { words = r.words; list = r.list; held = h i }) ∙ sym t.1;
        out_is = ap (λ (l : List ℕ). over l out) (sym (append-nil (says b r) ∙ t.0));
        wrote_is = ap length (sym (append-nil (says b r) ∙ t.0));
      }

-- How much is said

-- a line that has not the length of one that reads is answered shortly
text_short : (line : List ℕ) (s : Proxy) (list : List ℤ) → s.base ≤ top → (length line ≡ 34 → ⊥) → length (text_of (step_of (parsed line) s list)) ≤ 148
unfolding step_of
text_short line s list h n =
    subst (λ (p : Outcome Frame). length (text_of (step_of p s list)) ≤ 148) (parsed_length line n)
    (omega (arith, length-append (started 0 (1 ∷ s.base ∷ [])) (10 ∷ []), length_head 0 1 s.base, length_one 0 (omega arith), length_one 1 (omega arith), length_most 18 s.base (omega arith)))

-- a byte says no more than 148 for each byte that it takes from those held
byte_says : (b : ℕ) (r : Feeding) → GoodProxy r.words → length (says b r) ≤ answer_most
    → length (says b r) + 148 * length (held_line (took b r).held) ≤ 148 * suc (length (held_line r.held))
unfolding took says
byte_says b r g =
    ⊎_elim
    (λ e. rw (eq-eqb b 10 e) (λ h.
    ⊎_elim (λ n. omega arith)
    (λ n. omega (arith, text_short (held_line r.held) (proxy_of r.words) r.list g.ok.high n))
    (split_eq (length (held_line r.held)) 34)))
    (λ e. rw (ne_eqb b 10 e) (λ h. omega (arith, held_one b r.held)))
    (split_eq b 10)

-- what is said fits where it was written
says_fit : (t rest part : List ℕ) → part ≡ over t rest → length part ≡ length rest → length t ≤ length rest
says_fit t rest part e h = omega (arith, ap length e, length-append t (drop (length t) rest), length-drop (length t) rest)

-- A piece

-- a part of the buffer that is lent for an answer, back in the buffer
over_part : (t x : List ℕ) (m : ℕ) → length t ≤ m → m ≤ length x → over t (take m x) ++ drop m x ≡ over t x
over_part t x m h k =
    append_assoc t (drop (length t) (take m x)) (drop m x)
    ∙ ap (λ (l : List ℕ). t ++ l) (sym (drop-append-le (length t) (take m x) (drop m x) (omega (arith, length-take-le m x k))) ∙ ap (drop (length t)) (take-append-drop m x))

-- where the loop over a piece is: its first i bytes were fed
pub record Going (r₀ : Feeding) (piece out₀ : List ℕ) (i : ℕ) (r : Feeding) (wrote : ℕ) (out : List ℕ) : Type 0 where
  pub fed : FedWith wrote r out₀ out (take i piece) r₀
  pub good : GoodProxy r.words
  pub few : wrote + 148 * length (held_line r.held) ≤ 148 * (i + held_room)

module _ (r₀ : Feeding) (piece out₀ : List ℕ) (enough_out : said_most (length piece) ≤ length out₀) where
  pub going_first : GoodProxy r₀.words → length r₀.held.bytes ≡ held_room → Going r₀ piece out₀ 0 r₀ 0 out₀
  going_first g b = record { fed = record { fed_is = refl; out_is = refl; wrote_is = refl }; good = g; few = omega (arith, held_most r₀.held) }

  module _ (i : ℕ) (r : Feeding) (wrote : ℕ) (out : List ℕ) (g : Going r₀ piece out₀ i r wrote out) where
    module _ (h : i < length piece) (whole : length out ≡ length out₀) where
      pub room_left : wrote + answer_most ≤ length out
      room_left = omega (arith, g.few)

      -- one byte more
      pub going_on : (n : ℕ) (r' : Feeding) (part : List ℕ) → length part ≡ length (take ((wrote + answer_most) - wrote) (drop wrote out)) → GoodProxy r'.words
          → FedWith n r' (take ((wrote + answer_most) - wrote) (drop wrote out)) part (get_or piece i 0 ∷ []) r
          → (wrote + n ≤ length out) × Going r₀ piece out₀ (i + 1) r' (wrote + n) (take wrote out ++ (part ++ drop ((wrote + answer_most) - wrote) (drop wrote out)))
      going_on n r' part k good st =
          let b = get_or piece i 0 in
          let a = take i piece in
          let s = said_through a r₀ in
          let t = said_through (b ∷ []) r in
          let m = (wrote + answer_most) - wrote in
          let x = drop wrote out in
          let e : says b r ≡ t = sym (append-nil (says b r)) in
          let lx : length x ≡ length out - wrote = length-drop wrote out in
          let lm : length (take m x) ≡ m = length-take-le m x (omega (arith, room_left)) in
          let fits : length t ≤ answer_most = omega (arith, says_fit t (take m x) part st.out_is k) in
          let back : part ++ drop m x ≡ over t x = ap (λ (l : List ℕ). l ++ drop m x) st.out_is ∙ over_part t x m (omega arith) (omega (arith, room_left)) in
          let c : take (i + 1) piece ≡ a ++ (b ∷ []) = rw add-one (take-suc piece i 0 h) in
          let w : said_through (take (i + 1) piece) r₀ ≡ s ++ t =
          ap (λ (l : List ℕ). said_through l r₀) c ∙ said_append a (b ∷ []) r₀ ∙ ap (λ (y : Feeding). s ++ said_through (b ∷ []) y) (sym g.fed.fed_is) in
          let held : length (held_line r'.held) ≡ length (held_line (took b r).held) = ap (λ (y : Feeding). length (held_line y.held)) st.fed_is in
          let says_few = byte_says b r g.good (omega (arith, ap length e)) in (
            omega (arith, st.wrote_is, room_left),
            record {
              fed = record {
                fed_is =
                    st.fed_is ∙ ap (fed_through (b ∷ [])) g.fed.fed_is ∙ sym (fed_append a (b ∷ []) r₀) ∙ ap (λ (l : List ℕ). fed_through l r₀) (sym c);
                out_is =
                    ap (λ (l : List ℕ). take wrote out ++ l) back ∙ over_after s t out₀ out wrote g.fed.wrote_is g.fed.out_is ∙ ap (λ (l : List ℕ). over l out₀) (sym w);
                wrote_is = omega (arith, ap length w, length-append s t, g.fed.wrote_is, st.wrote_is);
              };
              good = good;
              few = omega (arith, g.few, held, st.wrote_is, ap length e, says_few);
            },
          )
