-- The theorems of the replay lines, under document 01's words. A call's own promise is its contract; here is what follows. Assumes nothing.
use Prim.Native.Nat.{ℕ, ◌<◌, ◌≤◌}
use mathlib.Core.Path.{◌≡◌, refl, sym, ap, subst, ◌∙◌}
use mathlib.Core.Logic.{⊎_elim}
use mathlib.Core.List.{List, [], ◌∷◌, ◌++◌, flatten, append_assoc, append-nil}
use native.Mathlib.Omega.{arith}
use lib.ListN.{length, take, drop, take-append-drop, length-replicate}
use lib.Seq.{take_all, take_at, drop_at, length-take-le}
use lib.IntN.{ℤ, pos}
use borrow.Author.Tests.{lt-ltb}
use Rattle.outcome.specs.Outcome.{refused}
use Rattle.outcome.proofs.Split.{split_lt}
use Rattle.line_text.specs.Held.{held_line}
use Rattle.line_text.specs.Lines.{NoFeed, Lines, recorded, lines_of}
use Rattle.line_text.proofs.HeldLaws.{line_held, some_held}
use Rattle.line_text.proofs.LinesLaws.{recorded_more, lines_more, last_line, parted}
use Rattle.proxy_record.specs.State.{Proxy, cap}
use Rattle.proxy_record.specs.Rules.{ProxyRules}
use Rattle.proxy_record.specs.Words.{proxy_words, proxy_of}
use Rattle.proxy_record.proofs.WordsLaws.{good_is}
use Rattle.writer_proxy.proofs.Promises.{record_reads_back}
use Rattle.replay_lines.specs.Frame.{parsed}
use Rattle.replay_lines.specs.Answer.{missing_room, Step, text_of, step_of}
use Rattle.replay_lines.specs.Feed.{held_room, piece_most, Feeding, line_does, took, says, fed_through, said_through, lacking, FedWith}
use Rattle.replay_lines.specs.Replay.{blank_list, line_step, replayed, BetweenLines, fed_each, said_each, FeedCalls}
use Rattle.replay_lines.specs.Replay as replay
use Rattle.replay_lines.proofs.FrameLaws.{parsed_length}
use Rattle.replay_lines.proofs.StepLaws.{line_keeps, step_alike, step_length}
use Rattle.replay_lines.proofs.FeedLaws.{fed_append, said_append, line_goes_on_lem, fed_held}

-- "A line that does not read gives `0 1` and the base", and changes nothing
pub malformed_told : (line : List ℕ) (s : Proxy) (list : List ℤ) → parsed line ≡ refused 1
    → ((step_of (parsed line) s list).state ≡ s) × ((step_of (parsed line) s list).kind ≡ 0) × ((step_of (parsed line) s list).after ≡ 1 ∷ s.base ∷ []) × ((step_of (parsed line) s list).list ≡ list)
unfolding step_of
malformed_told line s list e = rw e (refl, refl, refl, refl)

-- what is held of a line reads as the line does: a longer one does not read
pub held_reads : (line : List ℕ) (k : ℕ) → held_room ≤ k → parsed (take k line) ≡ parsed line
held_reads line k p =
    ⊎_elim
    (λ h.
    let n : length (take k line) ≡ k = length-take-le k line (omega arith) in
    sym (parsed_length (take k line) (λ e. omega arith)) ∙ parsed_length line (λ e. omega arith))
    (λ h. ap parsed (take_all k line h))
    (split_lt k (length line))

-- Input

-- a line and its line feed, from where no byte is held: its answer is said, and the record and the list are those after it
pub line_said : (line : List ℕ) → NoFeed line → (r : Feeding) → held_room ≤ length r.held.bytes → r.held.count ≡ 0
    → let x = step_of (parsed line) (proxy_of r.words) r.list in
    let after = fed_through (line ++ (10 ∷ [])) r in
    (said_through (line ++ (10 ∷ [])) r ≡ text_of x) × (after.words ≡ proxy_words x.state) × (after.list ≡ x.list) × (after.held.count ≡ 0)
unfolding took says
line_said line n r h z =
    let t = line_goes_on_lem line n r in
    let u = fed_through line r in
    let p : parsed (held_line u.held) ≡ parsed line =
    ap (λ (y : Feeding). parsed (held_line y.held)) t.1
    ∙ ap parsed (line_held line r.held ∙ ap (λ (k : ℕ). take (length r.held.bytes) (take k r.held.bytes ++ line)) z) ∙ held_reads line (length r.held.bytes) h in
    let q : line_does u ≡ step_of (parsed line) (proxy_of r.words) r.list = λ i. step_of (p i) (proxy_of (t.1 i).words) (t.1 i).list in (
      said_append line (10 ∷ []) r ∙ ap (λ (l : List ℕ). l ++ (text_of (line_does u) ++ [])) t.0 ∙ append-nil (text_of (line_does u)) ∙ ap text_of q,
      ap (λ (y : Feeding). y.words) (fed_append line (10 ∷ []) r) ∙ ap (λ (y : Step). proxy_words y.state) q,
      ap (λ (y : Feeding). y.list) (fed_append line (10 ∷ []) r) ∙ ap (λ (y : Step). y.list) q,
      ap (λ (y : Feeding). y.held.count) (fed_append line (10 ∷ []) r),
    )

blank_long : missing_room ≤ length blank_list
unfolding blank_list
blank_long = omega (arith, length-replicate missing_room (pos 0))

-- the same between two lines: what is said is what `replayed` has, and the next line may come
line_replayed : (line : List ℕ) → NoFeed line → (r : Feeding) → BetweenLines r
    → let after = fed_through (line ++ (10 ∷ [])) r in
    let x = line_step line (proxy_of r.words) in
    (said_through (line ++ (10 ∷ [])) r ≡ text_of x) × (proxy_of after.words ≡ x.state) × BetweenLines after
line_replayed line n r p =
    let s = proxy_of r.words in
    let x = step_of (parsed line) s r.list in
    let t = line_said line n r p.holds p.empty in
    let a = step_alike (parsed line) s r.list blank_list p.long blank_long in
    let o : ProxyRules cap x.state = line_keeps s r.list p.good.ok line in (
      t.0 ∙ a.1,
      ap proxy_of t.1 ∙ record_reads_back x.state o ∙ a.0,
      record {
        good = good_is 256 (fed_through (line ++ (10 ∷ [])) r).words x.state (omega arith) o t.1;
        long = omega (arith, p.long, ap length t.2, step_length (parsed line) s r.list);
        holds = omega (arith, p.holds, fed_held (line ++ (10 ∷ [])) r);
        empty = t.3;
      },
    )

-- "Each line gives kind, refusal or 0, ack base": a whole recording gives the answers to its lines, and no byte of it is held then
pub recording_said : (lines : List (List ℕ)) → Lines lines → (r : Feeding) → BetweenLines r → (said_through (recorded lines) r ≡ replayed lines (proxy_of r.words)) × BetweenLines (fed_through (recorded lines) r)
unfolding replayed
recording_said [] n r p = (refl, p)
recording_said (line ∷ lines) n r p =
    let a = line ++ (10 ∷ []) in
    let e : line ++ (10 ∷ recorded lines) ≡ a ++ recorded lines = sym (append_assoc line (10 ∷ []) (recorded lines)) in
    let t = line_replayed line n.0 r p in
    let v = recording_said lines n.1 (fed_through a r) t.2 in (
      ap (λ (bytes : List ℕ). said_through bytes r) e ∙ said_append a (recorded lines) r ∙ (λ i. t.0 i ++ (v.0 ∙ ap (replayed lines) t.1) i),
      subst BetweenLines (sym (ap (λ (bytes : List ℕ). fed_through bytes r) e ∙ fed_append a (recorded lines) r)) v.1,
    )

-- "a line feed, which a last, non-empty line may lack": some bytes are held then, and one line feed more says the last answer
pub last_line_said : (lines : List (List ℕ)) (last : List ℕ) → Lines lines → NoFeed last → (last ≡ [] → ⊥) → (r : Feeding) → BetweenLines r
    → let bytes = recorded lines ++ last in
    (said_through bytes r ≡ replayed lines (proxy_of r.words)) × (0 < (fed_through bytes r).held.count) × (said_through bytes r ++ said_through (10 ∷ []) (fed_through bytes r) ≡ replayed (lines ++ (last ∷ [])) (proxy_of r.words))
last_line_said lines last n m full r p =
    let v = recording_said lines n r p in
    let u = fed_through (recorded lines) r in
    let t = line_goes_on_lem last m u in
    let k = length u.held.bytes in
    let e : held_line (fed_through last u).held ≡ take k last =
    ap (λ (y : Feeding). held_line y.held) t.1 ∙ line_held last u.held ∙ ap (λ (n : ℕ). take k (take n u.held.bytes ++ last)) v.1.empty in (
      said_append (recorded lines) last r ∙ (λ i. v.0 i ++ t.0 i) ∙ append-nil (replayed lines (proxy_of r.words)),
      rw (fed_append (recorded lines) last r) (some_held last full (fed_through last u).held k (omega (arith, v.1.holds)) e),
      sym (said_append (recorded lines ++ last) (10 ∷ []) r) ∙ ap (λ (bytes : List ℕ). said_through bytes r) (recorded_more lines last) ∙ (recording_said (lines ++ (last ∷ [])) (lines_more lines last n m) r p).0,
    )

-- any input, parted into a recording and the bytes after it
parted_said : (lines : List (List ℕ)) (last : List ℕ) → Lines lines → NoFeed last → (r : Feeding) → BetweenLines r
    → let u = fed_through (recorded lines ++ last) r in
    said_through (recorded lines ++ last) r ++ said_through (lacking u) u ≡ replayed (lines ++ last_line last) (proxy_of r.words)
parted_said lines [] n m r p =
    let v = recording_said lines n r p in
    let e : recorded lines ++ [] ≡ recorded lines = append-nil (recorded lines) in
    let z : (fed_through (recorded lines ++ []) r).held.count ≡ 0 = ap (λ (bytes : List ℕ). (fed_through bytes r).held.count) e ∙ v.1.empty in
    rw z (append-nil (said_through (recorded lines ++ []) r) ∙ ap (λ (bytes : List ℕ). said_through bytes r) e ∙ v.0 ∙ ap (λ (l : List (List ℕ)). replayed l (proxy_of r.words)) (sym (append-nil lines)))
parted_said lines (b ∷ last) n m r p =
    let v = last_line_said lines (b ∷ last) n m (λ e. absurd (omega (arith, ap length e))) r p in
    rw (lt-ltb 0 (fed_through (recorded lines ++ (b ∷ last)) r).held.count v.1) v.2

-- "Lines end in a line feed, which a last, non-empty line may lack": so read, any input gives the answers to its lines
pub input_said : (bytes : List ℕ) (r : Feeding) → BetweenLines r → said_through bytes r ++ said_through (lacking (fed_through bytes r)) (fed_through bytes r) ≡ replayed (lines_of bytes) (proxy_of r.words)
input_said bytes r p =
    let c = parted bytes in
    ap (λ (l : List ℕ). said_through l r ++ said_through (lacking (fed_through l r)) (fed_through l r)) c.is
    ∙ parted_said c.lines c.last c.are_lines c.no_feed r p ∙ ap (λ (l : List (List ℕ)). replayed l (proxy_of r.words)) (sym c.lines_of)

-- Pieces

-- however input is cut, what is lent after it and all that is said are the same
pub pieces_said : (pieces : List (List ℕ)) (r : Feeding) → (fed_each pieces r ≡ fed_through (flatten pieces) r) × (said_each pieces r ≡ said_through (flatten pieces) r)
unfolding flatten
pieces_said [] r = (refl, refl)
pieces_said (piece ∷ pieces) r =
    let t = pieces_said pieces (fed_through piece r) in
    (t.0 ∙ sym (fed_append piece (flatten pieces) r), ap (λ (l : List ℕ). said_through piece r ++ l) t.1 ∙ sym (said_append piece (flatten pieces) r))

-- calls of `feed` write what the bytes of their input say, however it is cut
pub calls_said : {input text : List ℕ} {r end : Feeding} → FeedCalls input r text end → (text ≡ said_through input r) × (end ≡ fed_through input r)
calls_said (replay.FeedCalls.finished r) = (refl, refl)
calls_said (replay.FeedCalls.call {r = r} {end = end} piece rest out out' f {text = text} p k) =
    let a = take piece_most piece in
    let b = drop f.taken piece ++ rest in
    let w = p.fed_with in
    let o : take f.wrote out' ≡ said_through a r = ap (take f.wrote) w.out_is ∙ take_at (said_through a r) (drop (length (said_through a r)) out) f.wrote (sym w.wrote_is) in
    let d : drop f.taken piece ≡ drop piece_most piece = ap (drop f.taken) (sym (take-append-drop piece_most piece)) ∙ drop_at a (drop piece_most piece) f.taken (sym p.taken_is) in
    let e : a ++ b ≡ piece ++ rest = sym (append_assoc a (drop f.taken piece) rest) ∙ ap (λ (l : List ℕ). l ++ rest) (ap (λ (l : List ℕ). a ++ l) d ∙ take-append-drop piece_most piece) in
    let t = calls_said k in (
      (λ i. o i ++ (t.0 ∙ ap (said_through b) w.fed_is) i) ∙ sym (said_append a b r) ∙ ap (λ (l : List ℕ). said_through l r) e,
      t.1 ∙ ap (fed_through b) w.fed_is ∙ sym (fed_append a b r) ∙ ap (λ (l : List ℕ). fed_through l r) e,
    )

-- the whole of it: calls of `feed` over an input, and `close` after them, write the answers to its lines
pub calls_answer : {input text : List ℕ} {r end after : Feeding} {wrote : ℕ} {out out' : List ℕ} → BetweenLines r → FeedCalls input r text end → FedWith wrote after out out' (lacking end) end
    → text ++ take wrote out' ≡ replayed (lines_of input) (proxy_of r.words)
calls_answer {input = input} {r = r} {end = end} {wrote = wrote} {out = out} p c w =
    let t = calls_said c in
    let s = said_through (lacking end) end in
    let o : take wrote _ ≡ s = ap (take wrote) w.out_is ∙ take_at s (drop (length s) out) wrote (sym w.wrote_is) in
    (λ i. t.0 i ++ (o ∙ ap (λ (u : Feeding). said_through (lacking u) u) t.1) i) ∙ input_said input r p
