-- `replay_lines::answer::put_head` meets its contract: three numbers, one after the other, of at most twenty digits each. Assumes nothing.
use Rattle.std.proofs.Common.{arith, [], ◌∷◌}
use Rattle.line_text.proofs.DecimalLaws.{word_most, begun_first, goes_on_one}
use Rattle.replay_lines.proofs.AnswerLaws.{room_on}
use Rattle.replay_lines.proofs.answer.put_head.Goals as goal

pub put_number-a-requires : goal.put_number-a-requires
put_number-a-requires c = omega (arith, word_most _ c.ranges.kind)

pub put_next-requires : goal.put_next-requires
put_next-requires c =
    let a = begun_first c.args.out.now _ _ _ c.put_number-a.ensures.0 c.put_number-a.ensures.1 in
    (room_on _ _ _ _ _ a _ (omega (arith, word_most _ c.ranges.kind, word_most _ c.ranges.refusal, c.put_number-a.ensures.1))).1

pub put_next-requires-2 : goal.put_next-requires-2
put_next-requires-2 c =
    let a = begun_first c.args.out.now _ _ _ c.put_number-a.ensures.0 c.put_number-a.ensures.1 in
    let d = goes_on_one c.args.out.now _ _ _ _ c.args.kind _ [] a c.put_next.ensures.0 c.put_next.ensures.1 in
    (room_on _ _ _ _ _ d _ (omega (arith, word_most _ c.ranges.kind, word_most _ c.ranges.refusal, word_most _ c.ranges.base, c.put_number-a.ensures.1, c.put_next.ensures.1))).1

pub returns : goal.returns
returns c =
    let out = c.args.out.now in
    let k = c.args.kind in
    let a = begun_first out _ _ k c.put_number-a.ensures.0 c.put_number-a.ensures.1 in
    let d = goes_on_one out _ _ _ _ k _ [] a c.put_next.ensures.0 c.put_next.ensures.1 in
    goes_on_one out _ _ _ _ k _ (c.args.refusal ∷ []) d c.put_next-2.ensures.0 c.put_next-2.ensures.1
