-- `replay_lines::answer::put_short` meets its contract: the head, and a line feed after it. Assumes nothing.
use Rattle.std.proofs.Common.{◌<◌, arith, [], ◌∷◌, length}
use Rattle.line_text.proofs.DecimalLaws.{word_most, length_head}
use Rattle.replay_lines.proofs.AnswerLaws.{ends}
use Rattle.replay_lines.proofs.answer.put_short.Goals as goal
use Rattle.replay_lines.proofs.answer.put_short.Goals.{After-put_head-end}

-- the line feed still fits
fits : (c : After-put_head-end) → c.put_head-end.result < length c.args.out.now
fits c = omega (arith, word_most _ c.ranges.kind, word_most _ c.ranges.refusal, word_most _ c.ranges.base, length_head c.args.kind c.args.refusal c.args.base, c.put_head-end.ensures.1)

pub bounds-out-end : goal.bounds-out-end
bounds-out-end c = omega (arith, fits (goal.at.bounds-out-end c).After-put_head-end, c.put_head-end.auto.out)

pub returns : goal.returns
returns c =
    let a = c.args in
    ends a.out.now _ _ a.kind (a.refusal ∷ a.base ∷ []) c.put_head-end.ensures (fits (goal.at.returns c).After-put_head-end)
