-- `replay_lines::feed::end_line` meets its contract: the line is answered, and no byte of it is held. Assumes nothing.
use Rattle.replay_lines.proofs.FeedLaws.{line_fed}
use Rattle.replay_lines.proofs.feed.end_line.Goals as goal

pub returns-clause-fed_with : goal.returns-clause-fed_with
returns-clause-fed_with c = line_fed _ _ _ _ _ _ (rw c.line.ensures at c.answer.ensures.line_answered)
