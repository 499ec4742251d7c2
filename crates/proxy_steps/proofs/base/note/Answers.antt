-- `proxy_steps::base::note` meets its contract: the two words are written where the number is greater. Assumes nothing.
use Rattle.proxy_steps.proofs.BaseLaws.{note_new, note_old}
use Rattle.proxy_steps.proofs.base.note.Goals as goal

pub returns-then-t-n : goal.returns-then-t-n
returns-then-t-n c = note_new _ _ _ c.requires c.if-t-n.true

pub returns-else-t-n : goal.returns-else-t-n
returns-else-t-n c = note_old _ _ _ c.requires c.if-t-n.false
