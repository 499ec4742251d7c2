-- `writer_proxy::irrelevant::irrelevant_changes_up_to` meets its contract: it is the range from 0 on. Assumes nothing.
use mir.Facts.{to_z-of_z}
use Rattle.writer_proxy.proofs.irrelevant.irrelevant_changes_up_to.Goals as goal

pub returns : goal.returns
returns c =
    rw (to_z-of_z c.ranges.smallest) at c.irrelevant_changes_range.ensures
