-- `replay::Replay::take_all` meets its contract: the end of the input is fed after all of it. Assumes nothing.
use Rattle.replay.proofs.RunLaws.{ran_to_end}
use Rattle.replay.proofs.Replay.take_all.Goals as goal

pub returns : goal.returns
returns g c = ran_to_end _ _ _ _ _ _ c.take_input.ensures.fed_some c.close-wrote.ensures.fed_with
