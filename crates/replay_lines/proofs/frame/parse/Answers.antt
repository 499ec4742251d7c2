-- `replay_lines::frame::parse` meets its contract: what does not read is refused by the first row. Assumes nothing.
use mathlib.Core.Path.{◌≡◌, subst, sym}
use Rattle.std.specs.Prelude.{IfErr, Result}
use Rattle.outcome.specs.declared.Refusal.{Refusal}
use Rattle.outcome.specs.declared.Refusal.TheVariants.{EndsEarly}
use Rattle.replay_lines.specs.declared.frame.Frame.{Frame}
use Rattle.replay_lines.proofs.FrameLaws.{frame_row}
use Rattle.replay_lines.proofs.frame.parse.Goals as goal

pub returns-clause-row : goal.returns-clause-row
returns-clause-row c = subst (λ (r : Result Frame Refusal). IfErr r (λ x. x ≡ EndsEarly)) (sym c.frame_of.ensures) (frame_row c.value_at-kind.result c.value_at-a.result c.value_at-b.result)
