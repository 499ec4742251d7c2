-- `replay_lines::answer::answer` meets its contract: a line that does not read leaves the record. Assumes nothing.
use mathlib.Core.Path.{ap, sym, ◌∙◌}
use Rattle.outcome.specs.Outcome.{refused}
use Rattle.outcome.specs.Refusal.{number_of_refusal}
use Rattle.outcome.specs.declared.Refusal.{Refusal}
use Rattle.replay_lines.proofs.AnswerLaws.{did_nothing}
use Rattle.replay_lines.proofs.answer.answer.Goals as goal

pub returns-in_default-clause-line_answered : goal.returns-in_default-clause-line_answered
returns-in_default-clause-line_answered c =
    let a = c.args in
    let e = ap (λ (r : Refusal). refused (number_of_refusal r)) (sym c.in_default.ensures.row) ∙ c.in_default.ensures.reads in
    rw e at (did_nothing a.words.now a.list.now a.out.now _ _ _ _ _ c.requires.0 (c.from.ensures ∙ c.number.ensures) c.all_ackable_before-base.ensures c.put_short.ensures)
