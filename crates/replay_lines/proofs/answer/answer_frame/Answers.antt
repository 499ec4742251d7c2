-- `replay_lines::answer::answer_frame` meets its contract: each frame is a case of `step_of`. Assumes nothing.
use Rattle.std.proofs.Common.{arith, w64}
use mir.Facts.{to_z-of_z}
use Rattle.replay_lines.proofs.AnswerLaws.{did_received, did_range, did_missing}
use Rattle.replay_lines.proofs.answer.answer_frame.Goals as goal

pub returns-in-Received-clause-line_answered : goal.returns-in-Received-clause-line_answered
returns-in-Received-clause-line_answered c =
    let n = to_z-of_z {w = w64} {z = c.in-Received.number} (record { sfits = omega arith }) in
    did_received _ _ _ _ _ _ _ c.received_changes_add-r.result _ _ c.in-Received.is (rw n at c.received_changes_add-r.ensures.proxy_answers) c.tell.ensures

pub returns-in-Range-clause-line_answered : goal.returns-in-Range-clause-line_answered
returns-in-Range-clause-line_answered c =
    let a = to_z-of_z {w = w64} {z = c.in-Range.from} (record { sfits = omega arith }) in
    let z = to_z-of_z {w = w64} {z = c.in-Range.until} (record { sfits = omega arith }) in
    did_range _ _ _ _ _ _ _ c.irrelevant_changes_range-r.result _ _ c.in-Range.is (rw (a, z) at c.irrelevant_changes_range-r.ensures.proxy_answers) c.tell-in-Range.ensures

pub returns-in-Missing-clause-line_answered : goal.returns-in-Missing-clause-line_answered
returns-in-Missing-clause-line_answered c =
    let a = to_z-of_z {w = w64} {z = c.in-Missing.start} (record { sfits = omega arith }) in
    let z = to_z-of_z {w = w64} {z = c.in-Missing.end} (record { sfits = omega arith }) in
    did_missing _ _ _ _ _ _ _ _ _ _ c.in-Missing.is c.requires.0.made (rw (a, z) at c.tell_missing.ensures.line_written) (rw (a, z) at c.tell_missing.ensures.list_after)
