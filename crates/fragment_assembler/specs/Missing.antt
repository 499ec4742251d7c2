-- The missing fragments of a number: "listed the same way, numbered from 1; a number not in assembly gives an empty list". Assumes nothing.
use Rattle.std.specs.Prelude.{ℕ, cond, List, [], length, ltb}
use Rattle.outcome.specs.Answers.{ListReply, list_reply}
use Rattle.outcome.specs.Outcome.{refused, done}
use Rattle.outcome.specs.Lent.{over}
use Rattle.assembly_record.specs.State.{Assembler, place_at}
use Rattle.assembly_record.specs.Table.{find, is_partially_received}
use Rattle.assembly_record.specs.Marks.{gaps}
use Rattle.assembly_record.specs.Fragments.{fragments}

-- those of a number in assembly; none of another
unfoldable pub missing_fragments : Assembler → ℕ → List ℕ
missing_fragments a n =
    cond (is_partially_received a.places n)
    (gaps (place_at a.places (find n a.places)).marks (fragments (place_at a.places (find n a.places)).size a.fragment_size))
    []

-- 3 where the list is shorter than the answer; else the fragments, and past them what was there
unfoldable pub missing_fragments_for : Assembler → ℕ → List ℕ → ListReply ℕ
missing_fragments_for a n out =
    cond (ltb (length out) (length (missing_fragments a n))) (list_reply (refused 3) out) (list_reply (done (length (missing_fragments a n))) (over (missing_fragments a n) out))
