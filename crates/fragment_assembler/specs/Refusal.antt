-- The refusals of a fragment call, in the document's order. Assumes nothing.
use Rattle.std.specs.Prelude.{ℕ, ◌+◌, ◌*◌, ◌-◌, Bool, cond, not, ◌&&◌, ◌||◌, ltb, leb, eqb}
use Rattle.assembly_record.specs.Sizes.{place_count, most_fragments}
use Rattle.sequence_number.specs.Number.{top}
use Rattle.assembly_record.specs.State.{Assembler, place_at}
use Rattle.assembly_record.specs.Table.{find, has_number}
use Rattle.assembly_record.specs.Fragments.{fragments}
use Rattle.fragment_assembler.specs.Fragment.{FragmentHead}

-- "opening": the number is not in assembly yet
abbrev pub opens : Assembler → FragmentHead → Bool
opens a h = not (has_number a.places h.number)

-- "D and F are those of the opening fragment; a later fragment's data size is not looked at"
abbrev pub size_for : Assembler → FragmentHead → ℕ
size_for a h = cond (has_number a.places h.number) (place_at a.places (find h.number a.places)).size h.data_size

-- 10, 11 and 12 of a run on a sample of F fragments: "run of 0 fragments", "start 0", "k - 1 + n > F"; 0 where none holds
abbrev pub run_refusal : ℕ → ℕ → ℕ → ℕ
run_refusal most start count = cond (eqb count 0) 10 (cond (eqb start 0) 11 (cond (ltb most (start - 1 + count)) 12 0))

-- "Order: fragment 13, 4, 6, 7, 8, 9, 10, 11, 12", on an area of n bytes: the first that holds, 0 where the call is accepted
unfoldable pub fragment_refusal : Assembler → ℕ → FragmentHead → ℕ
fragment_refusal a n h =
    cond (ltb n (place_count * a.place_size)) 13
    (cond (eqb h.number 0 || leb top h.number) 4
    (cond (not (eqb h.fragment_size a.fragment_size)) 6
    (cond (opens a h && ltb h.data_size a.fragment_size) 7
    (cond (opens a h && ltb a.place_size h.data_size) 8
    (cond (opens a h && ltb most_fragments (fragments h.data_size a.fragment_size)) 9
    (run_refusal (fragments (size_for a h) a.fragment_size) h.start h.count))))))
