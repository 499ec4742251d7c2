-- Setting an assembler up. Assumes nothing.
use Rattle.std.specs.Prelude.{ℕ, Bool, cond, ◌||◌, List, length, replicate, ltb, eqb}
use Rattle.outcome.specs.Answers.{SetUpReply, set_up_reply}
use Rattle.assembly_record.specs.Sizes.{place_count, largest_place, assembler_size}
use Rattle.outcome.specs.Outcome.{refused, done}
use Rattle.outcome.specs.Lent.{over}
use Rattle.assembly_record.specs.State.{Assembler, free_place}
use Rattle.assembly_record.specs.Words.{assembler_words}

-- 14: "f is 0, or p is 0 or above 65,536"; then 3: fewer words than the record has; 0 where neither holds
unfoldable pub set_up_refusal : ℕ → ℕ → ℕ → ℕ
set_up_refusal f p n = cond (eqb f 0 || (eqb p 0 || ltb largest_place p)) 14 (cond (ltb n assembler_size) 3 0)

-- a fresh assembler: every place is free
abbrev pub fresh_assembler : ℕ → Bool → ℕ → Assembler
fresh_assembler f reliable p = record { fragment_size = f; place_size = p; reliable = reliable; places = replicate place_count free_place }

-- the fresh record, and past it what was there; all that was there where it is refused
unfoldable pub set_up_assembler : ℕ → Bool → ℕ → List ℕ → SetUpReply
set_up_assembler f reliable p w =
    cond (eqb (set_up_refusal f p (length w)) 0) (set_up_reply (done tt) (over (assembler_words (fresh_assembler f reliable p)) w)) (set_up_reply (refused (set_up_refusal f p (length w))) w)
