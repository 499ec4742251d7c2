-- Which numbers are missing of those that a heartbeat names. Assumes nothing.
use Rattle.std.specs.Prelude.{ℕ, zero, suc, ◌-◌, ◌≤◌, max, cond, List, [], ◌∷◌, map, length, ltb, eqb, ℤ, pos}
use Rattle.outcome.specs.Answers.{ListReply, list_reply}
use Rattle.sequence_number.specs.Number.{top, nat_of}
use Rattle.outcome.specs.Lent.{over}
use Rattle.outcome.specs.Outcome.{refused, done}
use Rattle.proxy_record.specs.Entries.{Entry, is_tracked}
use Rattle.proxy_record.specs.State.{Proxy}

-- of the k numbers from lo on, those that are not tracked
unfoldable pub untracked_from : ℕ → ℕ → List Entry → List ℕ
untracked_from lo zero l = []
untracked_from lo (suc k) l = cond (is_tracked lo l) (untracked_from (suc lo) k l) (lo ∷ untracked_from (suc lo) k l)

-- strictly rising from lo on
abbrev pub Ascending : ℕ → List ℕ → Type 0
Ascending lo [] = Unit {0}
Ascending lo (n ∷ l) = (lo ≤ n) × Ascending (suc n) l

-- where the list begins: at heartbeat start, or at the base where that is higher
abbrev pub missing_from : ℤ → Proxy → ℕ
missing_from start s = max s.base (nat_of start)

-- the untracked numbers from there through the heartbeat's end; none where start exceeds end
abbrev pub missing_numbers : ℤ → ℤ → Proxy → List ℕ
missing_numbers start end s = untracked_from (missing_from start s) (suc (nat_of end) - missing_from start s) s.tracked

-- "Missing numbers: 4, then 3": row 4 "heartbeat end 2^63 - 1", row 3 "lent output shorter than the answer"
unfoldable pub missing_listed : ℤ → ℤ → Proxy → List ℤ → ListReply ℤ
missing_listed start end s out =
    cond (eqb (nat_of end) top) (list_reply (refused 4) out)
    (cond (ltb (length out) (length (missing_numbers start end s))) (list_reply (refused 3) out)
    (list_reply (done (length (missing_numbers start end s))) (over (map pos (missing_numbers start end s)) out)))
