-- The acknack count: "0 at first, is handed out, and the call moves the caller's own counter record on". Assumes nothing.
use Rattle.std.specs.Prelude.{Bool, false, cond, eqb, ℤ, pos, negsuc}
use Rattle.std.proofs.Math.IntN.{suc_ℤ}
use Rattle.ack_nack_counter.specs.declared.AckNackCounter.{AckNackCounter}
use Rattle.ack_nack_counter.specs.declared.HandedOut.{HandedOut}

-- 2,147,483,647, the greatest count
abbrev pub is_greatest : ℤ → Bool
is_greatest (pos n) = eqb n 2147483647
is_greatest (negsuc n) = false

-- "after 2,147,483,647 comes -2,147,483,648"; `negsuc n` is -(n + 1)
abbrev pub next_count : ℤ → ℤ
next_count n = cond (is_greatest n) (negsuc 2147483647) (suc_ℤ n)

-- the counter at first: "0 at first"
abbrev pub fresh_counter : AckNackCounter
fresh_counter = record { count = pos 0 }

abbrev pub handed_out : AckNackCounter → HandedOut
handed_out c = record { count = c.count; counter = record { count = next_count c.count } }
