-- What a proxy shows of its state. Assumes nothing.
use Rattle.std.specs.Prelude.{ℕ, Bool, true, cond, ◌||◌, ltb, eqb, ℤ, pos, negsuc, Option, Some, None}
use Rattle.proxy_record.specs.Entries.{look, is_tracked}
use Rattle.proxy_record.specs.declared.Mark.{Mark}
use Rattle.proxy_record.specs.State.{Proxy}

-- "Ignore holds exactly for a number below the base or tracked"
abbrev pub ignored : ℤ → Proxy → Bool
ignored (pos n) s = ltb n s.base || is_tracked n s.tracked
ignored (negsuc n) s = true

-- "A status query (added) shows tracked state and time"
abbrev pub status_of : ℤ → Proxy → Option Mark
status_of (pos n) s = look n s.tracked
status_of (negsuc n) s = None

-- the last received number and its time: "The last time is absent while the last number is 0"
unfoldable pub last_received : Proxy → Option (ℕ × ℕ)
last_received s = cond (eqb s.last 0) None (Some (s.last, s.time))
