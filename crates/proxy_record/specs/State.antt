-- What a proxy knows, free of the layout. Assumes nothing.
use Rattle.std.specs.Prelude.{ℕ, List, []}
use Rattle.proxy_record.specs.Entries.{Entry}

-- "ack base (1), tracked numbers, each received at a time or not available, and the last received number (0) with its time"
pub record Proxy : Type 0 where
  pub base : ℕ
  pub tracked : List Entry
  pub last : ℕ
  pub time : ℕ

-- "ack base (1) .. last received number (0)": nothing heard yet
abbrev pub fresh_proxy : Proxy
fresh_proxy = record { base = 1; tracked = []; last = 0; time = 0 }

-- a state with other tracked numbers
abbrev pub with_tracked : List Entry → Proxy → Proxy
with_tracked l s = record { base = s.base; tracked = l; last = s.last; time = s.time }

-- "Never more than 256 numbers are tracked after a call"
abbrev pub cap : ℕ
cap = 256
