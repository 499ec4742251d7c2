-- The record's own rules: the one premise of a call, kept by every call. Assumes nothing.
use Rattle.std.specs.Prelude.{ℕ, ◌<◌, ◌≤◌, ◌≡◌, List, length, get_or}
use Rattle.sequence_number.specs.Number.{top}
use Rattle.proxy_record.specs.Entries.{RisingEntries}
use Rattle.proxy_record.specs.State.{Proxy, cap}
use Rattle.proxy_record.specs.Words.{proxy_size, proxy_words, proxy_of, tracked_in}

-- the rules: at most m tracked (`cap` after a call), strictly rising, none below the base, the base from 1 to 2^63 - 1, and only numbers that a call takes
pub record ProxyRules (m : ℕ) (s : Proxy) : Type 0 where
  pub few : length s.tracked ≤ m
  pub rising : RisingEntries s.base top s.tracked
  pub low : 1 ≤ s.base
  pub high : s.base ≤ top
  pub last_below : s.last < top

-- words that are the record of a state that keeps the rules, with at most m tracked. `whole` follows from `made` and `ok` (m is at most 257), `count` from `entries_from`: they are here for the callers
pub record GoodProxyUpTo (m : ℕ) (w : List ℕ) : Type 0 where
  pub made : w ≡ proxy_words (proxy_of w)
  pub whole : length w ≡ proxy_size
  pub count : get_or w 1 0 ≡ length (tracked_in w)
  pub ok : ProxyRules m (proxy_of w)

-- the record's own rules: the one premise of a call, kept by every call
abbrev pub GoodProxy : List ℕ → Type 0
GoodProxy w = GoodProxyUpTo cap w
