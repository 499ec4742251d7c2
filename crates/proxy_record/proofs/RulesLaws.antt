-- Laws of `specs/Rules.antt`: more room, a fresh proxy, what a good record tracks, and the record of a state that keeps the rules. Assumes nothing.
use Prim.Native.Nat.{ℕ, ◌≤◌}
use native.Mathlib.Omega.{arith}
use mathlib.Core.Path.{◌≡◌}
use mathlib.Core.List.{List}
use lib.ListN.{get_or}
use Rattle.sequence_number.specs.Number.{top}
use Rattle.proxy_record.specs.Entries.{RisingEntries}
use Rattle.proxy_record.specs.State.{Proxy, fresh_proxy, cap}
use Rattle.proxy_record.specs.Words.{column_size, proxy_words, proxy_of, tracked_in}
use Rattle.proxy_record.specs.Rules.{ProxyRules, GoodProxyUpTo, GoodProxy}
use Rattle.proxy_record.proofs.EntriesLaws.{rising_any}
use Rattle.proxy_record.proofs.PartLaws.{base_at}
use Rattle.proxy_record.proofs.WordsLaws.{good_kept, good_is}

pub ok_more : (m k : ℕ) (s : Proxy) → m ≤ k → ProxyRules m s → ProxyRules k s
ok_more m k s h o = record { few = omega (arith, o.few); rising = o.rising; low = o.low; high = o.high; last_below = o.last_below }

pub ok_fresh : ProxyRules cap fresh_proxy
ok_fresh = record { few = omega arith; rising = tt; low = omega arith; high = omega arith; last_below = omega arith }

pub good_more : (w : List ℕ) → GoodProxy w → GoodProxyUpTo column_size w
good_more w g = record { made = g.made; whole = g.whole; count = g.count; ok = ok_more cap column_size (proxy_of w) (omega arith) g.ok }

-- a record is of the state that it was made of, and keeps its rules
pub good_of : (w : List ℕ) (s : Proxy) → ProxyRules cap s → w ≡ proxy_words s → GoodProxy w
good_of w s o e = good_is cap w s (omega arith) o e

-- the numbers that a good record tracks rise
pub good_rising : (w : List ℕ) → GoodProxy w → RisingEntries 0 top (tracked_in w)
good_rising w g = rising_any (proxy_of w).base top (tracked_in w) g.ok.rising

-- the base's word
pub base_word : (m : ℕ) (w : List ℕ) → m ≤ column_size → GoodProxyUpTo m w → get_or w 0 0 ≡ (proxy_of w).base
base_word m w h g = base_at (good_kept m w h g)
