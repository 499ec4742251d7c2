-- What each call that changes a proxy does to its state, in document 01's words: steps of crate `proxy_steps`, and the end. Assumes nothing.
use Rattle.std.specs.Prelude.{ℕ, ◌-◌, cond, ltb, leb, ℤ, pos}
use Rattle.std.specs.Int.Signed.{lt_z}
use Rattle.sequence_number.specs.Number.{is_number, nat_of}
use Rattle.proxy_record.specs.Entries.{Entry}
use Rattle.proxy_record.specs.declared.Mark.TheVariants.{Received}
use Rattle.proxy_record.specs.State.{Proxy}
use Rattle.proxy_steps.specs.Steps.{noted, put, followed, ProxyReply, ended_proxy, refused_proxy, unavailable, skipped, put_each}

-- Received

-- an entry received at a time
abbrev pub got : ℕ → ℕ → Entry
got n t = record { number = n; mark = Received t }

-- "Received: put number and time over what was there"
unfoldable pub received_at : ℕ → ℕ → Proxy → ProxyReply
received_at n t s = ended_proxy s (followed n (put (got n t) (noted n t s)))

-- row 4: "number below 1 or equal to 2^63 - 1"
unfoldable pub received : ℤ → ℕ → Proxy → ProxyReply
received n t s = cond (is_number n) (received_at (nat_of n) t s) (refused_proxy 4 s)

-- One irrelevant

-- "below the ack base nothing changes; else put not available"
unfoldable pub irrelevant_at : ℕ → Proxy → ProxyReply
irrelevant_at n s = ended_proxy s (followed n (cond (ltb n s.base) s (put (unavailable n) s)))

unfoldable pub irrelevant : ℤ → Proxy → ProxyReply
irrelevant n s = cond (is_number n) (irrelevant_at (nat_of n) s) (refused_proxy 4 s)

-- Irrelevant range, from a until before b

-- "If a <= ack base: tracked numbers in it go ..", "Else each is put not available"
unfoldable pub range_at : ℕ → ℕ → Proxy → ProxyReply
range_at a b s = ended_proxy s (cond (leb a s.base) (skipped a b s) (put_each a (b - a) s))

-- row 5: "range with a > b". No tracked number and no base is below 1, so a negative end is as good as 0
unfoldable pub irrelevant_range : ℤ → ℤ → Proxy → ProxyReply
irrelevant_range a b s = cond (lt_z b a) (refused_proxy 5 s) (range_at (nat_of a) (nat_of b) s)

-- "Up to s" is the range 0 until s
abbrev pub up_to : ℤ → Proxy → ProxyReply
up_to n s = irrelevant_range (pos 0) n s
