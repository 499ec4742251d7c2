-- Document 01's "Known values at the edges", P1 to P11, as one statement. Assumes nothing.
use Rattle.std.specs.Prelude.{ℕ, zero, suc, ◌*◌, ◌≡◌, Bool, List, [], ◌∷◌, map, length, ℤ, pos}
use Rattle.outcome.specs.Outcome.{Outcome, refused, done}
use Rattle.sequence_number.specs.Kind.{sequence_number, sequence_bytes}
use Rattle.number_set.specs.declared.set.NumberSet.{NumberSet}
use Rattle.number_set.specs.NumberSet.{empty_at}
use Rattle.number_set.specs.Make.{make_set}
use Rattle.sequence_number.specs.declared.ByteOrder.TheVariants.{Little}
use Rattle.assembly_record.specs.Fragments.{fragments}
use Rattle.fragment_assembler.specs.Fragment.{Fragment, fragment_with, head_of}
use Rattle.fragment_assembler.specs.Refusal.{fragment_refusal}
use Rattle.fragment_assembler.specs.Call.{fragment}
use Rattle.fragment_assembler.specs.SetUp.{fresh_assembler}
use Rattle.proxy_record.specs.Entries.{Entry, Tracked}
use Rattle.proxy_record.specs.State.{Proxy, fresh_proxy}
use Rattle.writer_proxy.specs.Calls.{received, irrelevant_range, up_to}

-- a set of sequence numbers by its base, its count, and its first and last words, the six between zero
abbrev pub set_with : ℕ → ℕ → ℕ → ℕ → Outcome (NumberSet ℤ)
set_with base count first last = done (record { base = pos base; count = count; words = first ∷ 0 ∷ 0 ∷ 0 ∷ 0 ∷ 0 ∷ 0 ∷ last ∷ [] })

-- a first fragment of a sample of d bytes, with f 4
abbrev pub first_fragment : ℕ → Fragment
first_fragment d = fragment_with 0 1 4 d 1 1 []

-- the k numbers from n on
abbrev pub up_from : ℕ → ℕ → List ℕ
up_from n zero = []
up_from n (suc k) = n ∷ up_from (suc n) k

-- and those received, the lowest first, each at its time
abbrev pub received_each : (ℕ → ℕ) → ℕ → ℕ → Proxy → Proxy
received_each time n zero s = s
received_each time n (suc k) s = received_each time (suc n) k (received (pos n) (time n) s).state

abbrev pub tracked_numbers : Proxy → List ℕ
tracked_numbers s = map (λ (e : Entry). e.number) s.tracked

pub record KnownValues : Type 0 where
  -- number 1, little: 00 00 00 00 01 00 00 00
  pub P1 : sequence_bytes Little (pos 1) ≡ 0 ∷ 0 ∷ 0 ∷ 0 ∷ 1 ∷ 0 ∷ 0 ∷ 0 ∷ []
  -- 4294967298, little: 01 00 00 00 02 00 00 00
  pub P2 : sequence_bytes Little (pos 4294967298) ≡ 1 ∷ 0 ∷ 0 ∷ 0 ∷ 2 ∷ 0 ∷ 0 ∷ 0 ∷ []
  -- base 1, {1, 3}: count 3, word A0000000 hex
  pub P3 : make_set sequence_number (pos 1) (pos 1 ∷ pos 3 ∷ []) ≡ set_with 1 3 0xA000_0000 0
  -- base 1234, {1236, 1237}: count 4, word 30000000
  pub P4 : make_set sequence_number (pos 1234) (pos 1236 ∷ pos 1237 ∷ []) ≡ set_with 1234 4 0x3000_0000 0
  -- base 1, {1, 256}: count 256; {1, 257}: 256 bits, only 1
  pub P5 : (make_set sequence_number (pos 1) (pos 1 ∷ pos 256 ∷ []) ≡ set_with 1 256 0x8000_0000 1)
      × (make_set sequence_number (pos 1) (pos 1 ∷ pos 257 ∷ []) ≡ set_with 1 256 0x8000_0000 0)
  -- base 5, {0}: empty at 1
  pub P6 : make_set sequence_number (pos 5) (pos 0 ∷ []) ≡ done (empty_at (pos 1))
  -- f 4: D 10 gives F 3, D 4 gives 1
  pub P7 : (fragments 10 4 ≡ 3) × (fragments 4 4 ≡ 1)
  -- (f 4, p 2,048) D 1024 gives 256; 1025 is refused 9; 3 is refused 7
  pub P8 : (reliable : Bool) (area : List ℕ) → length area ≡ 129 * 2048
      → (fragments 1024 4 ≡ 256) × (fragment_refusal (fresh_assembler 4 reliable 2048) (length area) (head_of (first_fragment 1024)) ≡ 0)
      × ((fragment (fresh_assembler 4 reliable 2048) area (first_fragment 1025)).answer ≡ refused 9) × ((fragment (fresh_assembler 4 reliable 2048) area (first_fragment 3)).answer ≡ refused 7)
  -- fresh, range 10 until 12, then 0 until 10: base 12. "Up to s" is the range 0 until s: the same by that call
  pub P9 : ((irrelevant_range (pos 0) (pos 10) (irrelevant_range (pos 10) (pos 12) fresh_proxy).state).state.base ≡ 12)
      × ((up_to (pos 10) (irrelevant_range (pos 10) (pos 12) fresh_proxy).state).state.base ≡ 12)
  -- fresh, range 2 until 1002: base 746, tracked 746 to 1001
  pub P10 : ((irrelevant_range (pos 2) (pos 1002) fresh_proxy).state.base ≡ 746) × (tracked_numbers (irrelevant_range (pos 2) (pos 1002) fresh_proxy).state ≡ up_from 746 256)
  -- fresh, received 2 to 258: base 3, 3 still tracked; at any times
  pub P11 : (time : ℕ → ℕ) → ((received_each time 2 257 fresh_proxy).base ≡ 3) × Tracked 3 (received_each time 2 257 fresh_proxy).tracked
