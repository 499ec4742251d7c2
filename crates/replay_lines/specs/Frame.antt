-- The meaning of a line: "34 digits of either case: a kind byte and two signed 8-byte big-endian numbers". Assumes nothing.
use Rattle.std.specs.Prelude.{ℕ, cond, ◌&&◌, List, length, eqb, Result, Ok, Err}
use Rattle.std.specs.Int.{w64}
use Rattle.std.proofs.Common.{to_z}
use Rattle.outcome.specs.Outcome.{Outcome, refused}
use Rattle.outcome.specs.Refusal.{said}
use Rattle.outcome.specs.declared.Refusal.{Refusal}
use Rattle.outcome.specs.declared.Refusal.TheVariants.{EndsEarly}
use Rattle.line_text.specs.Hex.{all_hex, value_at}
use Rattle.replay_lines.specs.declared.frame.Frame.{Frame}
use Rattle.replay_lines.specs.declared.frame.Frame.TheVariants.{Received, Range, Missing}

-- "01 received (number, time), 02 range (a, b), 03 missing (start, end; room 256)"; "a received time is the second number's bits, unsigned"; any other kind does not read.
-- `to_z w64` reads 64 bits as a signed number, in two's complement
unfoldable pub frame_of : ℕ → ℕ → ℕ → Result Frame Refusal
frame_of kind a b =
    cond (eqb kind 1) (Ok (Received (to_z w64 a) b))
    (cond (eqb kind 2) (Ok (Range (to_z w64 a) (to_z w64 b)))
    (cond (eqb kind 3) (Ok (Missing (to_z w64 a) (to_z w64 b))) (Err EndsEarly)))

-- the bytes of a line, without its line feed: two digits of kind and twice sixteen of a number; row 1 is "a replay line is malformed"
unfoldable pub parsed : List ℕ → Outcome Frame
parsed line =
    cond (eqb (length line) 34 && all_hex line) (said (frame_of (value_at line 0 2) (value_at line 2 16) (value_at line 18 16))) (refused 1)
