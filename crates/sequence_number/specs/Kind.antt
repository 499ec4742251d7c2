-- The two kinds of number, and what is different between them: the numbers are of the type N. All else is said once, over the kind. Assumes nothing.
use Rattle.std.specs.Prelude.{ℕ, ◌+◌, ◌-◌, ◌/◌, ◌%◌, ◌^◌, Bool, List, ◌++◌, ltb, ℤ, pos, ◌+ℤ◌, ◌*ℤ◌}
use Rattle.std.specs.Int.Signed.{lt_z}
use Rattle.std.specs.Int.{w32, w64}
use Rattle.std.proofs.Common.{of_z, to_z}
use Rattle.sequence_number.specs.Number.{nat_of}
use Rattle.sequence_number.specs.Word.{word_at, word_bytes}
use Rattle.sequence_number.specs.declared.ByteOrder.{ByteOrder}

pub record Kind (N : Type 0) : Type 0 where
  -- how many bytes a number takes on the wire
  pub size : ℕ
  -- the number that starts at a place of the bytes
  pub number_at : ByteOrder → List ℕ → ℕ → N
  pub number_bytes : ByteOrder → N → List ℕ
  -- 0, which is read past a list's end, and 1, the least member of a made set
  pub nought : N
  pub least : N
  -- base + i, and whether it is a number of the type
  pub plus : N → ℕ → N
  pub fits : N → ℕ → Bool
  pub below : N → N → Bool
  -- how far it is from a number to a higher one, both 1 or more
  pub apart : N → N → ℕ

-- "high signed word first, then the low unsigned word": the number is high * 2^32 + low (RTPS 2.5, 8.3.5.4 and 9.4.2.5)
abbrev pub sequence_at : ByteOrder → List ℕ → ℕ → ℤ
sequence_at o s at = to_z w32 (word_at o s at) *ℤ pos (2 ^ 32) +ℤ pos (word_at o s (at + 4))

-- its 64 bits in two's complement: the high word, then the low word
abbrev pub sequence_bytes : ByteOrder → ℤ → List ℕ
sequence_bytes o n = word_bytes o (of_z w64 n / 2 ^ 32) ++ word_bytes o (of_z w64 n % 2 ^ 32)

-- "A sequence number is signed 64-bit"
abbrev pub sequence_number : Kind ℤ
sequence_number =
    record {
      size = 8;
      number_at = sequence_at;
      number_bytes = sequence_bytes;
      nought = pos 0;
      least = pos 1;
      plus = λ base i. base +ℤ pos i;
      fits = λ base i. lt_z (base +ℤ pos i) (pos (2 ^ 63));
      below = lt_z;
      apart = λ a b. nat_of b - nat_of a;
    }

-- "A fragment number is unsigned 32-bit": one word (RTPS 2.5, 8.3.5.6 and 9.4.2.7)
abbrev pub fragment_number : Kind ℕ
fragment_number =
    record {
      size = 4;
      number_at = word_at;
      number_bytes = word_bytes;
      nought = 0;
      least = 1;
      plus = λ base i. base + i;
      fits = λ base i. ltb (base + i) (2 ^ 32);
      below = ltb;
      apart = λ a b. b - a;
    }
