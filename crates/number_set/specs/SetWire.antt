-- Reading, writing and measuring a set (RTPS 2.5, 9.4.2.6; of fragments 9.4.2.8): what each call promises. Assumes nothing.
use Rattle.std.specs.Prelude.{ℕ, ◌+◌, ◌≡◌, cond, List, ◌++◌, length, ltb, Result}
use Rattle.outcome.specs.Outcome.{Outcome, refused, done, found, left}
use Rattle.outcome.specs.Refusal.{said}
use Rattle.outcome.specs.declared.Refusal.{Refusal}
use Rattle.sequence_number.specs.Kind.{Kind}
use Rattle.set_words.specs.SetWords.{word_count, set_length, read_count, read_words, bits_bytes}
pub use Rattle.set_words.specs.SetWords.{write_set}
use Rattle.sequence_number.specs.declared.ByteOrder.{ByteOrder}
use Rattle.number_set.specs.declared.set.NumberSet.{NumberSet}
use Rattle.number_set.specs.declared.set.Taken.{Taken}

-- a set that was read, and "how many were taken"
abbrev pub taken_set : {N : Type 0} (k : Kind N) → ByteOrder → List ℕ → ℕ → Taken N
taken_set k o s count =
    record {
      set = record { base = k.number_at o s 0; count = count; words = read_words o s (k.size + 4) (word_count count) };
      taken = set_length k.size count;
    }

-- the set at the front of the bytes; bytes after it are not looked at
abbrev pub read_set : {N : Type 0} (k : Kind N) → ByteOrder → List ℕ → Outcome (Taken N)
read_set k o s = found (taken_set k o s) (read_count k.size o s)

-- "A set is base, bit count (u32), then ceil(count / 32) words"; unused bits of the last word are written as they are
abbrev pub set_bytes : {N : Type 0} (k : Kind N) → ByteOrder → NumberSet N → List ℕ
set_bytes k o s = k.number_bytes o s.base ++ bits_bytes o s.count s.words

-- what writing a set to the lent bytes promises: the answer, and each byte
pub record WritesSet {N : Type 0} (k : Kind N) (o : ByteOrder) (s : NumberSet N) (before : List ℕ) (r : Result ℕ Refusal) (after : List ℕ) : Type 0 where
  pub answer : said r ≡ write_set k.size s.count (length before)
  pub bytes : after ≡ left (write_set k.size s.count (length before)) (set_bytes k o s) before

-- "measured: 2", with a base of so many bytes
abbrev pub measure_set : ℕ → ℕ → Outcome ℕ
measure_set size count = cond (ltb 256 count) (refused 2) (done (set_length size count))
