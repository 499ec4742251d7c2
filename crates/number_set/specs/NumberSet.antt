-- A number set: base, bit count, words (RTPS 2.5, 8.3.5.5 and 9.4.2.6; of fragments 8.3.5.7 and 9.4.2.8). Assumes nothing.
use Rattle.std.specs.Prelude.{List, map}
use Rattle.sequence_number.specs.Kind.{Kind}
use Rattle.bitmap.specs.Bitmap.{zero_words, positions}
pub use Rattle.set_words.specs.SetWords.{set_length}
use Rattle.number_set.specs.declared.set.NumberSet.{NumberSet}

-- the empty set at a base
abbrev pub empty_at : {N : Type 0} → N → NumberSet N
empty_at base = record { base = base; count = 0; words = zero_words }

-- "Bit i .. stands for base + i": the members, rising. Unused bits of the last word and words past the count are not looked at
abbrev pub members : {N : Type 0} (k : Kind N) → NumberSet N → List N
members k s = map (k.plus s.base) (positions s.words s.count)
