-- Laws of `specs/SetWire.antt`, over the kind of number: how long a set's bytes are, and that they are the two runs that the code writes. Assumes nothing.
use Prim.Native.Nat.{ℕ, ◌+◌, ◌≤◌}
use mathlib.Core.Path.{◌≡◌, ◌∙◌}
use mathlib.Core.List.{List}
use native.Mathlib.Omega.{arith}
use lib.ListN.{length, length-append}
use lib.Seq.{sets}
use Rattle.outcome.specs.Lent.{over}
use Rattle.sequence_number.specs.Kind.{Kind}
use Rattle.sequence_number.specs.Lawful.{Lawful}
use Rattle.set_words.specs.SetWords.{set_length, bits_bytes}
use Rattle.number_set.specs.SetWire.{set_bytes}
use Rattle.number_set.specs.declared.set.NumberSet.{NumberSet}
use Rattle.sequence_number.specs.declared.ByteOrder.{ByteOrder}
use Rattle.outcome.proofs.LentLaws.{sets_sets, sets_over}
use Rattle.set_words.proofs.SetWordsLaws.{length_bits}

module _ {N : Type 0} (k : Kind N) (law : Lawful k) (o : ByteOrder) (s : NumberSet N) where
  pub length_set_bytes : length (set_bytes k o s) ≡ set_length k.size s.count
  length_set_bytes =
      let a = law.length_number o s.base in
      let b = length_bits o s.count s.words in
      omega (arith, length-append (k.number_bytes o s.base) (bits_bytes o s.count s.words))

  -- the base, and then the count and its words
  pub set_written : (before l l' : List ℕ) (at : ℕ) → at ≡ k.size → set_length k.size s.count ≤ length before → l ≡ sets before 0 (k.number_bytes o s.base)
      → l' ≡ sets l at (bits_bytes o s.count s.words) → l' ≡ over (set_bytes k o s) before
  set_written before l l' at e room a b =
      let to : at ≡ 0 + length (k.number_bytes o s.base) = omega (arith, law.length_number o s.base) in
      sets_sets before l l' (k.number_bytes o s.base) (bits_bytes o s.count s.words) 0 at to a b
      ∙ sets_over (set_bytes k o s) before (omega (arith, length_set_bytes))
