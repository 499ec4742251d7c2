-- Laws of `specs/NumberWire.antt`, over the kind of number: what writing comes to, and that what was written is read back. Assumes nothing.
use Prim.Native.Nat.{ℕ, ◌≤◌}
use mathlib.Core.Path.{◌≡◌, ap, ◌∙◌}
use mathlib.Core.List.{List}
use native.Mathlib.Omega.{arith}
use lib.ListN.{length, drop, length-append}
use lib.Seq.{sets}
use borrow.Author.Tests.{le-ltb}
use Rattle.outcome.specs.Outcome.{done}
use Rattle.outcome.specs.Lent.{over}
use Rattle.sequence_number.specs.Kind.{Kind}
use Rattle.sequence_number.specs.NumberWire.{read_number, Writes}
use Rattle.sequence_number.specs.declared.ByteOrder.{ByteOrder}
use Rattle.std.specs.Prelude.{Ok}
use Rattle.outcome.proofs.LentLaws.{sets_over}
use Rattle.sequence_number.specs.Lawful.{Lawful, ReadsBack}

module _ {N : Type 0} (k : Kind N) (law : Lawful k) (o : ByteOrder) (n : N) (before : List ℕ) where
  pub write_done : (after : List ℕ) → k.size ≤ length before → after ≡ sets before 0 (k.number_bytes o n)
      → Writes k o n before (Ok k.size) after
  write_done after h e =
      let l = law.length_number o n in
      record {
        answer = rw (le-ltb (length before) k.size h);
        bytes = rw (le-ltb (length before) k.size h) (e ∙ sets_over (k.number_bytes o n) before (omega arith));
      }

  -- reading what was written gives the number back
  pub read_written : (Valid : N → Type 0) → ReadsBack k Valid → k.size ≤ length before → Valid n → read_number k o (over (k.number_bytes o n) before) ≡ done n
  read_written Valid back h v =
      let l = law.length_number o n in
      let m : k.size ≤ length (over (k.number_bytes o n) before) = omega (arith, length-append (k.number_bytes o n) (drop (length (k.number_bytes o n)) before)) in
      rw (le-ltb (length (over (k.number_bytes o n) before)) k.size m) (ap done (back o n (drop (length (k.number_bytes o n)) before) v))
