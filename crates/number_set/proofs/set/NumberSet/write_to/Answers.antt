-- `number_set::set::NumberSet::write_to` meets its contract: the base, and then the count and its words, are one run.
-- Assumes nothing.
use native.Mathlib.Omega.{arith}
use mathlib.Core.Path.{◌≡◌}
use lib.ListN.{length}
use Prim.Native.Nat.{ℕ, ◌≤◌}
use borrow.Author.Rules.{rules}
use Rattle.outcome.specs.Lent.{over}
use Rattle.set_words.specs.SetWords.{set_length}
use Rattle.number_set.specs.SetWire.{set_bytes}
use Rattle.number_set.proofs.SetWireLaws.{set_written}
use Rattle.number_set.proofs.set.NumberSet.write_to.Goals as goal

pub returns : goal.returns
returns g c =
    let k = g.N.Number.kind in
    let a = c.args in
    let size : ◌≡◌ {A = ℕ} k.size g.N.Number.SIZE = g.met.N.Number.size_is in
    let room : set_length k.size a.self.count ≤ length a.out.now = search rules in
    let w : c.write_bits.new.out ≡ over (set_bytes k a.o a.self) a.out.now =
    set_written k g.met.N.Number.laws a.o a.self a.out.now _ _ _ (omega arith) room c.write.ensures c.write_bits.ensures in
    record { answer = search rules; bytes = search rules }
