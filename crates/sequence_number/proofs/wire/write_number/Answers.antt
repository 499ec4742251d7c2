use Prim.Native.Nat.{ℕ, ◌≤◌}
use mathlib.Core.Path.{◌≡◌, subst}
use native.Mathlib.Omega.{arith}
use lib.ListN.{length}
use Rattle.std.specs.Prelude.{Ok}
use Rattle.sequence_number.specs.NumberWire.{Writes}
use Rattle.sequence_number.proofs.NumberWireLaws.{write_done}
use Rattle.sequence_number.proofs.wire.write_number.Goals as goal

pub returns : goal.returns
returns g c =
    let k = g.N.Number.kind in
    let size : ◌≡◌ {A = ℕ} k.size g.N.Number.SIZE = g.met.N.Number.size_is in
    let room : k.size ≤ length c.args.out.now = omega (arith, c.if-out-SIZE.false, c.SIZE.ensures) in
    subst (λ (m : ℕ). Writes k c.args.o c.args.n c.args.out.now (Ok m) c.write.new.out) (omega (arith, size, c.SIZE-2.ensures))
    (write_done k g.met.N.Number.laws c.args.o c.args.n c.args.out.now c.write.new.out room c.write.ensures)
