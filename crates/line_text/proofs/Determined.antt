-- Two answers that a public call's promise allows are equal; `all_hex` and `front` are equations, which `equal_determined` of crate outcome serves. Assumes nothing.
use Prim.Native.Nat.{ℕ}
use mathlib.Core.Path.{◌≡◌, sym, ap, ◌∙◌}
use mathlib.Core.List.{List}
use Rattle.line_text.specs.Held.{Holding, holding, held_on}

pub hold_determined : (b : ℕ) (h : Holding) {w w' : List ℕ} {r r' : ℕ} → holding w r ≡ held_on b h → holding w' r' ≡ held_on b h → (w ≡ w') × (r ≡ r')
hold_determined b h {w} {w'} {r} {r'} p q =
    let e : holding w r ≡ holding w' r' = p ∙ sym q in
    (ap (λ (x : Holding). x.bytes) e, ap (λ (x : Holding). x.count) e)
