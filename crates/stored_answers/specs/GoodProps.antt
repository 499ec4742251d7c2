-- The rules of the two records have at most one proof, which the ghost fields of `ProxyCalls` and `AssemblerCalls` ask for (a ghost field reads only specs/). Assumes nothing.
use Rattle.std.proofs.Common.{◌≡◌, ℕ, suc, List, [], ◌∷◌, ap, arith}
use Rattle.std.proofs.Math.Logic.{◌⊎◌, inl, inr}
use Rattle.std.specs.Coded.{Unit-prop}
use Rattle.std.proofs.Props.{props}
use Rattle.proxy_record.specs.Entries.{Entry, RisingEntries}
use Rattle.proxy_record.specs.Rules.{GoodProxy}
use Rattle.assembly_record.specs.State.{Place}
use Rattle.assembly_record.specs.Rules.{Rests, GoodAssembler}

RisingEntries-prop : (lo hi : ℕ) (es : List Entry) → IsProp (RisingEntries lo hi es)
RisingEntries-prop lo hi [] = Unit-prop
RisingEntries-prop lo hi (x ∷ l) = let rest : IsProp (RisingEntries (suc x.number) hi l) = RisingEntries-prop (suc x.number) hi l in Prim.hlevel props

pub GoodProxy-prop : (w : List ℕ) → IsProp (GoodProxy w)
GoodProxy-prop w = Prim.hlevel (props, RisingEntries-prop)

⊎-prop : {A B : Type 0} → IsProp A → IsProp B → (A → B → ⊥) → IsProp (A ⊎ B)
⊎-prop pa pb apart (inl a) (inl b) = ap inl (pa a b)
⊎-prop pa pb apart (inl a) (inr b) = absurd (apart a b)
⊎-prop pa pb apart (inr a) (inl b) = absurd (apart b a)
⊎-prop pa pb apart (inr a) (inr b) = ap inr (pb a b)

-- a free place has the number 0
Rests-prop : (f p : ℕ) (q : Place) → IsProp (Rests f p q)
Rests-prop f p q = ⊎-prop (Prim.hlevel props) (Prim.hlevel props) (λ e s. let z : q.number ≡ 0 = ap (λ (x : Place). x.number) e in omega (arith, z, s.0.low))

pub GoodAssembler-prop : (w : List ℕ) → IsProp (GoodAssembler w)
GoodAssembler-prop w = Prim.hlevel (props, Rests-prop)
