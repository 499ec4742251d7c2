-- Others can't starve a block (demand 3): the invariant of a chain of calls, and the theorem. Assumes nothing.
use Prim.Native.Nat.{ℕ, ◌≤◌, ◌<◌}
use native.Mathlib.Omega.{arith}
use mathlib.Core.Path.{◌≡◌, refl, sym, ap, subst, ◌∙◌}
use mathlib.Core.Bool.{Bool, true, false}
use mathlib.Core.Logic.{inl, inr, ⊎_elim}
use mathlib.Core.List.{List, ◌∷◌}
use lib.ListN.{length, set}
use lib.IntN.{ℤ}
use borrow.Author.Tests.{ne_eqb}
use Rattle.assembly_record.specs.Sizes.{place_count}
use Rattle.outcome.proofs.Split.{split, split_lt, split_eq, clash}
use Rattle.fragment_assembler.proofs.CallLaws.{fragment_accepted, fragment_refused}
use Rattle.fragment_assembler.proofs.CallRules.{accepted_ok}
use Rattle.assembly_record.proofs.SweepLaws.{sweep_ok}
use Rattle.fragment_assembler.proofs.CleanLaws.{clean_cases}
use Rattle.no_starvation.proofs.BlockStands.{Absent, Stands}
use Rattle.no_starvation.proofs.OtherLaws.{other_seated, other_absent, clean_absent, clean_seated}
use Rattle.no_starvation.proofs.OwnLaws.{delivers, own_seated}
use Rattle.fragment_assembler.proofs.PlacingLaws.{ends_returned, ends_drops, ends_keeps}
use Rattle.fragment_assembler.proofs.RefusalLaws.{passed}
use Rattle.assembly_record.proofs.TableLaws.{query_finds, inside_at}
use Rattle.fragment_assembler.specs.Call.{fragment, accepted_fragment, run_work, begin_work, FragmentReply}
use Rattle.assembly_record.specs.Table.{lower, in_assembly, is_partially_received}
use Rattle.assembly_record.specs.Fragments.{is_whole}
use Rattle.fragment_assembler.specs.Clean.{clean, CleanReply}
use Rattle.assembly_record.specs.Stale.{stale_numbers}
use Rattle.fragment_assembler.specs.Fragment.{Fragment, head_of, run_of}
use Rattle.fragment_assembler.specs.Refusal.{fragment_refusal}
use Rattle.assembly_record.specs.Rules.{AssemblerRules}
use Rattle.no_starvation.specs.Starve.{Stretch, other, moment_after, own, Cut, start, stretch_of, returns, Delivered, Moment, Event, Other, Bounded, arrives, cleans, looks, Chain, TakenAt, answer_of}
use Rattle.assembly_record.specs.State.{place_at, Assembler}

-- ---- the chain keeps the invariant

record Inv (N : ℕ) (B : List ℕ) (a : Assembler) (area : List ℕ) (rs : List Stretch) (t : ℕ) : Type 0 where
  ok : AssemblerRules a
  reliable : a.reliable ≡ true
  state : Stands N B a area rs t

abbrev InvO : ℕ → List ℕ → FragmentReply → List Stretch → ℕ → Type 0
InvO N B o rs t = Inv N B o.state o.area rs t

inv_own : (N : ℕ) (B : List ℕ) (a : Assembler) (area : List ℕ) (rs : List Stretch) (t : ℕ) (c : Fragment) → Inv N B a area rs t → c.number ≡ N
    → fragment_refusal a (length area) (head_of c) ≡ 0 → Cut a.fragment_size B c → returns N (fragment a area c).answer ≡ false → lower N (fragment a area c).state.places < 128
    → InvO N B (fragment a area c) (stretch_of c ∷ rs) c.time
unfolding accepted_fragment
inv_own N B a area rs t c v cn ok cut silent low =
    let eq = fragment_accepted a area c ok in
    let e = sym (delivers N B a area rs t c v.ok v.reliable v.state cn ok cut).exactly ∙ silent in
    subst (λ (o : FragmentReply). InvO N B o (stretch_of c ∷ rs) c.time) (sym eq)
    (record {
      ok = accepted_ok a area c v.ok (passed a (length area) (head_of c) ok);
      reliable = v.reliable;
      state = inr ((begin_work a area c).seat, own_seated N B a area rs t c v.ok v.reliable v.state cn ok cut e (subst (λ (o : FragmentReply). lower N o.state.places < 128) eq low));
    })

inv_refused : (N : ℕ) (B : List ℕ) (a : Assembler) (area : List ℕ) (rs : List Stretch) (t : ℕ) (c : Fragment) → Inv N B a area rs t
    → (fragment_refusal a (length area) (head_of c) ≡ 0 → ⊥) → InvO N B (fragment a area c) rs t
inv_refused N B a area rs t c v nz = subst (λ (o : FragmentReply). InvO N B o rs t) (sym (fragment_refused a area c nz)) v

inv_other : (N : ℕ) (B : List ℕ) (a : Assembler) (area : List ℕ) (rs : List Stretch) (t : ℕ) (c : Fragment) → 0 < N → Inv N B a area rs t → (c.number ≡ N → ⊥)
    → lower N (fragment a area c).state.places < 128 → InvO N B (fragment a area c) rs t
unfolding accepted_fragment
inv_other N B a area rs t c some v nn low =
    ⊎_elim
    (λ ok.
    let eq = fragment_accepted a area c ok in
    let p = passed a (length area) (head_of c) ok in
    subst (λ (o : FragmentReply). InvO N B o rs t) (sym eq)
    (record {
      ok = accepted_ok a area c v.ok p;
      reliable = v.reliable;
      state =
          ⊎_elim (λ x. inl (x.0, other_absent N a area c some v.ok nn x.1))
          (λ x.
          inr (
            x.0,
            other_seated N B a area rs t x.0 c some v.ok v.reliable p nn x.1
                (subst (λ (o : FragmentReply). lower N o.state.places < 128) eq low),
          ))
          v.state;
    }))
    (λ nz. inv_refused N B a area rs t c v nz)
    (split_eq (fragment_refusal a (length area) (head_of c)) 0)

inv_clean : (N : ℕ) (B : List ℕ) (a : Assembler) (area : List ℕ) (rs : List Stretch) (t cutoff : ℕ) (out : List ℤ) → 0 < N → Inv N B a area rs t → cutoff ≤ t
    → Inv N B (clean a cutoff out).state area rs t
inv_clean N B a area rs t cutoff out some v le =
    ⊎_elim
    (λ l. subst (λ (x : CleanReply). Inv N B x.state area rs t) (sym ((clean_cases a cutoff out).0 l)) v)
    (λ l.
    subst (λ (x : CleanReply). Inv N B x.state area rs t) (sym ((clean_cases a cutoff out).1 l))
    (record {
      ok = sweep_ok cutoff a v.ok;
      reliable = v.reliable;
      state =
          ⊎_elim (λ x. inl (x.0, clean_absent N cutoff a.places some x.1))
          (λ x. inr (x.0, clean_seated N B cutoff a area rs t x.0 some le x.1)) v.state;
    }))
    (split_lt (length out) (length (stale_numbers cutoff a.places)))

inv_event : (N : ℕ) (B : List ℕ) (m : Moment) (rs : List Stretch) (t : ℕ) (e : Event) → 0 < N → Inv N B m.state m.area rs t → Other N t m e
    → Bounded N (moment_after m e) → Inv N B (moment_after m e).state (moment_after m e).area rs t
inv_event N B m rs t (arrives c) some v o low =
    ⊎_elim (λ nn. inv_other N B m.state m.area rs t c some v nn low) (λ nz. inv_refused N B m.state m.area rs t c v nz) o
inv_event N B m rs t (cleans cutoff out) some v le low = inv_clean N B m.state m.area rs t cutoff out some v le
inv_event N B m rs t looks some v o low = v

absent_start : (N : ℕ) (a : Assembler) → 0 < N → is_partially_received a.places N ≡ false → Absent N a.places
absent_start N a some e j z =
    let h : 0 < (place_at a.places j).number = omega arith in
    let y : ◌≡◌ {A = Bool} true false = sym (query_finds a.places N some (j, inside_at a.places j h, z)) ∙ e in
    clash true refl y

kept_along : {N : ℕ} {B : List ℕ} {m : Moment} {rs : List Stretch} {t : ℕ} → 0 < N → Chain N B m rs t → Inv N B m.state m.area rs t
kept_along some (start {m = m} g r ab) = record { ok = g; reliable = r; state = inl (refl, absent_start _ m.state some ab) }
kept_along some (own {m = m} {rs = rs} {time = t} h c cn ok cut silent low) =
    inv_own _ _ m.state m.area rs t c (kept_along some h) cn ok cut silent low
kept_along some (other {m = m} {rs = rs} {time = t} h e o low) = inv_event _ _ m rs t e some (kept_along some h) o low

-- ==== The theorem

-- "Whatever else arrives, the call bringing its last missing fragment returns it, if accepted; no call before does, and its bytes are the sender's."
pub not_starved : {N : ℕ} {B : List ℕ} {m : Moment} {rs : List Stretch} {time : ℕ} → Chain N B m rs time
    → (c : Fragment) → c.number ≡ N → TakenAt m c → Cut m.state.fragment_size B c → Delivered N B m rs c
not_starved {m = m} {rs = rs} {time = time} h c cn ok cut =
    let some : 0 < c.number = (passed m.state (length m.area) (head_of c) ok).low in
    let v = kept_along (subst (λ (n : ℕ). 0 < n) cn some) h in
    delivers _ _ m.state m.area rs time c v.ok v.reliable v.state cn ok cut

-- "no call before does": nor does any other call
pub others_silent : (N time : ℕ) (m : Moment) (e : Event) → AssemblerRules m.state → Other N time m e → returns N (answer_of m e) ≡ false
others_silent N time m (arrives c) g o =
    ⊎_elim
    (λ ok.
    ⊎_elim
    (λ nn.
    split (is_whole m.state.fragment_size (run_work m.state (run_of c) (begin_work m.state m.area c)).place)
    (λ t. ap (returns N) (ends_returned m.state m.area c g ok t).0 ∙ ne_eqb c.number N nn)
    (λ t.
    ⊎_elim (λ f. ap (returns N) (ends_drops m.state m.area c g ok t f).0) (λ f. ap (returns N) (ends_keeps m.state m.area c g ok t f).0)
    (split_eq (in_assembly (set m.state.places (begin_work m.state m.area c).seat (run_work m.state (run_of c) (begin_work m.state m.area c)).place)) place_count)))
    (λ nz. absurd (nz ok)) o)
    (λ nz. ap (λ (x : FragmentReply). returns N x.answer) (fragment_refused m.state m.area c nz))
    (split_eq (fragment_refusal m.state (length m.area) (head_of c)) 0)
others_silent N time m (cleans cutoff out) g o = refl
others_silent N time m looks g o = refl
