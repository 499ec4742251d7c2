-- Demand 3 of the public calls: a chain of them, by nothing but their promises, is a chain of the statement. Assumes nothing.
use Prim.Native.Nat.{ℕ}
use mathlib.Core.Path.{◌≡◌, sym, ap, subst, ◌∙◌}
use mathlib.Core.Bool.{true, false}
use mathlib.Core.Logic.{◌⊎◌, inl, inr, ⊎_elim}
use mathlib.Core.List.{List, ◌∷◌}
use lib.ListN.{length}
use lib.IntN.{ℤ}
use borrow.Author.Tests.{eqb-true, eqb-false, not-true, not-false}
use Rattle.fragment_assembler.proofs.Promises.{does_is_refused}
use Rattle.no_starvation.proofs.StarveLaws.{not_starved, others_silent}
use Rattle.fragment_assembler.specs.Call.{FragmentReply, fragment_said}
use Rattle.fragment_assembler.specs.Clean.{CleanReply}
use Rattle.fragment_assembler.specs.Promise.{TakesFragment, CleansAssembler}
use Rattle.fragment_assembler.specs.Fragment.{Fragment, head_of}
use Rattle.fragment_assembler.specs.Refusal.{fragment_refusal}
use Rattle.assembly_record.specs.Rules.{GoodAssembler}
use Rattle.no_starvation.specs.Starve.{moment_after, moment, arrives, answer_of, cleans, Stretch, ChainOfCalls, Chain, Moment, stretch_of, returns, Bounded, Cut, DeliveredByCall}
use Rattle.outcome.specs.Outcome.{is_refused}
use Rattle.fragment_assembler.specs.View.{viewed}
use Rattle.assembly_record.specs.Words.{assembler_of}
use Rattle.fragment_assembler.specs.declared.fragment.Answer.{Answer}
use Rattle.std.specs.Prelude.{Result}
use Rattle.outcome.specs.declared.Refusal.{Refusal}
use Rattle.no_starvation.specs.Starve as starve

-- ---- a call's step is the statement's

does_after : (w area : List ℕ) (c : Fragment) (r : Result Answer Refusal) (w' area' : List ℕ) → TakesFragment w area c r w' area'
    → moment_after (moment (assembler_of w) area) (arrives c) ≡ moment (assembler_of w') area'
does_after w area c r w' area' h = ap (λ (o : FragmentReply). moment o.state o.area) (sym h.same)

does_said : (w area : List ℕ) (c : Fragment) (r : Result Answer Refusal) (w' area' : List ℕ) → TakesFragment w area c r w' area'
    → answer_of (moment (assembler_of w) area) (arrives c) ≡ fragment_said r
does_said w area c r w' area' h = ap (λ (o : FragmentReply). o.answer) (sym h.same)

cleans_after : (w area : List ℕ) (cutoff : ℕ) (out : List ℤ) (r : Result ℕ Refusal) (w' : List ℕ) (out' : List ℤ) → CleansAssembler w cutoff out r w' out'
    → moment_after (moment (assembler_of w) area) (cleans cutoff out) ≡ moment (assembler_of w') area
cleans_after w area cutoff out r w' out' h = ap (λ (o : CleanReply). moment o.state area) (sym h.same)

-- accepted or refused is what the answer shows
accepted_shows : (w area : List ℕ) (c : Fragment) (r : Result Answer Refusal) (w' area' : List ℕ) → TakesFragment w area c r w' area' → is_refused (fragment_said r) ≡ false
    → fragment_refusal (assembler_of w) (length area) (head_of c) ≡ 0
accepted_shows w area c r w' area' d e = eqb-true _ _ (not-false _ (sym (does_is_refused w area c r w' area' d) ∙ e))

refused_shows : (w area : List ℕ) (c : Fragment) (r : Result Answer Refusal) (w' area' : List ℕ) → TakesFragment w area c r w' area' → is_refused (fragment_said r) ≡ true
    → fragment_refusal (assembler_of w) (length area) (head_of c) ≡ 0 → ⊥
refused_shows w area c r w' area' d e = eqb-false _ _ (not-true _ (sym (does_is_refused w area c r w' area' d) ∙ e))

chain_of : {N : ℕ} {B w area : List ℕ} {rs : List Stretch} {time : ℕ} → ChainOfCalls N B w area rs time → Chain N B (moment (assembler_of w) area) rs time
chain_of (starve.ChainOfCalls.start g r ab) = starve.Chain.start g.ok r ab
chain_of {N = N} {B = B} (starve.ChainOfCalls.own {w = w} {area = area} {rs = rs} h c r w' area' d cn ok cut silent low) =
    let e = does_after w area c r w' area' d in
    let s = does_said w area c r w' area' d in
    subst (λ (m : Moment). Chain N B m (stretch_of c ∷ rs) c.time) e
    (starve.Chain.own (chain_of h) c cn (accepted_shows w area c r w' area' d ok) cut (ap (returns N) s ∙ silent)
    (subst (Bounded N) (sym e) low))
chain_of {N = N} {B = B} (starve.ChainOfCalls.other {w = w} {area = area} {rs = rs} {time = time} h c r w' area' d o low) =
    let e = does_after w area c r w' area' d in
    let s = does_said w area c r w' area' d in
    subst (λ (m : Moment). Chain N B m rs time) e
    (starve.Chain.other (chain_of h) (arrives c)
    (⊎_elim (λ n. inl n) (λ n. inr (refused_shows w area c r w' area' d n)) o) (subst (Bounded N) (sym e) low))
chain_of {N = N} {B = B} (starve.ChainOfCalls.cleaned {w = w} {area = area} {rs = rs} {time = time} h cutoff out r w' out' d le low) =
    let e = cleans_after w area cutoff out r w' out' d in
    subst (λ (m : Moment). Chain N B m rs time) e (starve.Chain.other (chain_of h) (cleans cutoff out) le (subst (Bounded N) (sym e) low))

-- ==== The theorem, of the public calls

pub calls_not_starved : {N : ℕ} {B w area : List ℕ} {rs : List Stretch} {time : ℕ} → ChainOfCalls N B w area rs time
    → (c : Fragment) (r : Result Answer Refusal) (w' area' : List ℕ) → TakesFragment w area c r w' area' → c.number ≡ N → is_refused (fragment_said r) ≡ false → Cut (assembler_of w).fragment_size B c
    → DeliveredByCall N B w rs c r w' area'
calls_not_starved {N = N} {B = B} {w = w} {area = area} {rs = rs} h c r w' area' d cn ok cut =
    let s = does_said w area c r w' area' d in
    let e = does_after w area c r w' area' d in
    let n = not_starved (chain_of h) c cn (accepted_shows w area c r w' area' d ok) cut in
    record {
      exactly = ap (returns N) (sym s) ∙ n.exactly;
      bytes = λ t.
          let b = n.bytes t in
          (b.0, sym s ∙ b.1, ap (λ (m : Moment). viewed m.state m.area b.0 (length B)) (sym e) ∙ b.2);
    }

-- "no call before does", of every other call: one under another number, or refused, does not return N. A cleaning, and a call that only looks, return
-- nothing: their answers have no such case.
pub calls_others_silent : (N : ℕ) {w area : List ℕ} → GoodAssembler w → (c : Fragment) (r : Result Answer Refusal) (w' area' : List ℕ) → TakesFragment w area c r w' area'
    → (c.number ≡ N → ⊥) ⊎ (is_refused (fragment_said r) ≡ true) → returns N (fragment_said r) ≡ false
calls_others_silent N {w = w} {area = area} g c r w' area' d o =
    let s = does_said w area c r w' area' d in
    ap (returns N) (sym s)
    ∙ others_silent N 0 (moment (assembler_of w) area) (arrives c) g.ok
    (⊎_elim (λ n. inl n) (λ n. inr (refused_shows w area c r w' area' d n)) o)
