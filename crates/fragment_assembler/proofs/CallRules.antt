-- Every fragment call of `specs/Call.antt` keeps the state's rules. Assumes nothing.
use Prim.Native.Nat.{ℕ, ◌≤◌, ◌<◌}
use native.Mathlib.Omega.{arith}
use mathlib.Core.Path.{◌≡◌, refl, sym, ap, subst, ◌∙◌}
use mathlib.Core.Bool.{Bool}
use mathlib.Core.Logic.{inl, inr, ⊎_elim}
use mathlib.Core.List.{List}
use lib.ListN.{length, set, length-set}
use lib.Seq.{get_or-set_same}
use borrow.Author.Tests.{ltb-true, ltb-false}
use Rattle.assembly_record.specs.Sizes.{place_count}
use Rattle.outcome.proofs.Split.{split, split_lt, split_eq}
use Rattle.fragment_assembler.proofs.RefusalLaws.{Passed, passed}
use Rattle.assembly_record.proofs.TableLaws.{count_spare, find_hit, place_number, at_set, how_many_lacks, each_set, find_miss, inside_at}
use Rattle.fragment_assembler.specs.Call.{begin_work, drop_if_full, finish_work, Work, fragment, accepted_fragment, run_work, Ending, FragmentReply}
use Rattle.assembly_record.specs.Table.{victim, has_number, find, in_assembly, is_taken}
use Rattle.assembly_record.specs.Fragments.{is_whole}
use Rattle.fragment_assembler.specs.Fragment.{Fragment, head_of, run_of}
use Rattle.fragment_assembler.specs.Refusal.{fragment_refusal}
use Rattle.assembly_record.specs.Rules.{Sample, AssemblerRules, Distinct, Rests}
use Rattle.assembly_record.specs.State.{Assembler, Place, free_place, place_at}
use Rattle.fragment_assembler.proofs.CallLaws.{begin_known, begun, end_not, end_whole, fragment_accepted, fragment_refused, ran_sample, settle_dropped, settle_kept, victim_found}

-- ---- the end of a call: the rules hold again

record Places (f p : ℕ) (ps : List Place) : Type 0 where
  full : length ps ≡ place_count
  few : in_assembly ps ≤ 128
  once : Distinct ps
  each : (i : ℕ) → Rests f p (place_at ps i)

-- the only place of q's number, if any, is s
abbrev Only : List Place → ℕ → Place → Type 0
Only ps s q = (j : ℕ) → 0 < q.number → (place_at ps j).number ≡ q.number → j ≡ s

pub distinct_set : (ps : List Place) (s : ℕ) (q : Place) → Distinct ps → Only ps s q → Distinct (set ps s q)
distinct_set ps s q d o i j p e =
    ⊎_elim
    (λ a.
    ⊎_elim (λ b. a.1 ∙ sym b.1)
    (λ b. a.1 ∙ sym (o j (subst (λ (x : Place). 0 < x.number) a.0 p) (ap place_number (sym b) ∙ sym e ∙ ap place_number a.0))) (at_set ps s q j))
    (λ a.
    ⊎_elim
    (λ b. o i (subst (λ (x : Place). 0 < x.number) b.0 (omega arith)) (ap place_number (sym a) ∙ e ∙ ap place_number b.0) ∙ sym b.1)
    (λ b. d i j (subst (λ (x : Place). 0 < x.number) a p) (ap place_number (sym a) ∙ e ∙ ap place_number b)) (at_set ps s q j))
    (at_set ps s q i)

module _ (f p : ℕ) where
  freed : (ps : List Place) (i : ℕ) → length ps ≡ place_count → Distinct ps → ((j : ℕ) → Rests f p (place_at ps j)) → i < place_count → Places f p (set ps i free_place)
  freed ps i full once each l =
      record {
        full = length-set ps i free_place ∙ full;
        few =
            omega (
              arith,
              how_many_lacks is_taken (set ps i free_place) i (omega (arith, length-set ps i free_place)) (ap is_taken (get_or-set_same ps i free_place free_place (omega arith))),
              length-set ps i free_place,
            );
        once = distinct_set ps i free_place once (λ j h e. absurd (omega arith));
        each = each_set (Rests f p) ps i free_place each (inl refl);
      }

  settled : (r : Bool) (ps : List Place) → length ps ≡ place_count → Distinct ps → ((j : ℕ) → Rests f p (place_at ps j)) → Places f p (drop_if_full r ps).places
  settled r ps full once each =
      ⊎_elim
      (λ l.
      subst (λ (x : Ending). Places f p x.places) (sym (settle_kept r ps full l))
      (record { full = full; few = omega (arith, count_spare ps (omega arith)); once = once; each = each }))
      (λ l.
      subst (λ (x : Ending). Places f p x.places) (sym (settle_dropped r ps full l))
      (freed ps (find (victim r ps) ps) full once each (omega (arith, victim_found r ps (omega arith)))))
      (split_lt (find 0 ps) place_count)

finished : (a : Assembler) (w : Work) → AssemblerRules a → w.seat < place_count → Only a.places w.seat w.place → Sample a.fragment_size a.place_size w.place
    → Places a.fragment_size a.place_size (finish_work a w).places
finished a w g l o s =
    split (is_whole a.fragment_size w.place)
    (λ e.
    subst (λ (x : Ending). Places a.fragment_size a.place_size x.places) (sym (end_whole a w.seat w.place e))
    (freed a.fragment_size a.place_size a.places w.seat g.full g.once g.each l))
    (λ e.
    subst (λ (x : Ending). Places a.fragment_size a.place_size x.places) (sym (end_not a w.seat w.place e))
    (settled a.fragment_size a.place_size a.reliable (set a.places w.seat w.place) (length-set a.places w.seat w.place ∙ g.full)
    (distinct_set a.places w.seat w.place g.once o)
    (each_set (Rests a.fragment_size a.place_size) a.places w.seat w.place g.each (inr (s, e)))))

pub accepted_ok : (a : Assembler) (area : List ℕ) (c : Fragment) → AssemblerRules a → Passed a (length area) (head_of c) → AssemblerRules (accepted_fragment a area c).state
unfolding accepted_fragment run_work has_number
accepted_ok a area c g q =
    let h = begun a area c g q in
    let k = finished a (run_work a (run_of c) (begin_work a area c)) g h.within only (ran_sample a area c g q (begin_work a area c) h) in
    record { some = g.some; fragment_size = g.fragment_size; least = g.least; place_size = g.place_size; full = k.full; few = k.few; once = k.once; each = k.each }
  where
    only : (j : ℕ) → 0 < c.number → (place_at a.places j).number ≡ c.number → j ≡ (begin_work a area c).seat
    only j p e =
        split (has_number a.places c.number)
        (λ t.
        g.once j (find c.number a.places) (omega arith) (e ∙ sym (find_hit c.number a.places (ltb-true _ _ t)))
        ∙ ap (λ (w : Work). w.seat) (sym (begin_known a area c t)))
        (λ t.
        let l : length a.places ≤ find c.number a.places = ltb-false _ _ t in
        absurd (find_miss c.number a.places j (omega (arith, inside_at a.places j (omega arith))) e))

-- every call keeps the state's rules
pub fragment_ok : (a : Assembler) (area : List ℕ) (c : Fragment) → AssemblerRules a → AssemblerRules (fragment a area c).state
fragment_ok a area c g =
    ⊎_elim
    (λ e. subst (λ (o : FragmentReply). AssemblerRules o.state) (sym (fragment_accepted a area c e)) (accepted_ok a area c g (passed a (length area) (head_of c) e)))
    (λ e. subst (λ (o : FragmentReply). AssemblerRules o.state) (sym (fragment_refused a area c e)) g)
    (split_eq (fragment_refusal a (length area) (head_of c)) 0)
