-- What a call of another number, and a cleaning, do to a block in reliable mode: they leave it. Assumes nothing.
use Prim.Native.Nat.{ℕ, ◌+◌, ◌*◌, ◌≤◌, ◌<◌}
use native.Mathlib.Omega.{arith}
use mathlib.Core.Path.{◌≡◌, refl, sym, ap, subst, ◌∙◌}
use mathlib.Core.Bool.{Bool, true}
use mathlib.Core.Logic.{⊎_elim}
use mathlib.Core.List.{List}
use lib.ListN.{length, set, length-set}
use lib.Seq.{get_or-set_other}
use Rattle.assembly_record.specs.Sizes.{place_count}
use Rattle.outcome.proofs.Split.{split, split_lt}
use Rattle.fragment_assembler.proofs.CallLaws.{settle_kept, settle_dropped, end_whole, end_not, begun, ran_other}
use Rattle.assembly_record.proofs.SweepLaws.{at_sweep, swept_either, swept_late}
use Rattle.fragment_assembler.proofs.RefusalLaws.{Passed}
use Rattle.assembly_record.proofs.RulesLaws.{rests_size}
use Rattle.assembly_record.proofs.TableLaws.{at_set, lower_but, find_hit, highest_found, find_miss, highest_ge, each_set, place_number}
use Rattle.fragment_assembler.specs.Call.{drop_if_full, Ending, finish_work, Work, accepted_fragment, run_work, begin_work}
use Rattle.assembly_record.specs.Table.{victim, lower, find, highest_of}
use Rattle.assembly_record.specs.Fragments.{is_whole}
use Rattle.assembly_record.specs.Stale.{sweep}
use Rattle.assembly_record.specs.Marks.{marked}
use Rattle.fragment_assembler.specs.Fragment.{Fragment, head_of, run_of}
use Rattle.assembly_record.specs.Rules.{AssemblerRules}
use Rattle.no_starvation.specs.Starve.{Stretch}
use Rattle.assembly_record.specs.State.{Place, place_at, Assembler, free_place, with_places}
use Rattle.no_starvation.proofs.BlockStands.{Seated, Absent, Alone}

-- ---- one number is dropped, and it is not N

alone_set : (N i : ℕ) (ps : List Place) (s : ℕ) (q : Place) → Alone N i ps → (q.number ≡ N → ⊥) → Alone N i (set ps s q)
alone_set N i ps s q al ne j e =
    ⊎_elim (λ w. absurd (ne (ap place_number (sym w.0) ∙ e))) (λ k. al j (ap place_number (sym k) ∙ e)) (at_set ps s q j)

-- if N were the highest of 129, 128 lower numbers would be in assembly
not_highest : (N i : ℕ) (ps : List Place) → 0 < N → length ps ≡ place_count → i < place_count → (place_at ps i).number ≡ N → Alone N i ps → place_count ≤ find 0 ps
    → lower N (set ps (find (highest_of ps) ps) free_place) < 128 → i ≡ find (highest_of ps) ps → ⊥
not_highest N i ps some full l e al none low q =
    omega (arith, lower_but N (set ps (find (highest_of ps) ps) free_place) (find (highest_of ps) ps) all_below, length-set ps (find (highest_of ps) ps) free_place)
  where
    n : (place_at ps i).number ≡ highest_of ps
    n = subst (λ (k : ℕ). (place_at ps k).number ≡ highest_of ps) (sym q) (find_hit (highest_of ps) ps (highest_found ps (omega arith)))

    all_below : (j : ℕ) → j < length (set ps (find (highest_of ps) ps) free_place) → (j ≡ find (highest_of ps) ps → ⊥)
        → (0 < (place_at (set ps (find (highest_of ps) ps) free_place) j).number) × ((place_at (set ps (find (highest_of ps) ps) free_place) j).number < N)
    all_below j lj ne =
        let same : place_at (set ps (find (highest_of ps) ps) free_place) j ≡ place_at ps j = get_or-set_other ps (find (highest_of ps) ps) j free_place free_place ne in
        let zero_not : (place_at ps j).number ≡ 0 → ⊥ = λ z. find_miss 0 ps j (omega (arith, length-set ps (find (highest_of ps) ps) free_place)) z in
        let n_not : (place_at ps j).number ≡ N → ⊥ = λ z. ne (al j z ∙ q) in
        subst (λ (p : Place). (0 < p.number) × (p.number < N)) (sym same) (omega (arith, zero_not), omega (arith, n_not, highest_ge ps j, n))

pub drop_keeps : (N i : ℕ) (ps : List Place) → 0 < N → length ps ≡ place_count → i < place_count → (place_at ps i).number ≡ N → Alone N i ps
    → lower N (drop_if_full true ps).places < 128 → (place_at (drop_if_full true ps).places i ≡ place_at ps i) × Alone N i (drop_if_full true ps).places
drop_keeps N i ps some full l e al low =
    ⊎_elim
    (λ t. subst (λ (x : Ending). (place_at x.places i ≡ place_at ps i) × Alone N i x.places) (sym (settle_kept true ps full t)) (refl, al))
    (λ t.
    let eq = settle_dropped true ps full t in
    let ne : i ≡ find (highest_of ps) ps → ⊥ = not_highest N i ps some full l e al t (subst (λ (x : Ending). lower N x.places < 128) eq low) in
    subst (λ (x : Ending). (place_at x.places i ≡ place_at ps i) × Alone N i x.places) (sym eq)
    (get_or-set_other ps (find (highest_of ps) ps) i free_place free_place ne, alone_set N i ps (find (highest_of ps) ps) free_place al (λ z. omega arith)))
    (split_lt (find 0 ps) place_count)

-- ---- a call of another number

settle_each : (P : Place → Type 0) (r : Bool) (ps : List Place) → length ps ≡ place_count → ((j : ℕ) → P (place_at ps j)) → P free_place → (j : ℕ) → P (place_at (drop_if_full r ps).places j)
settle_each P r ps full each f j =
    ⊎_elim
    (λ t. subst (λ (x : Ending). P (place_at x.places j)) (sym (settle_kept r ps full t)) (each j))
    (λ t. subst (λ (x : Ending). P (place_at x.places j)) (sym (settle_dropped r ps full t)) (each_set P ps (find (victim r ps) ps) free_place each f j))
    (split_lt (find 0 ps) place_count)

finish_each : (P : Place → Type 0) (a : Assembler) (w : Work) → length a.places ≡ place_count → ((j : ℕ) → P (place_at a.places j)) → P free_place → P w.place
    → (j : ℕ) → P (place_at (finish_work a w).places j)
finish_each P a w full each f h j =
    split (is_whole a.fragment_size w.place)
    (λ e. subst (λ (x : Ending). P (place_at x.places j)) (sym (end_whole a w.seat w.place e)) (each_set P a.places w.seat free_place each f j))
    (λ e.
    subst (λ (x : Ending). P (place_at x.places j)) (sym (end_not a w.seat w.place e))
    (settle_each P a.reliable (set a.places w.seat w.place) (length-set a.places w.seat w.place ∙ full)
    (each_set P a.places w.seat w.place each h) f j))

finish_keeps : (N i : ℕ) (a : Assembler) (w : Work) → 0 < N → AssemblerRules a → a.reliable ≡ true → i < place_count → (place_at a.places i).number ≡ N
    → Alone N i a.places → (i ≡ w.seat → ⊥) → (w.place.number ≡ N → ⊥) → lower N (finish_work a w).places < 128
    → (place_at (finish_work a w).places i ≡ place_at a.places i) × Alone N i (finish_work a w).places
finish_keeps N i a w some g r l e al ne nn low =
    split (is_whole a.fragment_size w.place)
    (λ t.
    subst (λ (x : Ending). (place_at x.places i ≡ place_at a.places i) × Alone N i x.places) (sym (end_whole a w.seat w.place t))
    (get_or-set_other a.places w.seat i free_place free_place ne, alone_set N i a.places w.seat free_place al (λ z. omega arith)))
    (λ t.
    let ps : List Place = set a.places w.seat w.place in
    let eq : finish_work a w ≡ drop_if_full true ps = end_not a w.seat w.place t ∙ ap (λ (b : Bool). drop_if_full b ps) r in
    let same : place_at ps i ≡ place_at a.places i = get_or-set_other a.places w.seat i w.place free_place ne in
    let k = drop_keeps N i ps some (length-set a.places w.seat w.place ∙ g.full) l (ap place_number same ∙ e)
    (alone_set N i a.places w.seat w.place al nn) (subst (λ (x : Ending). lower N x.places < 128) eq low) in
    subst (λ (x : Ending). (place_at x.places i ≡ place_at a.places i) × Alone N i x.places) (sym eq) (k.0 ∙ same, k.1))

-- the same place, after a call of another number
pub other_seated : (N : ℕ) (B : List ℕ) (a : Assembler) (area : List ℕ) (rs : List Stretch) (t i : ℕ) (c : Fragment) → 0 < N → AssemblerRules a → a.reliable ≡ true
    → Passed a (length area) (head_of c) → (c.number ≡ N → ⊥) → Seated N B a area rs t i → lower N (accepted_fragment a area c).state.places < 128
    → Seated N B (accepted_fragment a area c).state (accepted_fragment a area c).area rs t i
unfolding accepted_fragment run_work
other_seated N B a area rs t i c some g r q nn s low =
    let b = begun a area c g q in
    let w : Work = run_work a (run_of c) (begin_work a area c) in
    let ne : i ≡ (begin_work a area c).seat → ⊥ =
    (λ z. ⊎_elim (λ x. nn (sym x ∙ ap (λ (k : ℕ). (place_at a.places k).number) (sym z) ∙ s.here))
    (λ x. let y : N ≡ 0 = sym s.here ∙ ap (λ (k : ℕ). (place_at a.places k).number) z ∙ x in omega arith) b.from) in
    let k = finish_keeps N i a w some g r s.within s.here s.alone ne nn low in
    let small : length B ≤ a.place_size = subst (λ (n : ℕ). n ≤ a.place_size) s.size (rests_size a.fragment_size a.place_size (place_at a.places i) (g.each i)) in
    record {
      within = s.within;
      here = ap place_number k.0 ∙ s.here;
      alone = k.1;
      size = ap (λ (p : Place). p.size) k.0 ∙ s.size;
      time = ap (λ (p : Place). p.time) k.0 ∙ s.time;
      marks = λ j l. ap (λ (p : Place). marked p.marks j) k.0 ∙ s.marks j l;
      bytes = λ j v l h e. ran_other a area c g q (begin_work a area c) b i (j * a.fragment_size + v) (omega arith) ne ∙ s.bytes j v l h e;
    }

pub other_absent : (N : ℕ) (a : Assembler) (area : List ℕ) (c : Fragment) → 0 < N → AssemblerRules a → (c.number ≡ N → ⊥) → Absent N a.places
    → Absent N (accepted_fragment a area c).state.places
unfolding accepted_fragment run_work
other_absent N a area c some g nn ab =
    finish_each (λ (p : Place). p.number ≡ N → ⊥) a (run_work a (run_of c) (begin_work a area c)) g.full ab (λ z. omega arith) nn

-- ---- cleaning

pub clean_absent : (N cutoff : ℕ) (ps : List Place) → 0 < N → Absent N ps → Absent N (sweep cutoff ps)
clean_absent N cutoff ps some ab j =
    subst (λ (p : Place). p.number ≡ N → ⊥) (sym (at_sweep cutoff ps j))
    (swept_either (λ (p : Place). p.number ≡ N → ⊥) cutoff (place_at ps j) (λ z. omega arith) (ab j))

pub clean_seated : (N : ℕ) (B : List ℕ) (cutoff : ℕ) (a : Assembler) (area : List ℕ) (rs : List Stretch) (t i : ℕ) → 0 < N → cutoff ≤ t → Seated N B a area rs t i
    → Seated N B (with_places a (sweep cutoff a.places)) area rs t i
clean_seated N B cutoff a area rs t i some le s =
    let k : place_at (sweep cutoff a.places) i ≡ place_at a.places i =
    at_sweep cutoff a.places i ∙ swept_late cutoff (place_at a.places i) (omega (arith, s.time)) in
    record {
      within = s.within;
      here = ap place_number k ∙ s.here;
      alone = λ j.
          subst (λ (p : Place). p.number ≡ N → j ≡ i) (sym (at_sweep cutoff a.places j))
          (swept_either (λ (p : Place). p.number ≡ N → j ≡ i) cutoff (place_at a.places j) (λ z. absurd (omega arith)) (s.alone j));
      size = ap (λ (p : Place). p.size) k ∙ s.size;
      time = ap (λ (p : Place). p.time) k ∙ s.time;
      marks = λ j l. ap (λ (p : Place). marked p.marks j) k ∙ s.marks j l;
      bytes = s.bytes;
    }
