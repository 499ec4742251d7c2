-- Where the bytes of an accepted call lie, and what its answer says: the laws behind the theorems of `proofs/Promises.antt`. Assumes nothing.
use Prim.Native.Nat.{ℕ, ◌+◌, ◌*◌, ◌-◌, ◌≤◌, ◌<◌}
use native.Mathlib.Omega.{arith}
use native.Mathlib.Nat.{mul-le-mul_right}
use mathlib.Core.Path.{◌≡◌, refl, ap, subst, ◌∙◌}
use mathlib.Core.Bool.{true, false, cond, ◌||◌}
use mathlib.Core.Logic.{◌⊎◌, inl, inr, ⊎_elim}
use mathlib.Core.List.{List}
use lib.ListN.{length, get_or, set, take, drop, replicate, length-replicate, get_or-replicate}
use lib.Seq.{paste}
use borrow.Author.Tests.{le-leb, eq-eqb, ne_eqb}
use Rattle.assembly_record.specs.Sizes.{place_count}
use Rattle.outcome.specs.Outcome.{done}
use Rattle.outcome.proofs.Split.{split, split_eq}
use Rattle.assembly_record.proofs.AreaLaws.{paste_left, paste_right, paste_in}
use Rattle.fragment_assembler.proofs.CallLaws.{Begun, begun, fragment_accepted, fragment_fixed, begin_known, begin_fresh, ran_long, run_long, inside, run_within, end_whole, end_not}
use Rattle.assembly_record.proofs.MarksLaws.{marked_run}
use Rattle.fragment_assembler.proofs.RefusalLaws.{Passed, passed}
use Rattle.fragment_assembler.specs.Call.{fragment, run_work, Work, begin_work, accepted_fragment, FragmentReply, opened_work, run_length, run_at, finish_work, Ending, returned, dropped, drop_if_full, kept}
use Rattle.assembly_record.specs.Fragments.{is_whole, first_byte, end_byte}
use Rattle.assembly_record.specs.Table.{victim, in_assembly, has_number, find}
use Rattle.assembly_record.specs.Marks.{marked, covers}
use Rattle.fragment_assembler.specs.Fragment.{Fragment, head_of, run_of}
use Rattle.fragment_assembler.specs.Refusal.{fragment_refusal}
use Rattle.assembly_record.specs.Rules.{AssemblerRules}
use Rattle.assembly_record.specs.State.{Assembler, free_place, Place}
use Rattle.fragment_assembler.specs.View.{viewed}

-- ---- bytes outside a paste, either side

outside : (d : List ℕ) (i : ℕ) (s : List ℕ) (n : ℕ) → i + n ≤ length d → n ≤ length s → (x : ℕ) → (x < i) ⊎ (i + n ≤ x)
    → get_or (paste d i s n) x 0 ≡ get_or d x 0
outside d i s n hd hs x h = ⊎_elim (λ l. paste_left d i s n hd hs x l) (λ l. paste_right d i s n hd hs x l) h

-- a byte of fragment k, where the run of n fragments from s, counted from 0, has it
in_fragment : (s n k f b : ℕ) → s ≤ k - 1 → k ≤ s + n → (k - 1) * f ≤ b → b < k * f → (s * f ≤ b) × (b < s * f + n * f)
in_fragment s n k f b h l lo hi = (omega (arith, mul-le-mul_right f h), omega (arith, mul-le-mul_right f l))

module _ (a : Assembler) (area : List ℕ) (c : Fragment) (g : AssemblerRules a) (e : fragment_refusal a (length area) (head_of c) ≡ 0) where
  abbrev start : Work
  start = begin_work a area c

  pass : Passed a (length area) (head_of c)
  pass = passed a (length area) (head_of c) e

  work : Begun a area c (begin_work a area c)
  work = begun a area c g pass

  area_is : (fragment a area c).area ≡ (run_work a (run_of c) (begin_work a area c)).area
  unfolding accepted_fragment
  area_is = ap (λ (o : FragmentReply). o.area) (fragment_accepted a area c e)

  pub placed_seat : (start.seat < place_count) × (start.seat ≡ cond (has_number a.places c.number) (find c.number a.places) (find 0 a.places))
  placed_seat = (
    work.within,
    split (has_number a.places c.number) (λ t. ap (λ (x : Work). x.seat) (begin_known a area c t) ∙ rw t)
        (λ t. ap (λ (x : Work). x.seat) (begin_fresh a area c t) ∙ rw t),
  )

  pub placed_long : length (fragment a area c).area ≡ length area
  placed_long = ap length area_is ∙ ran_long a area c g pass start work

  pub placed_run : (j : ℕ) → j < run_length a (run_of c) start → get_or (fragment a area c).area (run_at a (run_of c) start + j) 0 ≡ get_or c.payload j 0
  unfolding run_work
  placed_run j h =
      ap (λ (l : List ℕ). get_or l (run_at a (run_of c) start + j) 0) area_is
      ∙ paste_in start.area (run_at a (run_of c) start) c.payload (run_length a (run_of c) start) (run_long a area c g pass start work) (omega arith) j h

  pub placed_fragment : (k b : ℕ) → c.start ≤ k → k < c.start + c.count → first_byte k a.fragment_size ≤ b → b < end_byte k a.fragment_size start.place.size
      → b - first_byte c.start a.fragment_size < length c.payload
      → get_or (fragment a area c).area (start.seat * a.place_size + b) 0 ≡ get_or c.payload (b - first_byte c.start a.fragment_size) 0
  placed_fragment k b lo hi h l p =
      let i = in_fragment (c.start - 1) c.count k a.fragment_size b (omega arith) (omega (arith, work.ok.start)) h (omega arith) in
      let at : start.seat * a.place_size + b ≡ run_at a (run_of c) start + (b - first_byte c.start a.fragment_size) = omega (arith, i.0) in
      ap (λ (x : ℕ). get_or (fragment a area c).area x 0) at
      ∙ placed_run (b - first_byte c.start a.fragment_size) (omega (arith, i.0, i.1))

  -- outside the run the area is what it was after the opening
  outside_run : (x : ℕ) → (x < run_at a (run_of c) start) ⊎ (run_at a (run_of c) start + run_length a (run_of c) start ≤ x) → get_or (fragment a area c).area x 0 ≡ get_or start.area x 0
  unfolding run_work
  outside_run x h =
      ap (λ (l : List ℕ). get_or l x 0) area_is
      ∙ outside start.area (run_at a (run_of c) start) c.payload (run_length a (run_of c) start) (run_long a area c g pass start work) (omega arith) x h

  pub placed_others : has_number a.places c.number ≡ true → (x : ℕ) → (x < run_at a (run_of c) start) ⊎ (run_at a (run_of c) start + run_length a (run_of c) start ≤ x)
      → get_or (fragment a area c).area x 0 ≡ get_or area x 0
  placed_others t x h = outside_run x h ∙ ap (λ (y : Work). get_or y.area x 0) (begin_known a area c t)

  module _ (t : has_number a.places c.number ≡ false) where
    is_fresh : start ≡ opened_work a area c
    is_fresh = begin_fresh a area c t

    seat_is : start.seat ≡ find 0 a.places
    seat_is = ap (λ (y : Work). y.seat) is_fresh

    size_is : start.place.size ≡ c.data_size
    size_is = ap (λ (y : Work). y.place.size) is_fresh

    zeros : c.data_size ≤ length {A = ℕ} (replicate c.data_size 0)
    zeros = omega (arith, length-replicate {A = ℕ} c.data_size 0)

    fits : find 0 a.places * a.place_size + c.data_size ≤ length area
    fits =
        inside a.place_size (find 0 a.places) (length area) c.data_size (subst (λ (s : ℕ). s < place_count) seat_is work.within) (pass.new t).most pass.long

    pub placed_zero : (b : ℕ) → b < c.data_size
        → (b < first_byte c.start a.fragment_size) ⊎ (first_byte c.start a.fragment_size + run_length a (run_of c) start ≤ b)
        → get_or (fragment a area c).area (start.seat * a.place_size + b) 0 ≡ 0
    placed_zero b l h =
        outside_run (start.seat * a.place_size + b) (⊎_elim (λ k. inl (omega arith)) (λ k. inr (omega arith)) h)
        ∙ ap (λ (y : Work). get_or y.area (y.seat * a.place_size + b) 0) is_fresh
        ∙ paste_in area (find 0 a.places * a.place_size) (replicate c.data_size 0) c.data_size fits zeros b l
        ∙ get_or-replicate c.data_size b 0 0 l

    pub placed_others_opening : (x : ℕ) → (x < start.seat * a.place_size) ⊎ (start.seat * a.place_size + c.data_size ≤ x)
        → get_or (fragment a area c).area x 0 ≡ get_or area x 0
    placed_others_opening x h =
        let s : start.seat * a.place_size ≡ find 0 a.places * a.place_size = ap (λ (k : ℕ). k * a.place_size) seat_is in
        outside_run x (⊎_elim (λ k. inl (omega arith)) (λ k. inr (omega (arith, run_within a area c g pass start work, size_is))) h)
        ∙ ap (λ (y : Work). get_or y.area x 0) is_fresh
        ∙ outside area (find 0 a.places * a.place_size) (replicate c.data_size 0) c.data_size fits zeros x
        (⊎_elim (λ k. inl (omega arith)) (λ k. inr (omega arith)) h)

  -- ---- what the answer says

  pub ran_as : ((run_work a (run_of c) start).place.number ≡ c.number) × ((run_work a (run_of c) start).place.time ≡ c.time)
      × ((j : ℕ) → marked (run_work a (run_of c) start).place.marks j ≡ marked start.place.marks j || covers (c.start - 1) c.count j)
  unfolding run_work
  ran_as = (
    refl,
    refl,
    λ j. marked_run start.place.marks (c.start - 1) c.count j work.sample.long (omega (arith, work.ok.fits, work.sample.few)),
  )

  abbrev worked : Work
  worked = run_work a (run_of c) (begin_work a area c)

  ends_as_finish : (s : Ending) → finish_work a (run_work a (run_of c) (begin_work a area c)) ≡ s
      → ((fragment a area c).answer ≡ done s.answer) × ((fragment a area c).state.places ≡ s.places)
  unfolding accepted_fragment
  ends_as_finish s h = (
    ap (λ (o : FragmentReply). o.answer) (fragment_accepted a area c e) ∙ ap (λ (x : Ending). done x.answer) h,
    ap (λ (o : FragmentReply). o.state.places) (fragment_accepted a area c e) ∙ ap (λ (x : Ending). x.places) h,
  )

  pub ends_returned : is_whole a.fragment_size worked.place ≡ true
      → ((fragment a area c).answer ≡ done (returned c.number start.seat start.place.size)) × ((fragment a area c).state.places ≡ set a.places start.seat free_place)
  unfolding run_work
  ends_returned t = ends_as_finish _ (end_whole a worked.seat worked.place t)

  abbrev table : List Place
  table = set a.places start.seat worked.place

  pub ends_drops : is_whole a.fragment_size worked.place ≡ false → in_assembly table ≡ place_count
      → ((fragment a area c).answer ≡ done (dropped (victim a.reliable table)))
      × ((fragment a area c).state.places ≡ set table (find (victim a.reliable table) table) free_place)
  unfolding run_work drop_if_full
  ends_drops t h = ends_as_finish _ (end_not a worked.seat worked.place t ∙ rw (eq-eqb (in_assembly table) place_count h))

  pub ends_keeps : is_whole a.fragment_size worked.place ≡ false → (in_assembly table ≡ place_count → ⊥)
      → ((fragment a area c).answer ≡ done kept) × ((fragment a area c).state.places ≡ table)
  unfolding run_work drop_if_full
  ends_keeps t h = ends_as_finish _ (end_not a worked.seat worked.place t ∙ rw (ne_eqb (in_assembly table) place_count h))

  pub ends_dropped_only : (n : ℕ) → (fragment a area c).answer ≡ done (dropped n)
      → (is_whole a.fragment_size worked.place ≡ false) × (in_assembly table ≡ place_count) × (n ≡ victim a.reliable table)
  ends_dropped_only n h =
      split (is_whole a.fragment_size worked.place)
      (λ t. let k = (ends_returned t).0 in let z : ◌≡◌ {A = ℕ} 0 1 = cc in absurd (omega arith))
      (λ t.
      ⊎_elim (λ f. let k = (ends_drops t f).0 in (t, f, cc))
      (λ f. let k = (ends_keeps t f).0 in let z : ◌≡◌ {A = ℕ} 0 1 = cc in absurd (omega arith)) (split_eq (in_assembly table) place_count))

  pub ends_returned_only : (n i d : ℕ) → (fragment a area c).answer ≡ done (returned n i d)
      → (is_whole a.fragment_size worked.place ≡ true) × (n ≡ c.number) × (i ≡ start.seat) × (d ≡ start.place.size)
  ends_returned_only n i d h =
      split (is_whole a.fragment_size worked.place)
      (λ t. let k = (ends_returned t).0 in (t, cc, cc, cc))
      (λ t.
      ⊎_elim (λ f. let k = (ends_drops t f).0 in let z : ◌≡◌ {A = ℕ} 0 1 = cc in absurd (omega arith))
      (λ f. let k = (ends_keeps t f).0 in let z : ◌≡◌ {A = ℕ} 0 1 = cc in absurd (omega arith)) (split_eq (in_assembly table) place_count))

  -- the place of a returned sample lies in the area, and the view on the state that the call left shows it
  pub returned_inside : (n i d : ℕ) → (fragment a area c).answer ≡ done (returned n i d) → i * a.place_size + d ≤ length (fragment a area c).area
  returned_inside n i d h =
      let k = ends_returned_only n i d h in
      rw (k.2, k.3) (omega (arith, inside a.place_size start.seat (length area) start.place.size work.within work.sample.most pass.long, placed_long))

  pub shown_whole : (n i d : ℕ) → (fragment a area c).answer ≡ done (returned n i d)
      → viewed (fragment a area c).state (fragment a area c).area i d ≡ take d (drop (i * a.place_size) (fragment a area c).area)
  unfolding viewed
  shown_whole n i d h =
      rw ((fragment_fixed a area c).place_size, le-leb (i * a.place_size + d) (length (fragment a area c).area) (returned_inside n i d h))
