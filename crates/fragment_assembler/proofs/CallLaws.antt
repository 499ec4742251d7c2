-- Laws of `specs/Call.antt`: the cases of a call, the place that it works on, and that no other place's bytes change. Assumes nothing.
use Prim.Native.Nat.{ℕ, ◌+◌, ◌*◌, ◌-◌, ◌≤◌, ◌<◌}
use native.Mathlib.Omega.{arith}
use native.Mathlib.Nat.{mul-le-mul_right}
use mathlib.Core.Path.{◌≡◌, refl, sym, ap, subst, ◌∙◌}
use mathlib.Core.Bool.{Bool, true, false, ◌||◌}
use mathlib.Core.Logic.{◌⊎◌, inl, inr, ⊎_elim}
use mathlib.Core.List.{List}
use lib.ListN.{length, get_or, set, replicate, length-replicate}
use lib.Seq.{paste, length-paste}
use lib.Arith.{digits_lt}
use lib.Dec.{eqb}
use borrow.Author.Tests.{ltb-true, eq-eqb, ne_eqb}
use Rattle.assembly_record.specs.Sizes.{place_count}
use Rattle.sequence_number.specs.Number.{top}
use Rattle.outcome.specs.Outcome.{refused}
use Rattle.outcome.proofs.Split.{split, split_lt}
use Rattle.assembly_record.proofs.AreaLaws.{paste_left, paste_right}
use Rattle.assembly_record.proofs.FragmentsLaws.{fragment_starts}
use Rattle.assembly_record.proofs.MarksLaws.{marked_none, length_run, marked_run, covers_past}
use Rattle.fragment_assembler.proofs.RefusalLaws.{OpenOk, Passed}
use Rattle.assembly_record.proofs.RulesLaws.{rests_sample}
use Rattle.assembly_record.proofs.TableLaws.{count_spare, count_full, highest_found, lowest_found, find_hit, spare_find}
use Rattle.fragment_assembler.specs.Call.{begin_work, found_work, opened_work, drop_if_full, kept, dropped, end_at, Work, returned, fragment, accepted_fragment, fragment_reply, opened_place, run_work, run_at, run_length}
use Rattle.assembly_record.specs.Table.{victim, has_number, find, in_assembly}
use Rattle.assembly_record.specs.Fragments.{is_whole, brings, first_byte}
use Rattle.fragment_assembler.specs.Inner.{RunOk}
use Rattle.assembly_record.specs.Marks.{covers}
use Rattle.fragment_assembler.specs.Fragment.{Fragment, head_of, Run, run_of}
use Rattle.fragment_assembler.specs.Refusal.{fragment_refusal}
use Rattle.assembly_record.specs.Rules.{Sample, AssemblerRules}
use Rattle.assembly_record.specs.State.{Assembler, Place, Fixed, free_place, place_at}

-- ---- the cases of the definitions

pub begin_known : (a : Assembler) (area : List ℕ) (c : Fragment) → has_number a.places c.number ≡ true → begin_work a area c ≡ found_work a area c
unfolding begin_work
begin_known a area c e = rw e

pub begin_fresh : (a : Assembler) (area : List ℕ) (c : Fragment) → has_number a.places c.number ≡ false → begin_work a area c ≡ opened_work a area c
unfolding begin_work
begin_fresh a area c e = rw e

pub settle_kept : (r : Bool) (ps : List Place) → length ps ≡ place_count → find 0 ps < place_count → drop_if_full r ps ≡ record { answer = kept; places = ps }
unfolding drop_if_full
settle_kept r ps e h = rw (ne_eqb (in_assembly ps) place_count (λ z. omega (arith, count_spare ps (omega arith))))

pub settle_dropped : (r : Bool) (ps : List Place) → length ps ≡ place_count → place_count ≤ find 0 ps
    → drop_if_full r ps ≡ record { answer = dropped (victim r ps); places = set ps (find (victim r ps) ps) free_place }
unfolding drop_if_full
settle_dropped r ps e h = rw (eq-eqb (in_assembly ps) place_count (count_full ps (omega arith) ∙ e))

pub victim_found : (r : Bool) (ps : List Place) → 0 < length ps → find (victim r ps) ps < length ps
victim_found true ps h = highest_found ps h
victim_found false ps h = lowest_found ps h

pub end_whole : (a : Assembler) (i : ℕ) (p : Place) → is_whole a.fragment_size p ≡ true
    → end_at a i p ≡ record { answer = returned p.number i p.size; places = set a.places i free_place }
unfolding end_at
end_whole a i p e = rw e

pub end_not : (a : Assembler) (i : ℕ) (p : Place) → is_whole a.fragment_size p ≡ false → end_at a i p ≡ drop_if_full a.reliable (set a.places i p)
unfolding end_at
end_not a i p e = rw e

pub fragment_accepted : (a : Assembler) (area : List ℕ) (c : Fragment) → fragment_refusal a (length area) (head_of c) ≡ 0 → fragment a area c ≡ accepted_fragment a area c
unfolding fragment
fragment_accepted a area c e = rw (eq-eqb (fragment_refusal a (length area) (head_of c)) 0 e)

pub fragment_refused : (a : Assembler) (area : List ℕ) (c : Fragment) → (fragment_refusal a (length area) (head_of c) ≡ 0 → ⊥)
    → fragment a area c ≡ fragment_reply (refused (fragment_refusal a (length area) (head_of c))) a area
unfolding fragment
fragment_refused a area c e = rw (ne_eqb (fragment_refusal a (length area) (head_of c)) 0 e)

-- f, p and the mode stay
pub fragment_fixed : (a : Assembler) (area : List ℕ) (c : Fragment) → Fixed a (fragment a area c).state
unfolding fragment accepted_fragment
fragment_fixed a area c =
    split (eqb (fragment_refusal a (length area) (head_of c)) 0)
    (λ e. rw e (record { fragment_size = refl; place_size = refl; reliable = refl }))
    (λ e. rw e (record { fragment_size = refl; place_size = refl; reliable = refl }))

-- ---- where a place lies in the area

-- place s of 129 lies in the area
pub inside : (p s n b : ℕ) → s < place_count → b ≤ p → place_count * p ≤ n → s * p + b ≤ n
inside p s n b h l g = omega (arith, mul-le-mul_right p h)

-- a paste inside place s leaves every other place's bytes
pub elsewhere : (p s o n : ℕ) (d x : List ℕ) → o + n ≤ length d → n ≤ length x → s * p ≤ o → o + n ≤ s * p + p
    → (i b : ℕ) → b < p → (i ≡ s → ⊥) → get_or (paste d o x n) (i * p + b) 0 ≡ get_or d (i * p + b) 0
elsewhere p s o n d x hd hx h₀ h i b l ne =
    ⊎_elim
    (λ t. paste_left d o x n hd hx (i * p + b) (omega (arith, digits_lt t l)))
    (λ t.
    let k : s < i = omega (arith, ne) in
    paste_right d o x n hd hx (i * p + b) (omega (arith, mul-le-mul_right p k)))
    (split_lt i s)

-- ---- the first half of a call

pub record Begun (a : Assembler) (area : List ℕ) (c : Fragment) (w : Work) : Type 0 where
  pub within : w.seat < place_count
  pub sample : Sample a.fragment_size a.place_size w.place
  pub number : w.place.number ≡ c.number
  pub from : ((place_at a.places w.seat).number ≡ c.number) ⊎ ((place_at a.places w.seat).number ≡ 0)
  pub ok : RunOk w.place.size a.fragment_size c.start c.count
  pub long : length w.area ≡ length area
  pub other : (i b : ℕ) → b < a.place_size → (i ≡ w.seat → ⊥) → get_or w.area (i * a.place_size + b) 0 ≡ get_or area (i * a.place_size + b) 0

-- the place that an opening call takes is a sample, of which nothing has come
pub opened_sample : (f p : ℕ) (c : Fragment) → 0 < c.number → c.number < top → OpenOk p f c.data_size → Sample f p (opened_place c)
opened_sample f p c low high o =
    record { low = low; high = high; least = o.least; most = o.most; few = o.few; long = refl; below = λ j h. marked_none j }

module _ (a : Assembler) (area : List ℕ) (c : Fragment) (g : AssemblerRules a) (p : Passed a (length area) (head_of c)) where
  known_begun : has_number a.places c.number ≡ true → Begun a area c (found_work a area c)
  unfolding has_number
  known_begun e =
      let l : find c.number a.places < length a.places = ltb-true _ _ e in
      let hit = find_hit c.number a.places l in
      record {
        within = omega (arith, g.full);
        sample = rests_sample a.fragment_size a.place_size _ (g.each (find c.number a.places)) (omega (arith, hit, p.low));
        number = hit;
        from = inl hit;
        ok = rw e at p.run;
        long = refl;
        other = λ i b l ne. refl;
      }

  fresh_begun : has_number a.places c.number ≡ false → Begun a area c (opened_work a area c)
  fresh_begun e =
      let o = p.new e in
      let s : ℕ = find 0 a.places in
      let spare : s < place_count = omega (arith, spare_find a.places (omega (arith, g.few, g.full)), g.full) in
      let hs : c.data_size ≤ length {A = ℕ} (replicate c.data_size 0) = omega (arith, length-replicate {A = ℕ} c.data_size 0) in
      let hd : s * a.place_size + c.data_size ≤ length area = inside a.place_size s (length area) c.data_size spare o.most p.long in
      record {
        within = spare;
        sample = opened_sample a.fragment_size a.place_size c p.low p.high o;
        number = refl;
        from = inr (find_hit 0 a.places (omega (arith, g.full)));
        ok = rw e at p.run;
        long = length-paste area (s * a.place_size) (replicate c.data_size 0) c.data_size hd hs;
        other = elsewhere a.place_size s (s * a.place_size) c.data_size area (replicate c.data_size 0) hd hs (omega arith) (omega (arith, o.most));
      }

  pub begun : Begun a area c (begin_work a area c)
  begun =
      split (has_number a.places c.number)
      (λ e. subst (Begun a area c) (sym (begin_known a area c e)) (known_begun e))
      (λ e. subst (Begun a area c) (sym (begin_fresh a area c e)) (fresh_begun e))

-- ---- the run

-- what the run brings stays in the sample
pub run_start : (d f : ℕ) (r : Run) → 0 < f → RunOk d f r.start r.count → first_byte r.start f + brings d f r.start r.count r.payload ≤ d
run_start d f r p ok =
    let h : (r.start - 1) * f < d = fragment_starts d f (r.start - 1) p (omega (arith, ok.some, ok.fits)) in
    omega arith

module _ (a : Assembler) (area : List ℕ) (c : Fragment) (g : AssemblerRules a) (q : Passed a (length area) (head_of c)) (w : Work) (h : Begun a area c w) where
  pub run_within : run_at a (run_of c) w + run_length a (run_of c) w ≤ w.seat * a.place_size + w.place.size
  run_within = omega (arith, run_start w.place.size a.fragment_size (run_of c) g.some h.ok)

  pub run_long : run_at a (run_of c) w + run_length a (run_of c) w ≤ length w.area
  run_long = omega (arith, run_within, inside a.place_size w.seat (length area) w.place.size h.within h.sample.most q.long, h.long)

  pub ran_long : length (run_work a (run_of c) w).area ≡ length area
  unfolding run_work
  ran_long = length-paste w.area (run_at a (run_of c) w) c.payload (run_length a (run_of c) w) run_long (omega arith) ∙ h.long

  pub ran_other : (i b : ℕ) → b < a.place_size → (i ≡ w.seat → ⊥) → get_or (run_work a (run_of c) w).area (i * a.place_size + b) 0 ≡ get_or area (i * a.place_size + b) 0
  unfolding run_work
  ran_other i b l ne =
      elsewhere a.place_size w.seat (run_at a (run_of c) w) (run_length a (run_of c) w) w.area c.payload run_long (omega arith) (omega arith)
      (omega (arith, run_within, h.sample.most)) i b l ne
      ∙ h.other i b l ne

  -- after the run it is a sample, whole or not
  pub ran_sample : Sample a.fragment_size a.place_size (run_work a (run_of c) w).place
  unfolding run_work
  ran_sample =
      record {
        low = q.low;
        high = q.high;
        least = h.sample.least;
        most = h.sample.most;
        few = h.sample.few;
        long = length_run w.place.marks (c.start - 1) c.count ∙ h.sample.long;
        below = λ j l.
            marked_run w.place.marks (c.start - 1) c.count j h.sample.long (omega (arith, h.ok.fits, h.sample.few))
            ∙ ap (λ (b : Bool). b || covers (c.start - 1) c.count j) (h.sample.below j l)
            ∙ covers_past (c.start - 1) c.count j (omega (arith, h.ok.fits, l));
      }
