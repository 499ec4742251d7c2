-- Laws of `Worked` of `specs/Inner.antt`: the run that the code put into a place is the one that is defined on the state. Assumes nothing.
use Prim.Native.Nat.{ℕ, ◌+◌, ◌*◌, ◌-◌, ◌≤◌, ◌<◌, min}
use native.Mathlib.Omega.{arith}
use mathlib.Core.Path.{◌≡◌, ap, ◌∙◌}
use mathlib.Core.Bool.{Bool}
use mathlib.Core.List.{List, [], map}
use lib.ListN.{length, get_or, set, length-set}
use lib.Seq.{paste, get_or-set_same, get_or-set_other}
use Rattle.fragment_assembler.proofs.CallLaws.{inside, run_start}
use Rattle.assembly_record.proofs.FragmentsLaws.{fragment_starts}
use Rattle.assembly_record.proofs.TableLaws.{find_hit, find_some}
use Rattle.assembly_record.proofs.WordsLaws.{head_same, length_places, row_place, state_became}
use Rattle.fragment_assembler.specs.Call.{end_at, run_work}
use Rattle.assembly_record.specs.Table.{find}
use Rattle.assembly_record.specs.Fragments.{brings}
use Rattle.assembly_record.specs.Rows.{Became, place_ran}
use Rattle.fragment_assembler.specs.Inner.{Ends, Closes, RunAsks, Worked}
use Rattle.fragment_assembler.specs.Fragment.{Run}
use Rattle.assembly_record.specs.State.{place_at, Place, free_place, Assembler}
use Rattle.assembly_record.specs.Sizes.{place_count}
use Rattle.assembly_record.specs.Words.{assembler_of, place_of, places_of}
use Rattle.fragment_assembler.specs.declared.fragment.Answer.{Answer}
use Rattle.fragment_assembler.proofs.EndsLaws.{ends_as, ends_then, end_over}

-- ---- the run

-- a place in use is written over: the lowest free place stays
still_free : (ps : List Place) (i : ℕ) (q : Place) → find 0 ps < length ps → 0 < (place_at ps i).number → find 0 (set ps i q) < length ps
still_free ps i q h p =
    let hit = find_hit 0 ps h in
    let ne : find 0 ps ≡ i → ⊥ = λ e. omega (arith, hit, p, ap (λ (j : ℕ). (place_at ps j).number) e) in
    let s = find_some 0 (set ps i q) (find 0 ps) (omega (arith, length-set ps i q)) (ap (λ (x : Place). x.number) (get_or-set_other ps i (find 0 ps) q free_place ne) ∙ hit) in
    omega (arith, s, length-set ps i q)

module _ {w : List ℕ} {n seat : ℕ} {o : Bool} {x : Run} (h : RunAsks w n seat o x) where
  run_off : (x.start - 1) * get_or w 0 0 ≤ (place_at (places_of w) seat).size
  run_off = omega (arith, fragment_starts (place_at (places_of w) seat).size (get_or w 0 0) (x.start - 1) h.some (omega (arith, h.ok.some, h.ok.fits)))

  run_room : seat * get_or w 1 0 + (place_at (places_of w) seat).size ≤ n
  run_room = inside (get_or w 1 0) seat n (place_at (places_of w) seat).size h.within h.sample.most h.long

  -- the rows that the code reads
  module _ (rs : List (List ℕ)) (e : map place_of rs ≡ places_of w) (l : length rs ≡ place_count) where
    run_size : get_or (get_or rs seat []) 1 0 ≡ (place_at (places_of w) seat).size
    run_size = ap (λ (p : Place). p.size) (row_place rs (places_of w) seat [] e (omega (arith, h.within)))

    pub run_under : (x.start - 1) * get_or w 0 0 ≤ get_or (get_or rs seat []) 1 0
    run_under = omega (arith, run_off, run_size)

    -- the code's count of the bytes that the run brings
    pub run_brings : (b m : ℕ) → m ≡ min (length x.payload) (get_or (get_or rs seat []) 1 0 - (x.start - 1) * get_or w 0 0) → b ≡ min (x.count * get_or w 0 0) m
        → b ≡ brings (place_at (places_of w) seat).size (get_or w 0 0) x.start x.count x.payload
    run_brings b m f g = g ∙ ap (min (x.count * get_or w 0 0)) (f ∙ ap (λ (k : ℕ). min (length x.payload) (k - (x.start - 1) * get_or w 0 0)) run_size)

  pub run_end : (b : ℕ) → b ≡ brings (place_at (places_of w) seat).size (get_or w 0 0) x.start x.count x.payload
      → ((seat * get_or w 1 0 + (x.start - 1) * get_or w 0 0) + b ≤ n) × (b ≤ length x.payload)
  run_end b e =
      (omega (arith, run_room, run_off, run_start (place_at (places_of w) seat).size (get_or w 0 0) x h.some h.ok), omega arith)

  module _ (w₁ : List ℕ) (b : Became w (set (places_of w) seat (place_ran (place_at (places_of w) seat) x.number x.time (x.start - 1) x.count)) w₁) where
    ran_at : place_at (places_of w₁) seat ≡ place_ran (place_at (places_of w) seat) x.number x.time (x.start - 1) x.count
    ran_at = ap (λ (l : List Place). place_at l seat) b.places ∙ get_or-set_same (places_of w) seat _ free_place (omega (arith, h.within, length_places w))

    pub run_closes : Closes w₁ seat o
    run_closes =
        let z : (place_at (places_of w₁) seat).size ≡ (place_at (places_of w) seat).size = ap (λ (p : Place). p.size) ran_at in
        let u : get_or w₁ 0 0 ≡ get_or w 0 0 = head_same w w₁ 0 (omega arith) b.head in
        record {
          long = b.long;
          within = h.within;
          some = omega (arith, h.some);
          fragment_size = omega (arith, h.fragment_size);
          size = omega (arith, h.sample.most, h.place_size);
          few = rw (z, u) h.sample.few;
          spare =
              λ e.
              let k = h.spare e in
              omega (
                arith,
                ap (find 0) b.places,
                length_places w,
                still_free (places_of w) seat (place_ran (place_at (places_of w) seat) x.number x.time (x.start - 1) x.count) (omega (arith, length_places w, k))
                    h.sample.low,
              );
        }

    pub worked : (before after w₂ : List ℕ) (k : ℕ) (r : Answer)
        → k ≡ brings (place_at (places_of w) seat).size (get_or w 0 0) x.start x.count x.payload
        → after ≡ paste before (seat * get_or w 1 0 + (x.start - 1) * get_or w 0 0) x.payload k
        → Ends w₁ (end_at (assembler_of w₁) seat (place_at (places_of w₁) seat)) r w₂
        → Worked w before seat x r w₂ after
    unfolding run_work
    worked before after w₂ k r ek ea e =
        record {
          ends =
              ends_then w w₁ _ _ r w₂ b
              (ends_as w₁ _ _ r w₂
              (ap (end_at (assembler_of w₁) seat) ran_at
              ∙ ap (λ (a : Assembler). end_at a seat q) (state_became w _ w₁ b)
              ∙ end_over (assembler_of w) seat q q)
              e);
          area = ea ∙ ap (λ (j : ℕ). paste before (seat * get_or w 1 0 + (x.start - 1) * get_or w 0 0) x.payload j) ek;
        }
      where
        q : Place
        q = place_ran (place_at (places_of w) seat) x.number x.time (x.start - 1) x.count
