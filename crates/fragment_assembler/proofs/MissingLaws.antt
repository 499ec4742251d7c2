-- Laws of `specs/Missing.antt`. Assumes nothing.
use Prim.Native.Nat.{ℕ, suc, ◌-◌, ◌≤◌, ◌<◌}
use native.Mathlib.Omega.{arith}
use native.Mathlib.Nat.{not-suc-le-zero}
use mathlib.Core.Path.{◌≡◌, refl, sym, ap, subst, ◌∙◌}
use mathlib.Core.Bool.{true, false}
use mathlib.Core.List.{List, [], map, Memᴰ}
use lib.ListN.{length, get_or, take, drop}
use lib.Dec.{eqb}
use borrow.Author.Tests.{ltb-true, lt-ltb, le-ltb}
use Rattle.outcome.specs.Answers.{list_reply}
use Rattle.assembly_record.specs.Sizes.{place_count, most_fragments, mark_words, row_size}
use Rattle.assembly_record.specs.Rules.{GoodAssembler}
use Rattle.assembly_record.proofs.RulesLaws.{good_few, good_marks}
use Rattle.assembly_record.proofs.WordsLaws.{length_places, row_marks, row_place}
use Rattle.outcome.specs.Lent.{over}
use Rattle.outcome.specs.Outcome.{done}
use Rattle.outcome.proofs.Split.{split, clash}
use Rattle.fragment_assembler.specs.Inner.{place_of_number}
use Rattle.assembly_record.proofs.GapsLaws.{gaps_in, gaps_all, gaps_rise}
use Rattle.assembly_record.specs.Fragments.{fragments}
use Rattle.assembly_record.specs.Marks.{marked, gaps}
use Rattle.fragment_assembler.specs.Missing.{missing_fragments, missing_fragments_for}
use Rattle.fragment_assembler.specs.Promise.{ListsFragments}
use Rattle.assembly_record.specs.State.{place_at, Assembler, Place}
use Rattle.assembly_record.specs.Table.{is_partially_received, find, has_number}
use Rattle.assembly_record.specs.Words.{place_of, places_of, assembler_of}
use Rattle.std.specs.Prelude.{Result, Ok, Err, Some, None}
use Rattle.outcome.specs.declared.Refusal.{Refusal}
use Rattle.std.proofs.lemmas.Option.{cond_some, none-some}
use Rattle.outcome.specs.declared.Refusal.TheVariants.{ShortOutput}

-- ---- the promise

pub place_some : (n k : ℕ) (ps : List Place) → Some k ≡ place_of_number ps n → (k ≡ find n ps) × (is_partially_received ps n ≡ true) × (k < length ps)
unfolding has_number
place_some n k ps e =
    let x = cond_some (is_partially_received ps n) (find n ps) k (sym e) in
    split (eqb n 0) (λ t. absurd (clash false (rw t at x.0) refl))
    (λ t. (sym x.1, x.0, omega (arith, x.1, ltb-true (find n ps) (length ps) (rw t at x.0))))

pub place_none : (n : ℕ) (ps : List Place) → None ≡ place_of_number ps n → is_partially_received ps n ≡ false
place_none n ps e = split (is_partially_received ps n) (λ t. absurd (none-some (find n ps) (e ∙ rw t refl))) (λ t. t)

pub missing_none : (w : List ℕ) (n : ℕ) (out : List ℕ) → None ≡ place_of_number (places_of w) n → ListsFragments w n out (Ok 0) out
unfolding missing_fragments missing_fragments_for
missing_none w n out e = record { same = rw (place_none n (places_of w) e, le-ltb (length out) 0 (omega arith)) }

-- the same under an equal number
pub misses_as : (w out : List ℕ) (r : Result ℕ Refusal) (after : List ℕ) {n n' : ℕ} → n ≡ n' → ListsFragments w n out r after → ListsFragments w n' out r after
misses_as w out r after e h = subst (λ (k : ℕ). ListsFragments w k out r after) e h

-- the number stands at k, whose row the code reads; f is how many fragments its sample has
module _ (w : List ℕ) (n k f : ℕ) (rs : List (List ℕ)) (e : Some k ≡ place_of_number (places_of w) n) (p : map place_of rs ≡ places_of w) (l : length rs ≡ place_count)
    (z : length (get_or rs k []) ≡ row_size) (ef : f ≡ fragments (get_or (get_or rs k []) 1 0) (get_or w 0 0)) where
  abbrev m : List ℕ
  m = take 4 (drop 3 (get_or rs k []))

  within : k < length rs
  within = omega (arith, (place_some n k (places_of w) e).2, length_places w)

  marks_are : m ≡ (place_at (places_of w) k).marks
  marks_are = row_marks rs (places_of w) k [] p within z

  count_is : f ≡ fragments (place_at (places_of w) k).size (get_or w 0 0)
  count_is = ef ∙ ap (λ (q : Place). fragments q.size (get_or w 0 0)) (row_place rs (places_of w) k [] p within)

  pub missing_asks : GoodAssembler w → (length m ≡ mark_words) × (f ≤ most_fragments)
  missing_asks g = (ap length marks_are ∙ good_marks w g k, omega (arith, count_is, good_few w g k))

  missing_are : missing_fragments (assembler_of w) n ≡ gaps m f
  unfolding missing_fragments
  missing_are =
      let x = place_some n k (places_of w) e in
      rw x.1
      (ap (λ (j : ℕ). gaps (place_at (places_of w) j).marks (fragments (place_at (places_of w) j).size (get_or w 0 0))) (sym x.0)
      ∙ ap (λ (q : List ℕ). gaps q (fragments (place_at (places_of w) k).size (get_or w 0 0))) (sym marks_are)
      ∙ ap (gaps m) (sym count_is))

  module _ (out : List ℕ) (c : ℕ) (ec : c ≡ length (gaps m f)) where
    pub missing_short : length out < c → ListsFragments w n out (Err ShortOutput) out
    unfolding missing_fragments_for
    missing_short h = record { same = rw (lt-ltb (length out) (length (missing_fragments (assembler_of w) n)) (omega (arith, ap length missing_are))) }

    pub missing_done : (after : List ℕ) → c ≤ length out → after ≡ over (gaps m f) out → ListsFragments w n out (Ok c) after
    unfolding missing_fragments_for
    missing_done after h ea =
        record {
          same =
              rw (le-ltb (length out) (length (missing_fragments (assembler_of w) n)) (omega (arith, ap length missing_are)))
              (ap (λ (j : ℕ). list_reply (done j) after) (ec ∙ ap length (sym missing_are))
              ∙ ap (list_reply (done (length (missing_fragments (assembler_of w) n)))) (ea ∙ ap (λ (g : List ℕ). over g out) (sym missing_are)));
        }

-- ---- the list that is written

pub missing_absent : (a : Assembler) (n : ℕ) → is_partially_received a.places n ≡ false → missing_fragments a n ≡ []
unfolding missing_fragments
missing_absent a n e = rw e

missing_present : (a : Assembler) (n : ℕ) → is_partially_received a.places n ≡ true
    → missing_fragments a n ≡ gaps (place_at a.places (find n a.places)).marks (fragments (place_at a.places (find n a.places)).size a.fragment_size)
unfolding missing_fragments
missing_present a n e = rw e

pub missing_members : (a : Assembler) (n : ℕ) → is_partially_received a.places n ≡ true → (k : ℕ)
    → (Memᴰ k (missing_fragments a n)
    → (0 < k) × (k ≤ fragments (place_at a.places (find n a.places)).size a.fragment_size) × (marked (place_at a.places (find n a.places)).marks (k - 1) ≡ false))
    × ((0 < k) × (k ≤ fragments (place_at a.places (find n a.places)).size a.fragment_size) × (marked (place_at a.places (find n a.places)).marks (k - 1) ≡ false)
    → Memᴰ k (missing_fragments a n))
missing_members a n e k = (
  λ h. gaps_in _ _ k (subst (Memᴰ k) (missing_present a n e) h),
  λ h. subst (Memᴰ k) (sym (missing_present a n e)) (gaps_all _ _ k h.0 h.1 h.2),
)

pub missing_rises : (a : Assembler) (n i : ℕ) → suc i < length (missing_fragments a n) → get_or (missing_fragments a n) i 0 < get_or (missing_fragments a n) (suc i) 0
missing_rises a n i h =
    split (is_partially_received a.places n)
    (λ e.
    let p : Place = place_at a.places (find n a.places) in
    let q : missing_fragments a n ≡ gaps p.marks (fragments p.size a.fragment_size) = missing_present a n e in
    rw q (gaps_rise p.marks (fragments p.size a.fragment_size) i (rw q at h)))
    (λ e. absurd (not-suc-le-zero (rw (missing_absent a n e) at h)))
