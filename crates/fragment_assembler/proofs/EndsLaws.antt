-- Laws of `Ends` of `specs/Inner.antt`: what the code did to the words at the end of a call is the end that is defined on the state. Assumes nothing.
use Prim.Native.Nat.{ℕ, ◌≤◌, ◌<◌}
use native.Mathlib.Omega.{arith}
use mathlib.Core.Path.{◌≡◌, refl, sym, ap, subst, ◌∙◌}
use mathlib.Core.Bool.{Bool, true, false}
use mathlib.Core.List.{List}
use lib.ListN.{length, get_or, set}
use lib.Seq.{set-set, set-get_or}
use lib.Dec.{eqb}
use Rattle.assembly_record.specs.Sizes.{place_count, assembler_size}
use Rattle.fragment_assembler.proofs.CallLaws.{settle_kept, victim_found, settle_dropped, end_whole, end_not}
use Rattle.assembly_record.proofs.WordsLaws.{became_then, length_places, same}
use Rattle.fragment_assembler.specs.Call.{Ending, drop_if_full, dropped, end_at, returned}
use Rattle.std.specs.Prelude.{IsSome}
use Rattle.assembly_record.proofs.TableLaws.{found_is}
use Rattle.assembly_record.specs.Table.{victim, find, found_place}
use Rattle.assembly_record.specs.Fragments.{is_whole}
use Rattle.assembly_record.specs.Rows.{Became}
use Rattle.fragment_assembler.specs.Inner.{Ends}
use Rattle.assembly_record.specs.State.{place_at, Place, with_places, free_place, Assembler}
use Rattle.assembly_record.specs.Words.{assembler_of, places_of}
use Rattle.fragment_assembler.specs.declared.fragment.Answer.{Answer}
use Rattle.fragment_assembler.specs.declared.fragment.Answer.TheVariants.{Kept, Returned, Dropped}

-- ---- the end of a call, under other names

pub ends_as : (w : List ℕ) (s s' : Ending) (r : Answer) (w' : List ℕ) → s ≡ s' → Ends w s r w' → Ends w s' r w'
ends_as w s s' r w' e h = subst (λ (x : Ending). Ends w x r w') e h

pub ends_then : (w w₁ : List ℕ) (ps : List Place) (s : Ending) (r : Answer) (w' : List ℕ) → Became w ps w₁ → Ends w₁ s r w' → Ends w s r w'
ends_then w w₁ ps s r w' b h = record { answer = h.answer; became = became_then w w₁ w' ps s.places b h.became }

-- ---- one number goes

module _ (w : List ℕ) (m : Bool) where
  pub ends_kept : length w ≡ assembler_size → find 0 (places_of w) < place_count → Ends w (drop_if_full m (places_of w)) Kept w
  ends_kept e h = ends_as w _ _ Kept w (sym (settle_kept m (places_of w) (length_places w) h)) (record { answer = refl; became = same w e })

  pub victim_some : (v : ℕ) → v ≡ victim m (places_of w) → IsSome (found_place v (places_of w))
  victim_some v e = rw e (found_is (victim m (places_of w)) (places_of w) (victim_found m (places_of w) (omega (arith, length_places w))))

  pub victim_in : (v i : ℕ) → v ≡ victim m (places_of w) → i ≡ find v (places_of w) → i < place_count
  victim_in v i e f =
      omega (arith, f ∙ ap (λ (n : ℕ). find n (places_of w)) e, length_places w, victim_found m (places_of w) (omega (arith, length_places w)))

  pub ends_dropped : (v i : ℕ) (w' : List ℕ) → place_count ≤ find 0 (places_of w) → v ≡ victim m (places_of w) → i ≡ find v (places_of w)
      → Became w (set (places_of w) i free_place) w' → Ends w (drop_if_full m (places_of w)) (Dropped v) w'
  ends_dropped v i w' h e f b =
      let j : i ≡ find (victim m (places_of w)) (places_of w) = f ∙ ap (λ (n : ℕ). find n (places_of w)) e in
      ends_as w _ _ (Dropped v) w' (sym (settle_dropped m (places_of w) (length_places w) h))
      (record {
        answer = ap dropped e;
        became = subst (λ (k : ℕ). Became w (set (places_of w) k free_place) w') j b;
      })

-- ---- the end of a call

module _ (w : List ℕ) (seat : ℕ) where
  pub ends_whole : (number size : ℕ) (w' : List ℕ) → is_whole (get_or w 0 0) (place_at (places_of w) seat) ≡ true
      → number ≡ (place_at (places_of w) seat).number → size ≡ (place_at (places_of w) seat).size → Became w (set (places_of w) seat free_place) w'
      → Ends w (end_at (assembler_of w) seat (place_at (places_of w) seat)) (Returned number seat size) w'
  ends_whole number size w' t en es b =
      ends_as w _ _ (Returned number seat size) w' (sym (end_whole (assembler_of w) seat (place_at (places_of w) seat) t))
      (record { answer = ap (λ (n : ℕ). returned n seat size) en ∙ ap (returned (place_at (places_of w) seat).number seat) es; became = b })

  pub ends_not : (r : Answer) (w' : List ℕ) → is_whole (get_or w 0 0) (place_at (places_of w) seat) ≡ false
      → Ends w (drop_if_full (eqb (get_or w 2 0) 1) (places_of w)) r w'
      → Ends w (end_at (assembler_of w) seat (place_at (places_of w) seat)) r w'
  ends_not r w' t h =
      ends_as w _ _ r w'
      (ap (drop_if_full (eqb (get_or w 2 0) 1)) (sym (set-get_or (places_of w) seat free_place)) ∙ sym (end_not (assembler_of w) seat (place_at (places_of w) seat) t)) h

-- a place that was stored at the seat already does not count
pub end_over : (a : Assembler) (i : ℕ) (q p : Place) → end_at (with_places a (set a.places i q)) i p ≡ end_at a i p
unfolding end_at
end_over a i q p = rw (set-set a.places i q free_place, set-set a.places i q p)
