-- Laws of `specs/AssemblerExports.antt`: the view as it is exported, and that an exported promise determines its answer. Assumes nothing.
use Prim.Native.Nat.{ℕ}
use mathlib.Core.Path.{◌≡◌, ap, ◌∙◌, sym}
use mathlib.Core.Bool.{Bool}
use mathlib.Core.List.{List}
use lib.ListN.{length, take, drop}
use lib.IntN.{ℤ}
use Rattle.fragment_assembler.specs.Fragment.{Fragment}
use Rattle.assembly_record.specs.Words.{assembler_of}
use Rattle.fragment_assembler.specs.View.{viewed, view_start}
use Rattle.fragment_assembler.proofs.Determined.{same_words}
use Rattle.fragment_assembler.proofs.ViewLaws.{shown_front}
use Rattle.drucenal.specs.AssemblerExports.{Happened, SetsUpAssemblerOut, TakesFragmentOut, ViewsOut, CleansAssemblerOut, ListsFragmentsOut}

pub views_out : (w area : List ℕ) (i n s : ℕ) (part : List ℕ) → part ≡ viewed (assembler_of w) area i n → s ≡ view_start (assembler_of w) (length area) i n
    → ViewsOut w area i n (length part) s
views_out w area i n s part e q =
    record {
      answer = ap length e;
      start = q;
      part =
          shown_front (assembler_of w) area i n
          ∙ ap (λ (k : ℕ). take k (drop (view_start (assembler_of w) (length area) i n) area)) (ap length (sym e))
          ∙ ap (λ (k : ℕ). take (length part) (drop k area)) (sym q);
    }

-- ---- two answers that a promise allows are equal, with the words, which their rules and their state determine

pub sets_up_determined : {w w' w₂ : List ℕ} {f p r r₂ : ℕ} {reliable : Bool} → SetsUpAssemblerOut w f reliable p r w' → SetsUpAssemblerOut w f reliable p r₂ w₂
    → (r ≡ r₂) × (w' ≡ w₂)
sets_up_determined a b = (a.answer ∙ sym b.answer, a.words ∙ sym b.words)

pub does_determined : {w area w' w₂ area' area₂ : List ℕ} {c : Fragment} {before after after₂ : Happened} {r r₂ : ℕ} → TakesFragmentOut w area c before r after w' area'
    → TakesFragmentOut w area c before r₂ after₂ w₂ area₂ → (r ≡ r₂) × (after ≡ after₂) × (w' ≡ w₂) × (area' ≡ area₂)
does_determined a b =
    (a.answer ∙ sym b.answer, a.value ∙ sym b.value, same_words _ _ a.good b.good (a.state ∙ sym b.state), a.bytes ∙ sym b.bytes)

pub views_determined : {w area : List ℕ} {i n r r₂ s s₂ : ℕ} → ViewsOut w area i n r s → ViewsOut w area i n r₂ s₂ → (r ≡ r₂) × (s ≡ s₂)
views_determined a b = (a.answer ∙ sym b.answer, a.start ∙ sym b.start)

pub cleans_determined : {w w' w₂ : List ℕ} {cutoff before r r₂ after after₂ : ℕ} {out list list₂ : List ℤ} → CleansAssemblerOut w cutoff out before r after w' list
    → CleansAssemblerOut w cutoff out before r₂ after₂ w₂ list₂ → (r ≡ r₂) × (after ≡ after₂) × (w' ≡ w₂) × (list ≡ list₂)
cleans_determined a b =
    (a.answer ∙ sym b.answer, a.value ∙ sym b.value, same_words _ _ a.good b.good (a.state ∙ sym b.state), a.entries ∙ sym b.entries)

pub misses_determined : {w : List ℕ} {n before r r₂ after after₂ : ℕ} {out list list₂ : List ℕ} → ListsFragmentsOut w n out before r after list
    → ListsFragmentsOut w n out before r₂ after₂ list₂ → (r ≡ r₂) × (after ≡ after₂) × (list ≡ list₂)
misses_determined a b = (a.answer ∙ sym b.answer, a.value ∙ sym b.value, a.entries ∙ sym b.entries)
