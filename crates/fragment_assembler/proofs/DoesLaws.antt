-- Laws of `TakesFragment` of `specs/Promise.antt`: what the code did, step by step on the words, is the call that is defined on the state. Assumes nothing.
use Prim.Native.Nat.{ℕ, ◌+◌, ◌*◌, ◌≤◌, ◌<◌}
use native.Mathlib.Omega.{arith}
use mathlib.Core.Path.{◌≡◌, refl, sym, ap, subst, ◌∙◌}
use mathlib.Core.Bool.{true, false}
use mathlib.Core.List.{List}
use lib.ListN.{length, get_or, set, replicate}
use lib.Seq.{paste, get_or-set_same}
use Rattle.assembly_record.specs.Sizes.{place_count}
use Rattle.outcome.specs.Outcome.{refused, done}
use Rattle.outcome.proofs.Split.{clash}
use Rattle.fragment_assembler.proofs.CallLaws.{inside, fragment_accepted, fragment_refused, begin_known, opened_sample, begin_fresh}
use Rattle.fragment_assembler.proofs.CallRules.{fragment_ok}
use Rattle.fragment_assembler.proofs.RefusalLaws.{Passed, passed, refusal_some}
use Rattle.assembly_record.proofs.RulesLaws.{rests_sample, good_spare, good_became}
use Rattle.assembly_record.proofs.TableLaws.{find_hit, found_some, found_none, found_is}
use Rattle.assembly_record.proofs.WordsLaws.{head_same, length_places, state_became}
use Rattle.fragment_assembler.specs.Call.{finish_work, fragment, run_work, Work, begin_work, accepted_fragment, fragment_reply, fate_of, Fate, FragmentReply, opened_place}
use Rattle.assembly_record.specs.Table.{find, found_place, has_number}
use Rattle.assembly_record.specs.Rows.{Became, opened_row}
use Rattle.fragment_assembler.specs.Inner.{Ends, work_of, RunAsks, Worked, RunOk, Admitted}
use Rattle.fragment_assembler.specs.Promise.{TakesFragment}
use Rattle.fragment_assembler.specs.Fragment.{Fragment, fragment_of, head_of, run_of}
use Rattle.fragment_assembler.specs.Refusal.{fragment_refusal}
use Rattle.assembly_record.specs.Rules.{GoodAssembler, AssemblerRules}
use Rattle.assembly_record.specs.State.{place_at, Place, with_places, free_place, Assembler}
use Rattle.assembly_record.specs.Words.{assembler_of, places_of, place_of}
use Rattle.fragment_assembler.specs.declared.fragment.Answer.{Answer}
use Rattle.fragment_assembler.specs.declared.fragment.DataFrag.{DataFrag}
use Rattle.std.specs.Prelude.{Option, Some, None, IsSome, Result, Ok, Err}
use Rattle.outcome.specs.Refusal.{number_of_refusal}
use Rattle.outcome.specs.declared.Refusal.{Refusal}
use Rattle.fragment_assembler.proofs.EndsLaws.{ends_as, ends_then, end_over}

-- ---- the whole call

does : (w area : List ℕ) (c : Fragment) (x : Work) (r : Answer) (w' after : List ℕ) → GoodAssembler w → fragment_refusal (assembler_of w) (length area) (head_of c) ≡ 0
    → begin_work (assembler_of w) area c ≡ x → Ends w (finish_work (assembler_of w) (run_work (assembler_of w) (run_of c) x)) r w'
    → after ≡ (run_work (assembler_of w) (run_of c) x).area → TakesFragment w area c (Ok r) w' after
unfolding accepted_fragment
does w area c x r w' after g e b h ea =
    let a : Assembler = assembler_of w in
    let y : Work = run_work a (run_of c) x in
    let st : assembler_of w' ≡ with_places a (finish_work a y).places = state_became w _ w' h.became in
    let all : fragment_reply (done (fate_of r)) (assembler_of w') after ≡ fragment a area c =
    (ap (λ (f : Fate). fragment_reply (done f) (assembler_of w') after) h.answer
    ∙ ap (λ (s : Assembler). fragment_reply (done (finish_work a y).answer) s after) st
    ∙ ap (λ (l : List ℕ). fragment_reply (done (finish_work a y).answer) (with_places a (finish_work a y).places) l) ea
    ∙ ap (λ (z : Work). fragment_reply (done (finish_work a (run_work a (run_of c) z)).answer) (with_places a (finish_work a (run_work a (run_of c) z)).places) (run_work a (run_of c) z).area) (sym b)
    ∙ sym (fragment_accepted a area c e)) in
    record {
      same = all;
      good = good_became w _ w' g h.became (subst AssemblerRules (ap (λ (o : FragmentReply). o.state) (sym all)) (fragment_ok a area c g.ok));
    }

module _ (w area : List ℕ) (c : Fragment) (g : GoodAssembler w) where
  pub does_refused : (r : Refusal) → number_of_refusal r ≡ fragment_refusal (assembler_of w) (length area) (head_of c) → TakesFragment w area c (Err r) w area
  does_refused r e =
      record {
        same =
            ap (λ (n : ℕ). fragment_reply (refused n) (assembler_of w) area) e
            ∙ sym (fragment_refused (assembler_of w) area c (λ x. refusal_some r (e ∙ x)));
        good = g;
      }

-- the same of a call under an equal number
pub does_as : (w area : List ℕ) (time : ℕ) (f : DataFrag) (r : Result Answer Refusal) (w' after : List ℕ) {n number : ℕ} → n ≡ number
    → TakesFragment w area (fragment_of time n f) r w' after → TakesFragment w area (fragment_of time number f) r w' after
does_as w area time f r w' after e h = subst (λ (k : ℕ). TakesFragment w area (fragment_of time k f) r w' after) e h

pub admitted : (w area : List ℕ) (time : ℕ) (f : DataFrag) (at : Option ℕ) {n number : ℕ} → GoodAssembler w → n ≡ number
    → 0 ≡ fragment_refusal (assembler_of w) (length area) (head_of (fragment_of 0 number f)) → at ≡ found_place number (places_of w) → Admitted w area (fragment_of time n f) at
admitted w area time f at g e z p =
    record {
      good = g;
      passed = ap (λ (k : ℕ). fragment_refusal (assembler_of w) (length area) (head_of (fragment_of 0 k f))) e ∙ sym z;
      place = p ∙ ap (λ (k : ℕ). found_place k (places_of w)) (sym e);
    }

module _ {w area : List ℕ} {c : Fragment} {at : Option ℕ} (h : Admitted w area c at) where
  pass : Passed (assembler_of w) (length area) (head_of c)
  pass = passed (assembler_of w) (length area) (head_of c) h.passed

  -- ---- the number stands at k

  module _ (k : ℕ) (e : at ≡ Some k) where
    found : (k ≡ find c.number (places_of w)) × (k < length (places_of w)) × (has_number (places_of w) c.number ≡ true)
    found = found_some c.number (places_of w) k (sym e ∙ h.place)

    pub runs_known : RunAsks w (length area) k false (run_of c)
    runs_known =
        let q : place_at (places_of w) (find c.number (places_of w)) ≡ place_at (places_of w) k = ap (place_at (places_of w)) (sym found.0) in
        let ok : RunOk (place_at (places_of w) k).size (get_or w 0 0) c.start c.count =
        subst (λ (p : Place). RunOk p.size (get_or w 0 0) c.start c.count) q (rw found.2 at pass.run) in
        let hit : (place_at (places_of w) k).number ≡ c.number =
        (ap (λ (j : ℕ). (place_at (places_of w) j).number) found.0 ∙ find_hit c.number (places_of w) (omega (arith, found.0, found.1))) in
        record {
          words = h.good.long;
          within = omega (arith, found.1, length_places w);
          some = h.good.ok.some;
          fragment_size = h.good.ok.fragment_size;
          place_size = h.good.ok.place_size;
          long = pass.long;
          sample = rests_sample (get_or w 0 0) (get_or w 1 0) (place_at (places_of w) k) (h.good.ok.each k) (omega (arith, pass.low, hit));
          ok = ok;
          spare = λ _. good_spare w h.good;
        }

    pub does_known : (r : Answer) (w' after : List ℕ) → Worked w area k (run_of c) r w' after → TakesFragment w area c (Ok r) w' after
    unfolding run_work
    does_known r w' after x =
        does w area c (work_of k (place_at (places_of w) k) area) r w' after h.good h.passed
        (begin_known (assembler_of w) area c found.2 ∙ ap (λ (j : ℕ). work_of j (place_at (places_of w) j) area) (sym found.0))
        x.ends x.area

  -- ---- it stands nowhere: s is the lowest free place

  pub spare_found : IsSome (found_place 0 (places_of w))
  spare_found = found_is 0 (places_of w) (omega (arith, good_spare w h.good, length_places w))

  module _ (none : at ≡ None) (s : ℕ) (e : Some s ≡ found_place 0 (places_of w)) where
    absent : has_number (places_of w) c.number ≡ false
    absent = (found_none c.number (places_of w) (sym none ∙ h.place)).1

    spare : (s ≡ find 0 (places_of w)) × (s < length (places_of w)) × (has_number (places_of w) 0 ≡ true)
    spare = found_some 0 (places_of w) s e

    pub free_in : s < place_count
    free_in = omega (arith, spare.1, length_places w)

    pub clear_fits : s * get_or w 1 0 + c.data_size ≤ length area
    clear_fits = inside (get_or w 1 0) s (length area) c.data_size free_in (pass.new absent).most pass.long

    module _ (w₁ : List ℕ) (b : Became w (set (places_of w) s (place_of (opened_row c.number c.data_size))) w₁) where
      opened_at : place_at (places_of w₁) s ≡ opened_place c
      opened_at = ap (λ (l : List Place). place_at l s) b.places ∙ get_or-set_same (places_of w) s _ free_place spare.1

      pub runs_fresh : (n : ℕ) → n ≡ length area → RunAsks w₁ n s true (run_of c)
      runs_fresh n en =
          let r : RunOk c.data_size (get_or w 0 0) c.start c.count = rw absent at pass.run in
          let u : get_or w₁ 0 0 ≡ get_or w 0 0 = head_same w w₁ 0 (omega arith) b.head in
          let p : get_or w₁ 1 0 ≡ get_or w 1 0 = head_same w w₁ 1 (omega arith) b.head in
          record {
            words = b.long;
            within = free_in;
            some = omega (arith, h.good.ok.some);
            fragment_size = omega (arith, h.good.ok.fragment_size);
            place_size = omega (arith, h.good.ok.place_size);
            long = omega (arith, pass.long);
            sample = rw (opened_at, u, p) (opened_sample (get_or w 0 0) (get_or w 1 0) c pass.low pass.high (pass.new absent));
            ok = rw (opened_at, u) r;
            spare = λ z. absurd (clash true refl z);
          }

      pub does_fresh : (r : Answer) (area₁ w' after : List ℕ) → area₁ ≡ paste area (s * get_or w 1 0) (replicate c.data_size 0) c.data_size
          → Worked w₁ area₁ s (run_of c) r w' after → TakesFragment w area c (Ok r) w' after
      unfolding run_work
      does_fresh r area₁ w' after ea y =
          does w area c x r w' after h.good h.passed
          (begin_fresh (assembler_of w) area c absent
          ∙ ap (λ (j : ℕ). work_of j (opened_place c) (paste area (j * get_or w 1 0) (replicate c.data_size 0) c.data_size)) (sym spare.0)
          ∙ ap (λ (l : List ℕ). work_of s (opened_place c) l) (sym ea))
          (ends_then w w₁ _ _ r w' b
          (ends_as w₁ _ _ r w'
          (ap (λ (a : Assembler). finish_work a (run_work a (run_of c) (work_of s (place_at (places_of w₁) s) area₁))) (state_became w _ w₁ b)
          ∙ ap (λ (p : Place). finish_work (with_places (assembler_of w) (set (places_of w) s (place_of (opened_row c.number c.data_size)))) (run_work (assembler_of w) (run_of c) (work_of s p area₁))) opened_at
          ∙ end_over (assembler_of w) s (place_of (opened_row c.number c.data_size)) (run_work (assembler_of w) (run_of c) x).place)
          y.ends))
          (y.area
          ∙ ap (λ (a : Assembler). (run_work a (run_of c) (work_of s (place_at (places_of w₁) s) area₁)).area) (state_became w _ w₁ b)
          ∙ ap (λ (p : Place). (run_work (assembler_of w) (run_of c) (work_of s p area₁)).area) opened_at)
        where
          x : Work
          x = work_of s (opened_place c) area₁
