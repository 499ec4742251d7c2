-- Laws of `specs/View.antt`: each case as the code tests it, for every place and length. Assumes nothing.
use Prim.Native.Nat.{ℕ, ◌+◌, ◌*◌, ◌-◌, ◌≤◌}
use native.Mathlib.Omega.{arith}
use mathlib.Core.Path.{◌≡◌, refl, sym, ap, ◌∙◌}
use mathlib.Core.Bool.{true, false}
use mathlib.Core.List.{List, []}
use lib.ListN.{length, take, drop, length-drop}
use lib.Seq.{length-take-le}
use borrow.Author.Tests.{leb-true}
use Rattle.outcome.proofs.Split.{split}
use Rattle.std.specs.Prelude.{Some, None, unwrap_or}
use Rattle.std.proofs.lemmas.Option.{cond_some, none-some}
use Rattle.fragment_assembler.specs.Inner.{shown_from}
use Rattle.assembly_record.specs.State.{Assembler}
use Rattle.fragment_assembler.specs.View.{is_shown, viewed, view_start}

module _ (a : Assembler) (long i n : ℕ) where
  pub shown_some : (at : ℕ) → Some at ≡ shown_from a long i n → (at ≡ i * a.place_size) × (is_shown a long i n ≡ true)
  shown_some at e = let x = cond_some (is_shown a long i n) (i * a.place_size) at (sym e) in (sym x.1, x.0)

  pub shown_none : None ≡ shown_from a long i n → is_shown a long i n ≡ false
  shown_none e = split (is_shown a long i n) (λ t. absurd (none-some (i * a.place_size) (e ∙ rw t refl))) (λ t. t)

  pub shown_start : unwrap_or (shown_from a long i n) 0 ≡ view_start a long i n
  unfolding view_start
  shown_start = split (is_shown a long i n) (λ t. rw t refl) (λ t. rw t refl)

module _ (a : Assembler) (area : List ℕ) (i n : ℕ) where
  pub shown_part : (at : ℕ) → Some at ≡ shown_from a (length area) i n → take ((at + n) - at) (drop at area) ≡ viewed a area i n
  unfolding viewed
  shown_part at e =
      let x = shown_some a (length area) i n at e in
      let k : (at + n) - at ≡ n = omega arith in
      rw (k, x.1) (ap (λ (j : ℕ). take n (drop j area)) x.0)

  pub no_part : None ≡ shown_from a (length area) i n → [] ≡ viewed a area i n
  unfolding viewed
  no_part e = rw (shown_none a (length area) i n e) refl

  -- the bytes shown are the first ones from their start on, as many as are shown
  pub shown_front : viewed a area i n ≡ take (length (viewed a area i n)) (drop (view_start a (length area) i n) area)
  unfolding viewed view_start
  shown_front =
      split (is_shown a (length area) i n)
      (λ e.
      let le : i * a.place_size + n ≤ length area = leb-true _ _ e in
      rw e
      (ap (λ (k : ℕ). take k (drop (i * a.place_size) area))
      (sym (length-take-le n (drop (i * a.place_size) area) (omega (arith, length-drop (i * a.place_size) area))))))
      (λ e. rw e refl)
