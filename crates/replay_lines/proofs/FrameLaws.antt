-- Laws of `specs/Frame.antt`: one for each answer of the code. Assumes nothing.
use Prim.Native.Nat.{ℕ}
use mathlib.Core.Path.{◌≡◌, refl}
use mathlib.Core.Bool.{true, false}
use mathlib.Core.List.{List}
use Rattle.outcome.proofs.Split.{split}
use lib.Dec.{eqb}
use Rattle.std.specs.Prelude.{IfErr, Ok, Err}
use lib.ListN.{length}
use lib.IntN.{ℤ}
use mir.Syntax.{w64}
use mir.Val.{to_z}
use borrow.Author.Tests.{eq-eqb, ne_eqb}
use Rattle.outcome.specs.Outcome.{refused}
use Rattle.line_text.specs.Hex.{all_hex, value_at}
use Rattle.outcome.specs.Refusal.{said}
use Rattle.outcome.specs.declared.Refusal.TheVariants.{EndsEarly}
use Rattle.replay_lines.specs.Frame.{frame_of, parsed}
use Rattle.replay_lines.specs.declared.frame.Frame.TheVariants.{Received, Range, Missing}

pub frame_received : (kind a b : ℕ) (n : ℤ) → kind ≡ 1 → n ≡ to_z w64 a → Ok (Received n b) ≡ frame_of kind a b
unfolding frame_of
frame_received kind a b n k e = rw (eq-eqb kind 1 k, e)

module _ (kind a b : ℕ) (n m : ℤ) where
  pub frame_range : (kind ≡ 1 → ⊥) → kind ≡ 2 → n ≡ to_z w64 a → m ≡ to_z w64 b → Ok (Range n m) ≡ frame_of kind a b
  unfolding frame_of
  frame_range j k e f = rw (ne_eqb kind 1 j, eq-eqb kind 2 k, e, f)

  pub frame_missing : (kind ≡ 1 → ⊥) → (kind ≡ 2 → ⊥) → kind ≡ 3 → n ≡ to_z w64 a → m ≡ to_z w64 b → Ok (Missing n m) ≡ frame_of kind a b
  unfolding frame_of
  frame_missing i j k e f = rw (ne_eqb kind 1 i, ne_eqb kind 2 j, eq-eqb kind 3 k, e, f)

pub frame_other : (kind a b : ℕ) → (kind ≡ 1 → ⊥) → (kind ≡ 2 → ⊥) → (kind ≡ 3 → ⊥) → Err EndsEarly ≡ frame_of kind a b
unfolding frame_of
frame_other kind a b i j k = rw (ne_eqb kind 1 i, ne_eqb kind 2 j, ne_eqb kind 3 k)

-- what does not read is refused by the first row
pub frame_row : (kind a b : ℕ) → IfErr (frame_of kind a b) (λ r. r ≡ EndsEarly)
unfolding frame_of
frame_row kind a b =
    split (eqb kind 1) (λ t. rw t tt) (λ t. split (eqb kind 2) (λ u. rw (t, u) tt) (λ u. split (eqb kind 3) (λ v. rw (t, u, v) tt) (λ v. rw (t, u, v) refl)))

module _ (line : List ℕ) where
  pub parsed_length : (length line ≡ 34 → ⊥) → refused 1 ≡ parsed line
  unfolding parsed
  parsed_length n = rw (ne_eqb (length line) 34 n)

  pub parsed_digit : length line ≡ 34 → all_hex line ≡ false → refused 1 ≡ parsed line
  unfolding parsed
  parsed_digit n a = rw (eq-eqb (length line) 34 n, a)

  pub parsed_frame : length line ≡ 34 → all_hex line ≡ true → said (frame_of (value_at line 0 2) (value_at line 2 16) (value_at line 18 16)) ≡ parsed line
  unfolding parsed
  parsed_frame n a = rw (eq-eqb (length line) 34 n, a)
