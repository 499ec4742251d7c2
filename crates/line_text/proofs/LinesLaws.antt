-- Laws of `specs/Lines.antt`: a recording with one line more, and any bytes as the lines that they are. Assumes nothing.
use Prim.Native.Nat.{ℕ}
use mathlib.Core.Path.{◌≡◌, refl, sym, ap, ◌∙◌}
use mathlib.Core.Logic.{⊎_elim}
use mathlib.Core.List.{List, [], ◌∷◌, ◌++◌, append_assoc}
use borrow.Author.Tests.{eq-eqb, ne_eqb}
use Rattle.outcome.proofs.Split.{split_eq}
use Rattle.line_text.specs.Lines.{NoFeed, Lines, recorded, begins, lines_of}

-- one line more, and its line feed
pub recorded_more : (lines : List (List ℕ)) (last : List ℕ) → (recorded lines ++ last) ++ (10 ∷ []) ≡ recorded (lines ++ (last ∷ []))
recorded_more [] last = refl
recorded_more (line ∷ lines) last =
    append_assoc (line ++ (10 ∷ recorded lines)) last (10 ∷ []) ∙ append_assoc line (10 ∷ recorded lines) (last ++ (10 ∷ []))
    ∙ ap (λ (l : List ℕ). line ++ (10 ∷ l)) (sym (append_assoc (recorded lines) last (10 ∷ [])) ∙ recorded_more lines last)

pub lines_more : (lines : List (List ℕ)) (last : List ℕ) → Lines lines → NoFeed last → Lines (lines ++ (last ∷ []))
lines_more [] last n m = (m, tt)
lines_more (line ∷ lines) last n m = (n.0, lines_more lines last n.1 m)

-- any bytes are a recording and what may follow it of a last line
abbrev pub last_line : List ℕ → List (List ℕ)
last_line [] = []
last_line (b ∷ line) = (b ∷ line) ∷ []

pub record Parted (bytes : List ℕ) : Type 0 where
  pub lines : List (List ℕ)
  pub last : List ℕ
  pub are_lines : Lines lines
  pub no_feed : NoFeed last
  pub is : bytes ≡ recorded lines ++ last
  pub lines_of : lines_of bytes ≡ lines ++ last_line last

begins_last : (b : ℕ) (last : List ℕ) → begins b (last_line last) ≡ (b ∷ last) ∷ []
begins_last b [] = refl
begins_last b (x ∷ last) = refl

module _ (b : ℕ) (e : b ≡ 10 → ⊥) (bytes : List ℕ) where
  begun : (lines : List (List ℕ)) (last : List ℕ) → Lines lines → NoFeed last → bytes ≡ recorded lines ++ last → lines_of bytes ≡ lines ++ last_line last → Parted (b ∷ bytes)
  unfolding lines_of
  begun [] last n m i f = record {
    lines = [];
    last = b ∷ last;
    are_lines = tt;
    no_feed = (e, m);
    is = ap (λ (l : List ℕ). b ∷ l) i;
    lines_of = rw (ne_eqb b 10 e) (ap (begins b) f ∙ begins_last b last);
  }
  begun (line ∷ lines) last n m i f = record {
    lines = (b ∷ line) ∷ lines;
    last = last;
    are_lines = ((e, n.0), n.1);
    no_feed = m;
    is = ap (λ (l : List ℕ). b ∷ l) i;
    lines_of = rw (ne_eqb b 10 e) (ap (begins b) f);
  }

pub parted : (bytes : List ℕ) → Parted bytes
unfolding lines_of
parted [] = record { lines = []; last = []; are_lines = tt; no_feed = tt; is = refl; lines_of = refl }
parted (b ∷ bytes) =
    let p = parted bytes in
    ⊎_elim
    (λ e. record {
      lines = [] ∷ p.lines;
      last = p.last;
      are_lines = (tt, p.are_lines);
      no_feed = p.no_feed;
      is = λ i. e i ∷ p.is i;
      lines_of = rw (eq-eqb b 10 e) (ap (λ (l : List (List ℕ)). [] ∷ l) p.lines_of);
    })
    (λ e. begun b e bytes p.lines p.last p.are_lines p.no_feed p.is p.lines_of)
    (split_eq b 10)
