-- Determination: "prove that two answers allowed by it are equal", with the record, the list, the held bytes and the buffer. Assumes nothing.
use mathlib.Core.Path.{◌≡◌}
use mathlib.Core.List.{List}
use Prim.Native.Nat.{ℕ}
use lib.IntN.{ℤ}
use Rattle.std.specs.Prelude.{Result}
use Rattle.outcome.specs.Refusal.{said}
use Rattle.outcome.specs.declared.Refusal.{Refusal}
use Rattle.outcome.proofs.Determined.{equal_determined, result_determined}
use Rattle.replay_lines.specs.Frame.{parsed}
use Rattle.replay_lines.specs.Answer.{Step, LineAnswered}
use Rattle.replay_lines.specs.Feed.{Feeding, FedWith, PieceFed}
use Rattle.replay_lines.specs.declared.frame.Frame.{Frame}
use Rattle.replay_lines.specs.declared.feed.Fed.{Fed}

pub parse_determined : (line : List ℕ) (r r' : Result Frame Refusal) → said r ≡ parsed line → said r' ≡ parsed line → r ≡ r'
parse_determined line r r' = result_determined r r'

pub line_determined : (x : Step) {out : List ℕ} {n n' : ℕ} {w w' : List ℕ} {l l' : List ℤ} {o o' : List ℕ}
    → LineAnswered n w l out o x → LineAnswered n' w' l' out o' x → (n ≡ n') × (w ≡ w') × (l ≡ l') × (o ≡ o')
line_determined x a b = (
  equal_determined a.wrote.count b.wrote.count,
  equal_determined a.words_are b.words_are,
  equal_determined a.list_is b.list_is,
  equal_determined a.wrote.line b.wrote.line,
)

-- bytes that were fed: of a piece, or of the end of the input. What is lent is the record, the list, the held bytes and their count
pub fed_determined : (bytes : List ℕ) (r : Feeding) {out : List ℕ} {n n' : ℕ} {s s' : Feeding} {o o' : List ℕ} → FedWith n s out o bytes r
    → FedWith n' s' out o' bytes r → (n ≡ n') × (s ≡ s') × (o ≡ o')
fed_determined bytes r a b = (equal_determined a.wrote_is b.wrote_is, equal_determined a.fed_is b.fed_is, equal_determined a.out_is b.out_is)

pub piece_determined : (piece : List ℕ) (r : Feeding) {out : List ℕ} {f f' : Fed} {s s' : Feeding} {o o' : List ℕ} → PieceFed f s out o piece r
    → PieceFed f' s' out o' piece r → (f ≡ f') × (s ≡ s') × (o ≡ o')
piece_determined piece r a b =
    let t = equal_determined a.taken_is b.taken_is in
    let e = fed_determined _ r a.fed_with b.fed_with in
    ((λ i. record { taken = t i; wrote = e.0 i }), e.1, e.2)
