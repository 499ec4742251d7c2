-- Input byte by byte, in pieces of any size: "Lines end in a line feed, which a last, non-empty line may lack". Assumes nothing.
use Rattle.std.specs.Prelude.{ℕ, ◌≡◌, cond, List, [], ◌∷◌, ◌++◌, length, take, ltb, eqb, ℤ}
use Rattle.outcome.specs.Lent.{over}
use Rattle.line_text.specs.Held.{Holding, holding, held_line, held_on}
use Rattle.proxy_record.specs.Words.{proxy_words, proxy_of}
use Rattle.replay_lines.specs.Frame.{parsed}
use Rattle.replay_lines.specs.Answer.{Step, step_of, text_of}
use Rattle.replay_lines.specs.declared.feed.Kept.{Kept}
use Rattle.replay_lines.specs.declared.feed.Fed.{Fed}

-- how many bytes are held of a line: one more than a line that reads has, so a longer line is seen not to read
abbrev pub held_room : ℕ
held_room = 35

-- how many bytes of a piece one call takes
abbrev pub piece_most : ℕ
piece_most = 2048

-- what is lent from piece to piece: the proxy's record, the list, and the bytes held of a line
pub record Feeding : Type 0 where
  pub words : List ℕ
  pub list : List ℤ
  pub held : Holding

abbrev pub feeding : List ℕ → List ℤ → List ℕ → ℕ → Feeding
feeding words list held count = record { words = words; list = list; held = holding held count }

abbrev pub lent : List ℕ → Kept → Feeding
lent words kept = feeding words kept.list kept.held.bytes kept.held.count

-- what the line that is held does
abbrev pub line_does : Feeding → Step
line_does r = step_of (parsed (held_line r.held)) (proxy_of r.words) r.list

-- a line feed ends the line that is held
abbrev pub line_ended : Feeding → Feeding
line_ended r = feeding (proxy_words (line_does r).state) (line_does r).list r.held.bytes 0

-- any other byte is held, or passed over where all that is lent holds bytes
abbrev pub line_goes_on : ℕ → Feeding → Feeding
line_goes_on b r = record { words = r.words; list = r.list; held = held_on b r.held }

-- a byte: 10 is the line feed; and what is said of it
unfoldable pub took : ℕ → Feeding → Feeding
took b r = cond (eqb b 10) (line_ended r) (line_goes_on b r)

unfoldable pub says : ℕ → Feeding → List ℕ
says b r = cond (eqb b 10) (text_of (line_does r)) []

-- bytes one after the other: what is lent after them, and all that was said
abbrev pub fed_through : List ℕ → Feeding → Feeding
fed_through [] r = r
fed_through (b ∷ bs) r = fed_through bs (took b r)

abbrev pub said_through : List ℕ → Feeding → List ℕ
said_through [] r = []
said_through (b ∷ bs) r = says b r ++ said_through bs (took b r)

-- what is fed after the input: the line feed that a last line lacks, where bytes of it are held
abbrev pub lacking : Feeding → List ℕ
lacking r = cond (ltb 0 r.held.count) (10 ∷ []) []

-- What is promised of bytes that were fed: what is lent after them, and what was said, from the buffer's front

pub record FedWith (wrote : ℕ) (after : Feeding) (out out' bytes : List ℕ) (r : Feeding) : Type 0 where
  pub fed_is : after ≡ fed_through bytes r
  pub out_is : out' ≡ over (said_through bytes r) out
  pub wrote_is : wrote ≡ length (said_through bytes r)

-- of a piece: its first bytes were taken, all where it has no more than are taken at once
pub record PieceFed (f : Fed) (after : Feeding) (out out' piece : List ℕ) (r : Feeding) : Type 0 where
  pub taken_is : f.taken ≡ length (take piece_most piece)
  pub fed_with : FedWith f.wrote after out out' (take piece_most piece) r
