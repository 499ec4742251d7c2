-- What the public calls promise of the lent words: the definitions' outcome of the state that the words stand for, and that the words keep their
-- rules. With `GoodAssembler` a state determines its words. Assumes nothing.
use Rattle.std.specs.Prelude.{ℕ, ◌≡◌, Bool, List, take, ℤ, Result}
use Rattle.assembly_record.specs.Sizes.{assembler_size}
use Rattle.outcome.specs.Outcome.{done}
use Rattle.outcome.specs.Answers.{set_up_reply, list_reply}
use Rattle.outcome.specs.Refusal.{said}
use Rattle.outcome.specs.declared.Refusal.{Refusal}
use Rattle.fragment_assembler.specs.declared.fragment.Answer.{Answer}
use Rattle.fragment_assembler.specs.Fragment.{Fragment}
use Rattle.fragment_assembler.specs.Call.{fragment_said, fragment_reply, fragment}
use Rattle.assembly_record.specs.Words.{assembler_of}
use Rattle.assembly_record.specs.Rules.{GoodAssembler}
use Rattle.fragment_assembler.specs.SetUp.{set_up_assembler}
use Rattle.fragment_assembler.specs.Clean.{clean, clean_reply}
use Rattle.fragment_assembler.specs.Missing.{missing_fragments_for}

-- set-up: answer and words in one equation; the first 906 words are a record by the rules
pub record SetsUpAssembler (w : List ℕ) (f : ℕ) (reliable : Bool) (p : ℕ) (r : Result (Unit {0}) Refusal) (w' : List ℕ) : Type 0 where
  pub same : set_up_reply (said r) w' ≡ set_up_assembler f reliable p w
  pub good : said r ≡ done tt → GoodAssembler (take assembler_size w')

-- a fragment call: answer, state and area in one equation
pub record TakesFragment (w area : List ℕ) (c : Fragment) (r : Result Answer Refusal) (w' after : List ℕ) : Type 0 where
  pub same : fragment_reply (fragment_said r) (assembler_of w') after ≡ fragment (assembler_of w) area c
  pub good : GoodAssembler w'

-- a cleaning: answer, state and lent list in one equation
pub record CleansAssembler (w : List ℕ) (cutoff : ℕ) (out : List ℤ) (r : Result ℕ Refusal) (w' : List ℕ) (after : List ℤ) : Type 0 where
  pub same : clean_reply (said r) (assembler_of w') after ≡ clean (assembler_of w) cutoff out
  pub good : GoodAssembler w'

-- the missing fragments: answer and lent list in one equation
pub record ListsFragments (w : List ℕ) (n : ℕ) (out : List ℕ) (r : Result ℕ Refusal) (after : List ℕ) : Type 0 where
  pub same : list_reply (said r) after ≡ missing_fragments_for (assembler_of w) n out
