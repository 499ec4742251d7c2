-- What the assembler's exported calls promise: the assembler's own definitions, each answer by its number and its values. Assumes nothing.
use Rattle.std.specs.Prelude.{ℕ, ◌≡◌, Bool, List, length, take, drop, ℤ}
use Rattle.outcome.specs.Outcome.{done, refusal, found}
use Rattle.fragment_assembler.specs.Fragment.{Fragment}
use Rattle.fragment_assembler.specs.Call.{Fate, fragment, kept, returned, dropped}
use Rattle.assembly_record.specs.Sizes.{assembler_size}
use Rattle.assembly_record.specs.Words.{assembler_of}
use Rattle.assembly_record.specs.Rules.{GoodAssembler}
use Rattle.fragment_assembler.specs.SetUp.{set_up_assembler}
use Rattle.fragment_assembler.specs.View.{viewed, view_start}
use Rattle.fragment_assembler.specs.Clean.{clean}
use Rattle.fragment_assembler.specs.Missing.{missing_fragments_for}
use Rattle.drucenal.specs.Exports.{found_or}

-- what became of a fragment, behind four references: 0 kept, 1 returned, 2 dropped; the number; the place and the length of a returned sample
pub record Happened : Type 0 where
  pub what : ℕ
  pub of : ℕ
  pub place : ℕ
  pub length : ℕ

abbrev pub happened : ℕ → ℕ → ℕ → ℕ → Happened
happened what of place length = record { what = what; of = of; place = place; length = length }

abbrev pub fate_shown : Fate → Happened
fate_shown kept = happened 0 0 0 0
fate_shown (returned n i d) = happened 1 n i d
fate_shown (dropped n) = happened 2 n 0 0

pub record SetsUpAssemblerOut (w : List ℕ) (f : ℕ) (reliable : Bool) (p r : ℕ) (w' : List ℕ) : Type 0 where
  pub answer : r ≡ refusal (set_up_assembler f reliable p w).answer
  pub words : w' ≡ (set_up_assembler f reliable p w).words
  pub good : (set_up_assembler f reliable p w).answer ≡ done tt → GoodAssembler (take assembler_size w')

pub record TakesFragmentOut (w area : List ℕ) (c : Fragment) (before : Happened) (r : ℕ) (after : Happened) (w' area' : List ℕ) : Type 0 where
  pub answer : r ≡ refusal (fragment (assembler_of w) area c).answer
  pub value : after ≡ found_or (found fate_shown (fragment (assembler_of w) area c).answer) before
  pub state : assembler_of w' ≡ (fragment (assembler_of w) area c).state
  pub bytes : area' ≡ (fragment (assembler_of w) area c).area
  pub good : GoodAssembler w'

-- the answer is how many bytes of the area are shown; behind the reference stands where they begin
pub record ViewsOut (w area : List ℕ) (i n r s : ℕ) : Type 0 where
  pub answer : r ≡ length (viewed (assembler_of w) area i n)
  pub start : s ≡ view_start (assembler_of w) (length area) i n
  pub part : viewed (assembler_of w) area i n ≡ take r (drop s area)

pub record CleansAssemblerOut (w : List ℕ) (cutoff : ℕ) (out : List ℤ) (before r after : ℕ) (w' : List ℕ) (list : List ℤ) : Type 0 where
  pub answer : r ≡ refusal (clean (assembler_of w) cutoff out).answer
  pub value : after ≡ found_or (clean (assembler_of w) cutoff out).answer before
  pub state : assembler_of w' ≡ (clean (assembler_of w) cutoff out).state
  pub entries : list ≡ (clean (assembler_of w) cutoff out).list
  pub good : GoodAssembler w'

pub record ListsFragmentsOut (w : List ℕ) (n : ℕ) (out : List ℕ) (before r after : ℕ) (list : List ℕ) : Type 0 where
  pub answer : r ≡ refusal (missing_fragments_for (assembler_of w) n out).answer
  pub value : after ≡ found_or (missing_fragments_for (assembler_of w) n out).answer before
  pub entries : list ≡ (missing_fragments_for (assembler_of w) n out).list
