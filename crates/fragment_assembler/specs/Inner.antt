-- What the functions below the public calls ask and promise of the words. No public promise cites these. Assumes nothing.
use Rattle.std.specs.Prelude.{ℕ, ◌+◌, ◌*◌, ◌-◌, ◌<◌, ◌≤◌, ◌≡◌, Bool, false, cond, List, length, get_or, ltb, Option, Some, None}
use Rattle.assembly_record.specs.Sizes.{place_count, largest_place, most_fragments, assembler_size}
use Rattle.fragment_assembler.specs.declared.fragment.Answer.{Answer}
use Rattle.assembly_record.specs.Rows.{Became}
use Rattle.assembly_record.specs.State.{Place, Assembler, place_at}
use Rattle.assembly_record.specs.Table.{find, found_place, is_partially_received}
use Rattle.assembly_record.specs.Fragments.{fragments}
use Rattle.fragment_assembler.specs.Fragment.{Fragment, head_of, Run}
use Rattle.fragment_assembler.specs.Refusal.{fragment_refusal}
use Rattle.fragment_assembler.specs.Call.{Work, Ending, fate_of, run_work, finish_work}
use Rattle.fragment_assembler.specs.View.{is_shown}
use Rattle.assembly_record.specs.Words.{places_of, assembler_of}
use Rattle.assembly_record.specs.Rules.{Sample, GoodAssembler}

-- the place of a number that is in assembly
abbrev pub place_of_number : List Place → ℕ → Option ℕ
place_of_number ps n = cond (is_partially_received ps n) (Some (find n ps)) None

-- where a part begins that is shown
abbrev pub shown_from : Assembler → ℕ → ℕ → ℕ → Option ℕ
shown_from a long i n = cond (is_shown a long i n) (Some (i * a.place_size)) None

-- 7, 8 and 9 of a sample that opens with d bytes; 0 where none holds
abbrev pub opening_refusal : ℕ → ℕ → ℕ → ℕ
opening_refusal d f p = cond (ltb d f) 7 (cond (ltb p d) 8 (cond (ltb most_fragments (fragments d f)) 9 0))

abbrev pub work_of : ℕ → Place → List ℕ → Work
work_of i p area = record { seat = i; place = p; area = area }

-- a run that the rows 10, 11 and 12 let pass, on a sample of d bytes
pub record RunOk (d f first count : ℕ) : Type 0 where
  pub some : 0 < count
  pub start : 0 < first
  pub fits : first - 1 + count ≤ fragments d f

-- the end of a call: the answer said, and the places that it left
pub record Ends (w : List ℕ) (s : Ending) (r : Answer) (w' : List ℕ) : Type 0 where
  pub answer : fate_of r ≡ s.answer
  pub became : Became w s.places w'

-- what the end of a call asks of the place that it worked on
pub record Closes (w : List ℕ) (seat : ℕ) (opened : Bool) : Type 0 where
  pub long : length w ≡ assembler_size
  pub within : seat < place_count
  pub some : 0 < get_or w 0 0
  pub fragment_size : get_or w 0 0 < 65536
  pub size : (place_at (places_of w) seat).size ≤ largest_place
  pub few : fragments (place_at (places_of w) seat).size (get_or w 0 0) ≤ most_fragments
  pub spare : opened ≡ false → find 0 (places_of w) < place_count

-- what a run asks, on an area of n bytes
pub record RunAsks (w : List ℕ) (n seat : ℕ) (opened : Bool) (x : Run) : Type 0 where
  pub words : length w ≡ assembler_size
  pub within : seat < place_count
  pub some : 0 < get_or w 0 0
  pub fragment_size : get_or w 0 0 < 65536
  pub place_size : get_or w 1 0 ≤ largest_place
  pub long : place_count * get_or w 1 0 ≤ n
  pub sample : Sample (get_or w 0 0) (get_or w 1 0) (place_at (places_of w) seat)
  pub ok : RunOk (place_at (places_of w) seat).size (get_or w 0 0) x.start x.count
  pub spare : opened ≡ false → find 0 (places_of w) < place_count

-- what a run and the end of its call did
pub record Worked (w before : List ℕ) (seat : ℕ) (x : Run) (r : Answer) (w' after : List ℕ) : Type 0 where
  pub ends : Ends w (finish_work (assembler_of w) (run_work (assembler_of w) x (work_of seat (place_at (places_of w) seat) before))) r w'
  pub area : after ≡ (run_work (assembler_of w) x (work_of seat (place_at (places_of w) seat) before)).area

-- what is asked of a call that the rows let pass: `at` is where its number stands
pub record Admitted (w area : List ℕ) (c : Fragment) (at : Option ℕ) : Type 0 where
  pub good : GoodAssembler w
  pub passed : fragment_refusal (assembler_of w) (length area) (head_of c) ≡ 0
  pub place : at ≡ found_place c.number (places_of w)
