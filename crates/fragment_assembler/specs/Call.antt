-- A fragment call as a function of the state, the lent area and what is passed (document 01, "The assembler"). Assumes nothing.
use Rattle.std.specs.Prelude.{ℕ, ◌+◌, ◌*◌, ◌-◌, Bool, cond, List, length, set, replicate, eqb, Result}
use Rattle.std.proofs.Math.Seq.{paste}
use Rattle.assembly_record.specs.Sizes.{place_count, mark_words}
use Rattle.outcome.specs.Outcome.{Outcome, refused, done, found}
use Rattle.outcome.specs.Refusal.{said}
use Rattle.outcome.specs.declared.Refusal.{Refusal}
use Rattle.fragment_assembler.specs.declared.fragment.Answer.{Answer}
use Rattle.fragment_assembler.specs.declared.fragment.Answer.TheVariants.{Kept, Returned, Dropped}
use Rattle.assembly_record.specs.State.{Place, Assembler, free_place, place_at, with_places}
use Rattle.assembly_record.specs.Table.{find, has_number, in_assembly, victim}
use Rattle.assembly_record.specs.Marks.{mark_run}
use Rattle.assembly_record.specs.Fragments.{first_byte, brings, is_whole}
use Rattle.fragment_assembler.specs.Fragment.{Fragment, head_of, Run, run_of}
use Rattle.fragment_assembler.specs.Refusal.{fragment_refusal}

-- "each answer says which happened to which number": kept, returned with its place and its length, or dropped
pub data Fate : Type 0 where
  kept : Fate
  returned : ℕ → ℕ → ℕ → Fate
  dropped : ℕ → Fate

-- what an answer says
abbrev pub fate_of : Answer → Fate
fate_of Kept = kept
fate_of (Returned n i d) = returned n i d
fate_of (Dropped n) = dropped n

-- what a call's result says
abbrev pub fragment_said : Result Answer Refusal → Outcome Fate
fragment_said r = found fate_of (said r)

-- the place that a call works on, where it lies, and the area
pub record Work : Type 0 where
  pub seat : ℕ
  pub place : Place
  pub area : List ℕ

-- a place as it is opened: the number, its size, no fragment
abbrev pub opened_place : Fragment → Place
opened_place c = record { number = c.number; size = c.data_size; time = 0; marks = replicate mark_words 0 }

-- a number in assembly has its place
abbrev pub found_work : Assembler → List ℕ → Fragment → Work
found_work a area c = record { seat = find c.number a.places; place = place_at a.places (find c.number a.places); area = area }

-- "Opening takes the lowest free place, and the first D bytes of that place are set to zero"
abbrev pub opened_work : Assembler → List ℕ → Fragment → Work
opened_work a area c =
    record {
      seat = find 0 a.places;
      place = opened_place c;
      area = paste area (find 0 a.places * a.place_size) (replicate c.data_size 0) c.data_size;
    }

unfoldable pub begin_work : Assembler → List ℕ → Fragment → Work
begin_work a area c = cond (has_number a.places c.number) (found_work a area c) (opened_work a area c)

-- how many bytes the run brings, and where they go
abbrev pub run_length : Assembler → Run → Work → ℕ
run_length a r w = brings w.place.size a.fragment_size r.start r.count r.payload

abbrev pub run_at : Assembler → Run → Work → ℕ
run_at a r w = w.seat * a.place_size + first_byte r.start a.fragment_size

-- "A run (start k, n fragments) copies .. payload bytes to (k-1)*f, marks all n, and stores the passed time as it is, even an earlier one"
unfoldable pub run_work : Assembler → Run → Work → Work
run_work a r w =
    record {
      seat = w.seat;
      place =
          record {
            number = r.number;
            size = w.place.size;
            time = r.time;
            marks = mark_run w.place.marks (r.start - 1) r.count;
          };
      area = paste w.area (run_at a r w) r.payload (run_length a r w);
    }

-- the answer, and the places after it
pub record Ending : Type 0 where
  pub answer : Fate
  pub places : List Place

-- "Otherwise, if 129 are in assembly", one is dropped; "this may be the one just opened"
unfoldable pub drop_if_full : Bool → List Place → Ending
drop_if_full reliable ps =
    cond (eqb (in_assembly ps) place_count)
    (record { answer = dropped (victim reliable ps); places = set ps (find (victim reliable ps) ps) free_place })
    (record { answer = kept; places = ps })

-- "All marked: returned, place freed." It is asked before anything is dropped.
unfoldable pub end_at : Assembler → ℕ → Place → Ending
end_at a i p =
    cond (is_whole a.fragment_size p)
    (record { answer = returned p.number i p.size; places = set a.places i free_place })
    (drop_if_full a.reliable (set a.places i p))

abbrev pub finish_work : Assembler → Work → Ending
finish_work a w = end_at a w.seat w.place

-- what a call says and leaves: the answer, the state and the area
pub record FragmentReply : Type 0 where
  pub answer : Outcome Fate
  pub state : Assembler
  pub area : List ℕ

abbrev pub fragment_reply : Outcome Fate → Assembler → List ℕ → FragmentReply
fragment_reply r a area = record { answer = r; state = a; area = area }

unfoldable pub accepted_fragment : Assembler → List ℕ → Fragment → FragmentReply
accepted_fragment a area c =
    let w = run_work a (run_of c) (begin_work a area c) in
    fragment_reply (done (finish_work a w).answer) (with_places a (finish_work a w).places) w.area

-- the whole call: "Every refusal returns its number alone and leaves state, area and output untouched"
unfoldable pub fragment : Assembler → List ℕ → Fragment → FragmentReply
fragment a area c =
    cond (eqb (fragment_refusal a (length area) (head_of c)) 0) (accepted_fragment a area c) (fragment_reply (refused (fragment_refusal a (length area) (head_of c))) a area)
