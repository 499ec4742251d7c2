-- What a fragment call passes, and the parts of it that its steps read. Assumes nothing.
use Rattle.std.specs.Prelude.{ℕ, List, length}
use Rattle.fragment_assembler.specs.declared.fragment.DataFrag.{DataFrag}

-- The time, the number (`number_of`: 0 for one that row 4 refuses), the fragment's size, the data size, the run's start k and its count n, and the
-- payload.
pub record Fragment : Type 0 where
  pub time : ℕ
  pub number : ℕ
  pub fragment_size : ℕ
  pub data_size : ℕ
  pub start : ℕ
  pub count : ℕ
  pub payload : List ℕ

abbrev pub fragment_with : ℕ → ℕ → ℕ → ℕ → ℕ → ℕ → List ℕ → Fragment
fragment_with time number fragment_size data_size start count payload =
    record { time = time; number = number; fragment_size = fragment_size; data_size = data_size; start = start; count = count; payload = payload }

-- the fragment of a call: the time, the number, and what the message brings
abbrev pub fragment_of : ℕ → ℕ → DataFrag → Fragment
fragment_of time number f = fragment_with time number f.fragment_size f.data_size f.start f.count f.payload.now

-- what the refusals read: neither the time nor a byte of the payload, of which they know the length
pub record FragmentHead : Type 0 where
  pub number : ℕ
  pub fragment_size : ℕ
  pub data_size : ℕ
  pub start : ℕ
  pub count : ℕ
  pub payload_length : ℕ

abbrev pub head_with : ℕ → ℕ → ℕ → ℕ → ℕ → ℕ → FragmentHead
head_with number fragment_size data_size start count payload_length =
    record { number = number; fragment_size = fragment_size; data_size = data_size; start = start; count = count; payload_length = payload_length }

abbrev pub head_of : Fragment → FragmentHead
head_of c = head_with c.number c.fragment_size c.data_size c.start c.count (length c.payload)

-- what is put into a place: "A run (start k, n fragments)", its payload, and the number and the time that it stores
pub record Run : Type 0 where
  pub number : ℕ
  pub time : ℕ
  pub start : ℕ
  pub count : ℕ
  pub payload : List ℕ

abbrev pub run_with : ℕ → ℕ → ℕ → ℕ → List ℕ → Run
run_with number time start count payload = record { number = number; time = time; start = start; count = count; payload = payload }

abbrev pub run_of : Fragment → Run
run_of c = run_with c.number c.time c.start c.count c.payload
