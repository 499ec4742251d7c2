-- A state as 775 words, and back: base, count, last, last time, then three columns of 257 words (numbers, kinds, times). Assumes nothing.
use Rattle.std.specs.Prelude.{ℕ, zero, suc, ◌+◌, ◌-◌, List, [], ◌∷◌, ◌++◌, map, length, get_or, replicate}
use Rattle.proxy_record.specs.Entries.{Entry, marked_entry}
use Rattle.proxy_record.specs.declared.Mark.{Mark}
use Rattle.proxy_record.specs.declared.Mark.TheVariants.{NotAvailable, Received}
use Rattle.proxy_record.specs.State.{Proxy}

-- the length of a column, and where the three begin
abbrev pub column_size : ℕ
column_size = 257

abbrev pub numbers_at : ℕ
numbers_at = 4

abbrev pub kinds_at : ℕ
kinds_at = 261

abbrev pub times_at : ℕ
times_at = 518

abbrev pub proxy_size : ℕ
proxy_size = 775

-- a mark as two words: its kind, 0 not available or 1 received, and its time
abbrev pub kind_of : Mark → ℕ
kind_of NotAvailable = 0
kind_of (Received t) = 1

abbrev pub time_of : Mark → ℕ
time_of NotAvailable = 0
time_of (Received t) = t

abbrev pub mark_of : ℕ → ℕ → Mark
mark_of zero t = NotAvailable
mark_of (suc k) t = Received t

-- an entry by its three words
abbrev pub entry_of : ℕ → ℕ → ℕ → Entry
entry_of n k t = marked_entry n (mark_of k t)

abbrev pub number_in : Entry → ℕ
number_in e = e.number

abbrev pub kind_in : Entry → ℕ
kind_in e = kind_of e.mark

abbrev pub time_in : Entry → ℕ
time_in e = time_of e.mark

-- words that are not in use
unfoldable pub zeros : ℕ → List ℕ
zeros n = replicate n 0

-- a column: a word for each entry, and zeros in the slots that are not in use
unfoldable pub column : (Entry → ℕ) → List Entry → List ℕ
column f l = map f l ++ zeros (column_size - length l)

-- the words in their order
unfoldable pub proxy_layout : ℕ → ℕ → ℕ → ℕ → List ℕ → List ℕ → List ℕ → List ℕ
proxy_layout base count last time numbers kinds times = base ∷ count ∷ last ∷ time ∷ (numbers ++ (kinds ++ times))

-- the record of a state
unfoldable pub proxy_words : Proxy → List ℕ
proxy_words s =
    proxy_layout s.base (length s.tracked) s.last s.time
    (column number_in s.tracked) (column kind_in s.tracked) (column time_in s.tracked)

-- what a record means
unfoldable pub entry_at : List ℕ → ℕ → Entry
entry_at w i = entry_of (get_or w (numbers_at + i) 0) (get_or w (kinds_at + i) 0) (get_or w (times_at + i) 0)

unfoldable pub entries_from : ℕ → ℕ → List ℕ → List Entry
entries_from zero i w = []
entries_from (suc k) i w = entry_at w i ∷ entries_from k (suc i) w

unfoldable pub proxy_of : List ℕ → Proxy
proxy_of w = record { base = get_or w 0 0; tracked = entries_from (get_or w 1 0) 0 w; last = get_or w 2 0; time = get_or w 3 0 }

abbrev pub tracked_in : List ℕ → List Entry
tracked_in w = (proxy_of w).tracked
