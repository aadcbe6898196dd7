-- The interpreters of a process that are shown, and how each was found.
use Rattle.std.specs.Prelude.{◌≡◌, ℕ, zero, suc, ◌+◌, ◌*◌, ◌-◌, ◌^◌, ◌≤◌, min, nat_eq, nat_le, nat_lt, Bool, true}
use Rattle.std.specs.Prelude.{false}
use Rattle.std.specs.Prelude.{not, ◌||◌, ◌&&◌, if◌then◌else◌, List, [], ◌∷◌, ◌++◌, length, map, slice_get, sum_by, take}
use Rattle.std.specs.Prelude.{option_map, Option, Some, None}
use Rattle.std.specs.Prelude.{Result, Ok, Err}
use Rattle.std.specs.List.{list_any}
use Rattle.process_memory.specs.Memory.{Found, Memory, byte_at}
use Rattle.process_memory.specs.Seen.{Reading, ReadingOf, Seen}
use Rattle.py_fields.specs.declared.version.Version.{Version}
use Rattle.py_fields.specs.declared.layout.Layout.{Layout}
use Rattle.py_stacks.specs.Interpreter.{interpreter_named_by, threads_head}
use Rattle.py_stacks.specs.declared.error.StackError.{StackError}
use Rattle.py_stacks.specs.declared.error.StackError.TheVariants.{OutOfMemory}
use Rattle.py_process.specs.Facts.{Known}
use Rattle.py_process.specs.Sections.{IsSearched}
use Rattle.py_fronts.specs.declared.interpreters.FoundInterpreter.{FoundInterpreter}
use Rattle.py_fronts.specs.declared.interpreters.FoundInterpreters.{FoundInterpreters}
use Rattle.py_fronts.specs.declared.interpreters.InterpreterSearch.{InterpreterSearch}
use Rattle.py_fronts.specs.declared.search.Looked.{Looked}
use Rattle.py_fronts.specs.declared.search.Searching.{Searching}
use Rattle.py_fronts.specs.declared.search.ThreadsWalk.{ThreadsWalk}
use Rattle.py_fronts.specs.declared.search.Trial.{Trial}
use Rattle.py_fronts.specs.declared.thread_front.Thread.{Thread}
use Rattle.py_fronts.specs.declared.thread_front.Thread.TheVariants.{At, Broken as Outside}
use Rattle.py_fronts.specs.Candidates.{has_long_section, named_candidates, others_led_to, record_candidates}
use Rattle.py_fronts.specs.Candidates.{searched_candidates, words_in_sections, words_there}
use Rattle.py_fronts.specs.ChainEnds.{ending_of}
use Rattle.py_fronts.specs.Front.{Ending, Front, behind, front_at}
use Rattle.py_fronts.specs.Front.Ending.{Whole, Cut, Broken}
use Rattle.py_fronts.specs.ThreadFronts.{thread_of, threads_front}
use Rattle.py_stacks.specs.Threads.{thread_limit}

-- how many interpreters are shown at most
abbrev pub interpreter_limit : ℕ
interpreter_limit = 16

-- ---- which of them is shown

-- its first thread, where the chain of its threads is whole
abbrev pub whole_head : Ending → ℕ → Option ℕ
whole_head Whole head = Some head
whole_head Cut head = None
whole_head (Broken why) head = None

-- the first thread of an address, where it is an interpreter's

-- the first thread, where the interpreter that it names is the one at this address
abbrev pub names_it : ℕ → ℕ → Found ℕ → Option ℕ
names_it a head (Ok named) = if nat_eq named a then Some head else None
names_it a head (Err f) = None

-- the first thread of an address, by what its record names as that: no null, in a map, and it names the address
abbrev pub headed_by : (ℕ → Bool) → Layout → Memory → ℕ → Found ℕ → Option ℕ
headed_by contains l m a (Err f) = None
headed_by contains l m a (Ok zero) = None
headed_by contains l m a (Ok (suc head)) =
    if contains (suc head) then names_it a (suc head) (interpreter_named_by l m (suc head)) else None

-- the first thread of the interpreter at an address; none where a map holds no interpreter there
unfoldable pub headed_at : (ℕ → Bool) → Layout → Memory → ℕ → Option ℕ
headed_at contains l m a = if contains a then headed_by contains l m a (threads_head l m a) else None

-- and, for one that is found by search alone, its chain of threads is whole
abbrev pub shown_where : Bool → Layout → Memory → ℕ → Option ℕ → Option ℕ
shown_where false l m a head = head
shown_where true l m a None = None
shown_where true l m a (Some head) = whole_head (threads_front l a m head).ending head

-- the first thread of an address, where an interpreter is shown that comes by name or by search alone
unfoldable pub shown_head : Bool → (ℕ → Bool) → Layout → Memory → ℕ → Option ℕ
shown_head searched contains l m a = shown_where searched l m a (headed_at contains l m a)

-- ---- one after another

-- those that were found, and whether there are more than may be shown
pub record Finds : Type 0 where
  pub found : List FoundInterpreter
  pub more : Bool

-- whether the interpreter at an address is among those that were found
abbrev pub is_found : List FoundInterpreter → ℕ → Bool
is_found found a = list_any (λ h. nat_eq h.address a) found

-- the finds with one more; only a mark that there are more where 16 were found before
abbrev pub with_one : Finds → FoundInterpreter → Finds
with_one r h =
    if nat_lt (length r.found) interpreter_limit
    then record { found = r.found ++ h ∷ []; more = r.more }
    else record { found = r.found; more = true }

-- the finds with the interpreter at an address, where it has a first thread
abbrev pub with_head : Finds → Bool → ℕ → Option ℕ → Finds
with_head r searched a None = r
with_head r searched a (Some head) = with_one r (record { address = a; head = head; searched = searched })

-- what stands at an address that is named was not found by search alone
abbrev pub named_if : ℕ → FoundInterpreter → FoundInterpreter
named_if a one = record one { searched = one.searched && not (nat_eq one.address a) }

-- where an address that was found comes once more: by its name, if it is no longer the search that it comes by
abbrev pub with_name : Finds → Bool → ℕ → Finds
with_name r false a = record { found = map (named_if a) r.found; more = r.more }
with_name r true a = r

-- after one candidate: each address is taken once
abbrev pub after_candidate : Bool → (ℕ → Bool) → Layout → Memory → Finds → ℕ → Finds
after_candidate searched contains l m r a =
    if is_found r.found a then with_name r searched a else with_head r searched a (shown_head searched contains l m a)

-- after some
unfoldable pub after_candidates : Bool → (ℕ → Bool) → Layout → Memory → Finds → List ℕ → Finds
after_candidates searched contains l m r [] = r
after_candidates searched contains l m r (a ∷ rest) =
    after_candidates searched contains l m (after_candidate searched contains l m r a) rest

-- the address of the one at an index
abbrev pub address_at : List FoundInterpreter → ℕ → Option ℕ
address_at found index = option_map (λ (one : FoundInterpreter). one.address) (slice_get found index)

-- the finds after the addresses that the record of an interpreter leads to, if there is one
abbrev pub after_record_of : (ℕ → Bool) → Layout → Memory → Finds → Option ℕ → Finds
after_record_of contains l m r None = r
after_record_of contains l m r (Some a) = after_candidates false contains l m r (others_led_to l m a)

-- after the records of those that were found and will be, from the one at an index on
unfoldable pub after_records : (ℕ → Bool) → Layout → Memory → (turns index : ℕ) → Finds → Finds
after_records contains l m zero index r = r
after_records contains l m (suc turns) index r =
    after_records contains l m turns (index + 1) (after_record_of contains l m r (address_at r.found index))

-- after some candidates, and the records of all that are found then
abbrev pub with_their_records : Bool → (ℕ → Bool) → Layout → Memory → Finds → List ℕ → Finds
with_their_records searched contains l m r xs =
    after_records contains l m interpreter_limit 0 (after_candidates searched contains l m r xs)

-- no interpreter was found yet
abbrev pub none_found : Finds
none_found = record { found = []; more = false }

-- ---- the search

-- how many members of chains of threads are walked for those that are found by search alone
abbrev pub search_limit : ℕ
search_limit = 4194304

-- what was found so far, how many addresses were looked at (no more than a word holds are counted), and how many
-- members were walked
pub record Search : Type 0 where
  pub finds : Finds
  pub addresses : ℕ
  pub members : ℕ

-- the members that are walked for an address: those of its chain of threads, where it is an interpreter's
abbrev pub chain_length : Layout → Memory → ℕ → Option ℕ → ℕ
chain_length l m a None = 0
chain_length l m a (Some head) = length (threads_front l a m head).members

-- and was not found before
abbrev pub walked_for : (ℕ → Bool) → Layout → Memory → List FoundInterpreter → ℕ → ℕ
walked_for contains l m found a = if is_found found a then 0 else chain_length l m a (headed_at contains l m a)

-- a search after one more address: it is tried by search alone, and counted with the members walked for it
abbrev pub look_at : (ℕ → Bool) → Layout → Memory → Search → ℕ → Search
look_at contains l m s a = record {
  finds = after_candidate true contains l m s.finds a;
  addresses = min (s.addresses + 1) (2 ^ 64 - 1);
  members = s.members + walked_for contains l m s.finds.found a;
}

-- while fewer members were walked than the limit
abbrev pub look_within : (ℕ → Bool) → Layout → Memory → Search → ℕ → Search
look_within contains l m s a = if nat_lt s.members search_limit then look_at contains l m s a else s

-- after some addresses, in order
unfoldable pub after_looks : (ℕ → Bool) → Layout → Memory → Search → List ℕ → Search
after_looks contains l m s [] = s
after_looks contains l m s (a ∷ rest) = after_looks contains l m (look_within contains l m s a) rest

-- those that are named were looked at first
abbrev pub search_from : Finds → ℕ → Search
search_from r addresses = record { finds = r; addresses = addresses; members = 0 }

-- the search before any section is looked at: those that are named, and those that their records lead to
unfoldable pub search_begins : (ℕ → Bool) → Known → Version → Layout → Memory → Search
search_begins contains k v l m =
    search_from (with_their_records false contains l m none_found (named_candidates k v l m))
    (length (named_candidates k v l m))

-- the search after all words of the sections that are looked at
unfoldable pub search_at : (ℕ → Bool) → Known → Version → Layout → Memory → Search
search_at contains k v l m =
    after_looks contains l m (search_begins contains k v l m) (searched_candidates k m)

-- what is said of a search: it ended before all was looked at, where so many members were walked, or a section has more
-- words than are looked at
abbrev pub looked_by : Known → Search → Looked
looked_by k s = record {
  addresses = s.addresses;
  members = s.members;
  ended = nat_le search_limit s.members || has_long_section k;
}

-- what is said of the search for the interpreters of a process
unfoldable pub looked_at : (ℕ → Bool) → Known → Version → Layout → Memory → Looked
looked_at contains k v l m = looked_by k (search_at contains k v l m)

-- those that are found by name, with those that their records lead to; and then those that are found by search
unfoldable pub interpreters_at : (ℕ → Bool) → Known → Version → Layout → Memory → Finds
interpreters_at contains k v l m =
    after_records contains l m interpreter_limit 0 (search_at contains k v l m).finds

-- they, and what was looked at for them
pub record Told : Type 0 where
  pub finds : Finds
  pub looked : Looked

-- the interpreters of a process, and what was looked at to find them
abbrev pub told_at : (ℕ → Bool) → Known → Version → Layout → Memory → Told
told_at contains k v l m =
    record { finds = interpreters_at contains k v l m; looked = looked_at contains k v l m }

-- ---- as they are read

-- the finds that the code has, with the items of their vector
abbrev pub finds_of : FoundInterpreters → Finds
finds_of r = record { found = r.found.items; more = r.more }

-- the walk of a chain of threads: how many it meets, and how it ends
pub record Walked : Type 0 where
  pub members : ℕ
  pub ending : Ending

-- how many members a front of threads has, and how it ends
abbrev pub walked_of : Front → Walked
walked_of front = record { members = length front.members; ending = front.ending }

-- the walk of a chain of threads that the code has, with its ending
abbrev pub walk_of : ThreadsWalk → Walked
walk_of w = record { members = w.members; ending = ending_of w.end }

-- a reader's result with the walk of a chain of threads
abbrev pub walk_result : {E : Type 0} → Result ThreadsWalk E → Result Walked E
walk_result (Ok w) = Ok (walk_of w)
walk_result (Err e) = Err e

-- an address that is tried: its first thread, where it is shown, and how many members are walked for it
pub record Tried : Type 0 where
  pub head : Option ℕ
  pub members : ℕ

-- what is said of an address that the search tries
abbrev pub try_at : (ℕ → Bool) → Layout → Memory → ℕ → Tried
try_at contains l m a =
    record { head = shown_head true contains l m a; members = chain_length l m a (headed_at contains l m a) }

-- an address that was tried, as the code has it
abbrev pub tried_of : Trial → Tried
tried_of t = record { head = t.head; members = t.members }

-- a reader's result with the address that was tried
abbrev pub tried_result : {E : Type 0} → Result Trial E → Result Tried E
tried_result (Ok t) = Ok (tried_of t)
tried_result (Err e) = Err e

-- a search that the code has, with the items of its finds
abbrev pub search_of : Searching → Search
search_of s = record { finds = finds_of s.finds; addresses = s.addresses; members = s.members }

-- the search after some more; out of memory may always be answered
abbrev pub Looks : Search → Searching → Result (Unit {0}) StackError → Type 0
Looks wanted new (Ok u) = search_of new ≡ wanted
Looks wanted new (Err e) = e ≡ OutOfMemory

-- a reader's result with its search
abbrev pub searching_result : {E : Type 0} → Result Searching E → Result Search E
searching_result (Ok s) = Ok (search_of s)
searching_result (Err e) = Err e

-- the interpreters that the code has found, with the items of their vector, and what was looked at
abbrev pub told_of : InterpreterSearch → Told
told_of s = record { finds = finds_of s.finds; looked = s.looked }

-- a reader's result with the interpreters and what was looked at to find them
abbrev pub told_result : {E : Type 0} → Result InterpreterSearch E → Result Told E
told_result (Ok s) = Ok (told_of s)
told_result (Err e) = Err e

-- the address of a thread, where there is one
abbrev pub HeadIs : ℕ → Thread → Option ℕ → Type 0
HeadIs head (At thread) result = result ≡ Some head
HeadIs head (Outside end) result = result ≡ None

-- what was found after some more; out of memory may always be answered
abbrev pub Takes : Finds → FoundInterpreters → Result (Unit {0}) StackError → Type 0
Takes wanted new (Ok u) = finds_of new ≡ wanted
Takes wanted new (Err e) = e ≡ OutOfMemory

-- the reads that tell whether the chain of threads of an interpreter is whole: one for each of them, and one more
abbrev pub whole_reads : Layout → Memory → ℕ → Option ℕ → ℕ
whole_reads l m a None = 0
whole_reads l m a (Some head) = 1 + length (threads_front l a m head).members

-- the reads of one candidate: two, and those of its chain of threads where it is found by search alone
abbrev pub candidate_reads : Bool → (ℕ → Bool) → Layout → Memory → ℕ → ℕ
candidate_reads false contains l m a = 2
candidate_reads true contains l m a = 2 + whole_reads l m a (headed_at contains l m a)

-- and those of some
abbrev pub candidates_reads : Bool → (ℕ → Bool) → Layout → Memory → List ℕ → ℕ
candidates_reads searched contains l m xs = sum_by (candidate_reads searched contains l m) xs

-- those of a record: one for its words, and for each that it leads to two to find it and two to try it
abbrev pub record_reads : Layout → Memory → ℕ → ℕ
record_reads l m a = 1 + 4 * length (record_candidates l m a)

-- how many reads the record of an interpreter takes; none where there is no interpreter
abbrev pub reads_of_record : Layout → Memory → Option ℕ → ℕ
reads_of_record l m None = 0
reads_of_record l m (Some a) = record_reads l m a

-- those of the records of all that are found
abbrev pub records_reads : Layout → Memory → List FoundInterpreter → ℕ
records_reads l m found = sum_by (λ (one : FoundInterpreter). record_reads l m one.address) found

-- those of some candidates, and of the records of all that are found then
abbrev pub taking_reads : Bool → (ℕ → Bool) → Layout → Memory → Finds → List ℕ → ℕ
taking_reads searched contains l m r xs = candidates_reads searched contains l m xs
    + records_reads l m (with_their_records searched contains l m r xs).found

-- a chain of threads that has met so many of them, and stands at `at`
pub record Chaining (l : Layout) (interpreter head : ℕ) (old new : Seen) (count at : ℕ) : Type 0 where
  pub members : List ℕ
  pub within : count ≤ thread_limit
  pub long : length members ≡ count
  pub reading : Reading count old new (λ m. (threads_front l interpreter m head
      ≡ behind members (front_at (thread_of l interpreter m) (thread_limit - count) at)))

-- the candidates that were taken so far
pub record Taking (searched : Bool) (contains : ℕ → Bool) (l : Layout) (start : Finds) (old new : Seen) (taken : List ℕ)
    (finds : FoundInterpreters) : Type 0 where
  pub reading : Reading (candidates_reads searched contains l (byte_at old.pieces) taken) old new
      (λ m. finds_of finds ≡ after_candidates searched contains l m start taken)

-- the records that were looked at so far
pub record Turning (contains : ℕ → Bool) (l : Layout) (start : Finds) (old new : Seen) (index : ℕ)
    (finds : FoundInterpreters) : Type 0 where
  pub within : index ≤ interpreter_limit
  pub spent : ℕ
  pub cost : spent ≤ records_reads l (byte_at old.pieces) (take index
      (after_records contains l (byte_at old.pieces) interpreter_limit 0 start).found)
  pub reading : Reading spent old new
      (λ m. after_records contains l m interpreter_limit 0 start
      ≡ after_records contains l m (interpreter_limit - index) index (finds_of finds))

-- how many members were walked by some more
abbrev pub walked_by : (ℕ → Bool) → Layout → Memory → Search → List ℕ → ℕ
walked_by contains l m s xs = (after_looks contains l m s xs).members - s.members

-- the reads of some addresses: three for each, and those of the members that are walked
abbrev pub looks_reads : (ℕ → Bool) → Layout → Memory → Search → List ℕ → ℕ
looks_reads contains l m s xs = 3 * length xs + walked_by contains l m s xs

-- those of so many words of a section: two for each, and those of the addresses in them
abbrev pub words_reads : (ℕ → Bool) → Layout → Memory → Search → (at count : ℕ) → ℕ
words_reads contains l m s at count = 5 * count + walked_by contains l m s (words_there m at count)

-- the reads of those that are named
abbrev pub named_reads : (ℕ → Bool) → Known → Version → Layout → Memory → ℕ
named_reads contains k v l m = 7 + 4 * length (named_candidates k v l m)
    + records_reads l m (with_their_records false contains l m none_found (named_candidates k v l m)).found

-- how many reads it takes to find them all at most: four for each that is named; for each word of the sections five,
-- and one for each member that is walked; and twice those of the records of all that are shown
abbrev pub interpreters_reads : (ℕ → Bool) → Known → Version → Layout → Memory → ℕ
interpreters_reads contains k v l m =
    7 + 4 * length (named_candidates k v l m) + 5 * words_in_sections k + (search_at contains k v l m).members
    + 2 * records_reads l m (interpreters_at contains k v l m).found

-- what the search for interpreters owes: each read is one of fewer than 65536 bytes, or of exactly a section
abbrev pub Looking : (ℕ → Bool) → Known → Version → Layout → Seen → Seen → (Memory → Type 0) → Type 0
Looking contains k v l old new Q =
    ReadingOf (IsSearched k) (interpreters_reads contains k v l (byte_at old.pieces)) old new Q
