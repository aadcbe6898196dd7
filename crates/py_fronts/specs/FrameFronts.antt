-- The front of a thread's frames: the first of the kept members and the last before the end, with the number between.
use Rattle.std.specs.Prelude.{◌≡◌, ℕ, ◌+◌, ◌*◌, ◌-◌, nat_le, if◌then◌else◌, List, [], length, map, take, drop, Result}
use Rattle.std.specs.Prelude.{Ok, Err}
use Rattle.process_memory.specs.Memory.{Found, Memory}
use Rattle.py_fields.specs.declared.layout.Layout.{Layout}
use Rattle.py_stacks.specs.declared.asked.Asked.{Asked}
use Rattle.py_stacks.specs.declared.error.StackError.{StackError}
use Rattle.py_stacks.specs.declared.error.StackError.TheVariants as stack
use Rattle.py_stacks.specs.Threads.{first_frame_at}
use Rattle.py_fronts.specs.declared.chain_end.ChainEnd.TheVariants.{Unreadable}
use Rattle.py_fronts.specs.declared.frame_front.FramesFront.{FramesFront}
use Rattle.py_fronts.specs.declared.members.Chain.{Chain}
use Rattle.py_fronts.specs.ChainEnds.{ending_of}
use Rattle.py_fronts.specs.Front.{Ending}
use Rattle.py_fronts.specs.Front.Break.{Lost}
use Rattle.py_fronts.specs.Front.Ending.{Broken}
use Rattle.py_fronts.specs.Members.{Chained, chained, kept_of, members_front}
use Rattle.py_fronts.specs.Standings.{Stood, standing_at, standing_reads, stood}

-- how many members are met in one thread, and in all threads together, at most
abbrev pub thread_members_limit : ℕ
thread_members_limit = 1048576

-- how many members of chains of frames are met in all threads together at most
abbrev pub all_members_limit : ℕ
all_members_limit = 4194304

-- the members that are shown first: all, where there are at most twice the limit, and else so many
abbrev pub shown_first : ℕ → List ℕ → List ℕ
shown_first limit kept = if nat_le (length kept) (2 * limit) then kept else take limit kept

-- how many stand between the first and the last
abbrev pub number_between : ℕ → List ℕ → ℕ
number_between limit kept = length kept - 2 * limit

-- the last so many before the end, where others stand between
abbrev pub shown_last : ℕ → List ℕ → List ℕ
shown_last limit kept = if nat_le (length kept) (2 * limit) then [] else drop (length kept - limit) kept

-- a thread's frames: those shown first and last, how many stand between, how many members were met, and the end
pub record FramesShown : Type 0 where
  pub first : List Stood
  pub between : ℕ
  pub last : List Stood
  pub met : ℕ
  pub ending : Ending

-- the frames of the kept members of a front
unfoldable pub frames_shown : Asked → Layout → Memory → ℕ → Chained → FramesShown
frames_shown q l m limit c = record {
  first = map (standing_at q l m) (shown_first limit c.kept);
  between = number_between limit c.kept;
  last = map (standing_at q l m) (shown_last limit c.kept);
  met = c.met;
  ending = c.ending;
}

-- the kept members of the chain from a first one on; none where the word that leads to it isn't in memory
abbrev pub chain_from : Layout → Memory → ℕ → Found ℕ → Chained
chain_from l m limit (Ok first) = kept_of l m (members_front l m limit first)
chain_from l m limit (Err f) = record { kept = []; met = 0; ending = Broken (Lost f) }

-- the kept members of a thread, of which at most `limit` are met, by its record; none where the word that leads to its
-- first frame isn't in memory
unfoldable pub chain_of_thread : Layout → Memory → ℕ → List ℕ → Chained
chain_of_thread l m limit thread = chain_from l m limit (first_frame_at l m thread)

-- ---- as it is read

-- a front of frames that the code has, as the frames that it shows
abbrev pub frames_front : FramesFront → FramesShown
frames_front f = record {
  first = map stood f.first.items;
  between = f.between;
  last = map stood f.last.items;
  met = f.met;
  ending = ending_of f.end;
}

-- a reader's result with the frames that its front shows
abbrev pub frames_front_result : {E : Type 0} → Result FramesFront E → Result FramesShown E
frames_front_result (Ok f) = Ok (frames_front f)
frames_front_result (Err e) = Err e

-- a chain whose first member isn't known
abbrev pub HasNoChain : StackError → Result Chain StackError → Type 0
HasNoChain (stack.Unreadable addr len) (Ok c) =
    chained c ≡ record { kept = []; met = 0; ending = ending_of (Unreadable addr len) }
HasNoChain (stack.Unreadable addr len) (Err e) = e ≡ stack.OutOfMemory
HasNoChain _ (Ok c) = ⊥
HasNoChain _ (Err e) = e ≡ stack.OutOfMemory

-- the reads of both ends: those of each member that is shown
abbrev pub ends_reads : Asked → ℕ → List ℕ → ℕ
ends_reads q limit kept = standing_reads q * (length (shown_first limit kept) + length (shown_last limit kept))

-- how many frames are shown
abbrev pub shown_of : FramesShown → ℕ
shown_of f = length f.first + length f.last
