-- The members of a thread's chain of frames: which one each leads to, and which of them are left out.
use Rattle.std.specs.Prelude.{◌≡◌, ℕ, ◌+◌, ◌*◌, ◌-◌, ◌≤◌, nat_eq, not, ◌||◌, Bool, false, if◌then◌else◌, List, [], ◌∷◌}
use Rattle.std.specs.Prelude.{length, Result, Ok, Err}
use Rattle.std.specs.List.{filter}
use Rattle.elf64_core.specs.Fields.{u64_in}
use Rattle.process_memory.specs.Memory.{Found, Memory}
use Rattle.process_memory.specs.Seen.{Reading, Seen}
use Rattle.py_fields.specs.declared.layout.Layout.{Layout}
use Rattle.py_builtins.specs.Texts.{text_at}
use Rattle.py_stacks.specs.Frames.{back_of, is_hidden, records_at}
use Rattle.py_stacks.specs.Member.{MemberAt}
use Rattle.py_stacks.specs.declared.error.StackError.{StackError}
use Rattle.py_stacks.specs.declared.error.StackError.TheVariants as stack
use Rattle.py_fronts.specs.declared.chain_end.ChainEnd.TheVariants.{Unreadable}
use Rattle.py_fronts.specs.declared.members.Chain.{Chain}
use Rattle.py_fronts.specs.declared.members.Step.{Step}
use Rattle.py_fronts.specs.declared.members.Step.TheVariants.{To, Broken}
use Rattle.py_fronts.specs.ChainEnds.{ending_of}
use Rattle.py_fronts.specs.Front.{Break, Ending, Front, behind, front_at, or_lost}
use Rattle.py_fronts.specs.Front.Ending.{Broken as IsBroken}

-- the member that called one, where both its records are in memory
abbrev pub caller_of : Layout → Memory → ℕ → Result ℕ Break
caller_of l m a = or_lost (back_of l m a)

-- whether a text can be read, and no frame is shown under it as the name of its file
abbrev pub hides : Found (List ℕ) → Bool
hides (Ok file) = is_hidden file
hides (Err f) = false

-- a member is left out where the address of its file's name is 0, or that name is empty or `<shim>`: CPython puts such
-- members between the frames of Python's own functions
unfoldable pub is_left_out : Layout → Memory → MemberAt → Bool
is_left_out l m r = nat_eq (u64_in r.code l.code.filename) 0 || hides (text_at l m (u64_in r.code l.code.filename))

-- whether a member with these records is kept; not where they aren't in memory
abbrev pub is_kept_by : Layout → Memory → Found MemberAt → Bool
is_kept_by l m (Ok r) = not (is_left_out l m r)
is_kept_by l m (Err f) = false

-- whether the member at an address is kept, and so counted
unfoldable pub is_kept : Layout → Memory → ℕ → Bool
is_kept l m a = is_kept_by l m (records_at l m a)

-- the front of a thread's chain from its first frame on
abbrev pub members_front : Layout → Memory → ℕ → ℕ → Front
members_front l m limit first = front_at (caller_of l m) limit first

-- the kept members of a front, how many it met in all, and how it ends
pub record Chained : Type 0 where
  pub kept : List ℕ
  pub met : ℕ
  pub ending : Ending

-- the members of a front that are kept, how many it met in all, and how it ends
abbrev pub kept_of : Layout → Memory → Front → Chained
kept_of l m front = record {
  kept = filter (is_kept l m) front.members;
  met = length front.members;
  ending = front.ending;
}

-- ---- as it is read

-- a chain that the code has, with the items of its vector and its ending
abbrev pub chained : Chain → Chained
chained c = record { kept = c.kept.items; met = c.met; ending = ending_of c.end }

-- a reader's result with its chain
abbrev pub chained_of_result : {E : Type 0} → Result Chain E → Result Chained E
chained_of_result (Ok c) = Ok (chained c)
chained_of_result (Err e) = Err e

-- the reads of a walk: at most five for each member that it meets, and five more
abbrev pub chain_reads : Layout → Memory → (limit first : ℕ) → ℕ
chain_reads l m limit first = 5 + 5 * length (members_front l m limit first).members

-- one step is where a member leads to, and whether it is kept; or why what is there is none
abbrev pub StepIs : Result ℕ Break → Bool → Result Step StackError → Type 0
StepIs next kept (Ok (To back stands)) = (next ≡ Ok back) × (stands ≡ kept)
StepIs next kept (Ok (Broken end)) = (why : Break) × (next ≡ Err why) × (ending_of end ≡ IsBroken why)
StepIs next kept (Err e) = e ≡ stack.OutOfMemory

-- how a step stops that can't be read
abbrev pub StopsBy : StackError → Result Step StackError → Type 0
StopsBy (stack.Unreadable addr len) result = result ≡ Ok (Broken (Unreadable addr len))
StopsBy _ result = result ≡ Err stack.OutOfMemory

-- the member, where it stands; else none
abbrev pub kept_if : Bool → ℕ → List ℕ
kept_if stands a = if stands then a ∷ [] else []

-- a walk that has met so many members and kept these, and stands at `at`
pub record Meeting (l : Layout) (limit first : ℕ) (old new : Seen) (kept : List ℕ) (met at : ℕ) : Type 0 where
  pub members : List ℕ
  pub within : met ≤ limit
  pub reading : Reading (5 * met) old new (λ m.
      (members_front l m limit first ≡ behind members (members_front l m (limit - met) at))
      × (kept ≡ filter (is_kept l m) members) × (length members ≡ met))
