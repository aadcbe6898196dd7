-- What stands for a kept member of a thread's chain: its frame, or itself where it has no names.
use Rattle.std.specs.Prelude.{◌≡◌, ℕ, zero, suc, ◌+◌, ◌*◌, Bool, true, is_none, List, length, map}
use Rattle.std.specs.Prelude.{MatchOption, Option, Some, None, Result, Ok, Err, ℤ, Vec}
use Rattle.std.specs.Global.{Global}
use Rattle.elf64_core.specs.Fields.{u64_in}
use Rattle.process_memory.specs.Memory.{Fault, Found, Memory, ◌>>=◌}
use Rattle.process_memory.specs.Seen.{Reading, Seen}
use Rattle.py_fields.specs.declared.layout.Layout.{Layout}
use Rattle.py_builtins.specs.Texts.{text_at}
use Rattle.py_builtins.specs.ObjectError.{object_fault}
use Rattle.py_builtins.specs.declared.error.ObjectError.{ObjectError}
use Rattle.py_builtins.specs.declared.error.ObjectError.TheVariants as object
use Rattle.py_stacks.specs.declared.asked.Asked.{Asked}
use Rattle.py_stacks.specs.declared.error.StackError.{StackError}
use Rattle.py_stacks.specs.declared.error.StackError.TheVariants as stack
use Rattle.py_stacks.specs.declared.trace.LocalVariable.{LocalVariable}
use Rattle.py_stacks.specs.StackError.{stack_fault}
use Rattle.py_stacks.specs.Frames.{Call, back_by, call_named, call_of, is_entered, plain_by, records_at}
use Rattle.py_stacks.specs.Locals.{asked_locals}
use Rattle.py_stacks.specs.Met.{locals_most}
use Rattle.py_stacks.specs.Member.{MemberAt}
use Rattle.py_fronts.specs.declared.standing.Locals.{Locals}
use Rattle.py_fronts.specs.declared.standing.Standing.{Standing}
use Rattle.py_fronts.specs.declared.standing.Standing.TheVariants.{Frame, Member}
use Rattle.py_fronts.specs.TableLines.{line_or_first}

-- what stands for a member
pub data Stood : Type 0 where
  -- its frame, and why its locals can't be read
  IsFrame : Call → Option (Option Fault) → Stood
  -- its address, and why it has no names
  IsMember : (address : ℕ) → Option Fault → Stood

-- why the locals of a frame can't be read; none where they can
abbrev pub lost_locals : Option StackError → Option (Option Fault)
lost_locals None = None
lost_locals (Some e) = Some (stack_fault e)

-- what stands for a member, as the code has it
abbrev pub stood : Standing → Stood
stood (Frame frame fault) = IsFrame (call_of frame) (lost_locals fault)
stood (Member address why) = IsMember address (object_fault why)

-- the texts of the file's name and of the function's
unfoldable pub texts_at : Layout → Memory → MemberAt → Found (List ℕ × List ℕ)
texts_at l m r = do
  file ← text_at l m (u64_in r.code l.code.filename)
  name ← text_at l m (u64_in r.code l.code.name)
  Ok (file, name)

-- the locals, or why there are none
abbrev pub locals_or_fault : Found (Option (List LocalVariable)) → Option (List LocalVariable) × Option (Option Fault)
locals_or_fault (Ok locals) = (locals, None)
locals_or_fault (Err f) = (None, Some (Some f))

-- whether no frame is shown for a member with these records; so where they aren't in memory
abbrev pub shows_none : Layout → Memory → Found MemberAt → Bool
shows_none l m (Ok r) = is_none (plain_by l m r)
shows_none l m (Err f) = true

-- whether no frame is shown for what a member leads to, or that is null
unfoldable pub has_no_caller : Layout → Memory → ℕ → Bool
has_no_caller l m zero = true
has_no_caller l m (suc a) = shows_none l m (records_at l m (suc a))

-- the frame of a member, by its two texts and its detail; it is marked where its caller has none
abbrev pub call_by : Layout → Memory → MemberAt → (file name : List ℕ) → ℤ → Option (List LocalVariable) → Call
call_by l m r file name line locals = record (call_named file name (is_entered l.frame r.frame)) {
  line = line;
  locals = locals;
  is_shim_entry = has_no_caller l m (back_by l r);
}

-- the frame of a member with its detail, and why its locals can't be read, by the texts of its file and its name
abbrev pub framed : Asked → Layout → Memory → MemberAt → (file name : List ℕ) → Stood
framed q l m r file name =
    IsFrame (call_by l m r file name (line_or_first q.lineno l m r) (locals_or_fault (asked_locals q.locals l m r)).0)
    (locals_or_fault (asked_locals q.locals l m r)).1

-- what stands for a member by its two texts: its frame, or itself where they can't be read
abbrev pub standing_named : Asked → Layout → Memory → ℕ → MemberAt → Found (List ℕ × List ℕ) → Stood
standing_named q l m a r (Ok texts) = framed q l m r texts.0 texts.1
standing_named q l m a r (Err f) = IsMember a (Some f)

-- what stands for a member by its records: itself where they aren't in memory
abbrev pub standing_by : Asked → Layout → Memory → ℕ → Found MemberAt → Stood
standing_by q l m a (Ok r) = standing_named q l m a r (texts_at l m r)
standing_by q l m a (Err f) = IsMember a (Some f)

-- what stands for the member at an address: its frame, with its detail; itself where its file or function name can't be
-- read, is no text or is too long
unfoldable pub standing_at : Asked → Layout → Memory → ℕ → Stood
standing_at q l m a = standing_by q l m a (records_at l m a)

-- ---- as it is read

-- at most two reads for the records, four for the texts, 513 for a line, one for the tuple of names, and six for the
-- caller; and those of the locals
abbrev pub standing_reads : Asked → ℕ
standing_reads q = 526 + locals_most q.locals

-- a reader's result with what stands for a member
abbrev pub stood_result : {E : Type 0} → Result Standing E → Result Stood E
stood_result (Ok s) = Ok (stood s)
stood_result (Err e) = Err e

-- a reader's result with what stands for each of some members
abbrev pub stood_results : {E : Type 0} → Result (Vec Standing Global) E → Result (List Stood) E
stood_results (Ok ss) = Ok (map stood ss.items)
stood_results (Err e) = Err e

-- the locals that were read as what stands for them; out of memory is handed on
abbrev pub LocalsAre : Result (Option (Vec LocalVariable Global)) StackError → Result Locals StackError → Type 0
LocalsAre (Ok locals) result = result ≡ Ok (record { locals = locals; fault = None })
LocalsAre (Err e) result =
    MatchOption (stack_fault e) (result ≡ Err stack.OutOfMemory)
    (λ f. result ≡ Ok (record { locals = None; fault = Some e }))

-- a member without names; out of memory is handed on
abbrev pub IsNameless : ℕ → ObjectError → Result Standing StackError → Type 0
IsNameless address why result =
    MatchOption (object_fault why) (result ≡ Err stack.OutOfMemory) (λ f. result ≡ Ok (Member address why))

-- one whose records can't be read
abbrev pub IsUnread : ℕ → StackError → Result Standing StackError → Type 0
IsUnread address (stack.Unreadable addr len) result = result ≡ Ok (Member address (object.Unreadable addr len))
IsUnread address _ result = result ≡ Err stack.OutOfMemory

-- the members that were shown so far
pub record Showing (q : Asked) (l : Layout) (old new : Seen) (members : List ℕ) (shown : List Standing) : Type 0 where
  pub reading : Reading (standing_reads q * length members) old new
      (λ m. map stood shown ≡ map (standing_at q l m) members)
