-- The frames of a thread: what each member of their chain is, which are shown, and the faults on the way.
-- Where the fields are a layout says; which members are shown, and the limits, are this project's rules.
use Rattle.std.specs.Prelude.{◌≡◌, ℕ, ◌+◌, ◌*◌, ◌/◌, ◌^◌, ◌≤◌, nat_eq, nat_lt, Bool, true, false, not, ◌||◌, Option}
use Rattle.std.specs.Prelude.{Some, None, List, [], ◌∷◌, map, length, Result, Ok, Err, ℤ, pos, if◌then◌else◌}
use Rattle.std.specs.Prelude.{option_map, codes, bytes_eq, encode_utf8_all, Vec}
use Rattle.std.specs.Global.{Global}
use Rattle.elf64_core.specs.Fields.{u64_in, u8_in}
use Rattle.process_memory.specs.Memory.{Memory, Found, Fault, ◌>>=◌, record_at}
use Rattle.process_memory.specs.Memory.Fault.{FrameLimit, ChainLimit}
use Rattle.process_memory.specs.Walk.{Step, IsChain, walk_at, walk_cost, walk_faults}
use Rattle.process_memory.specs.Faults.{faults_then}
use Rattle.py_fields.specs.declared.layout.Layout.{Layout}
use Rattle.py_fields.specs.declared.layout.FrameAt.{FrameAt}
use Rattle.py_builtins.specs.Texts.{text_at}
use Rattle.py_stacks.specs.declared.trace.Frame.{Frame}
use Rattle.py_stacks.specs.declared.trace.LocalVariable.{LocalVariable}
use Rattle.py_stacks.specs.declared.asked.Asked.{Asked}
use Rattle.py_stacks.specs.Detail.{Detail, detail_at, detail_cost, detail_faults}
use Rattle.py_stacks.specs.Member.{MemberAt, readable}

-- how many members of a thread's chain are met, and how many are kept, at most
abbrev pub member_limit : ℕ
member_limit = 16384

-- how many members of a thread's chain are kept, at most
abbrev pub frame_limit : ℕ
frame_limit = 4096

-- the address of a frame's code record, with its tag bits cleared
unfoldable pub code_of : FrameAt → List ℕ → ℕ
code_of f frame = u64_in frame f.code / 2 ^ f.code_tag_bits * 2 ^ f.code_tag_bits

-- whether a C call entered the frame: where the layout doesn't say, each one counts as entered
abbrev pub entered_at : Option ℕ → List ℕ → Bool
entered_at None frame = true
entered_at (Some at) frame = not (nat_eq (u8_in frame at) 0)

-- whether a C call entered the frame, by its record
unfoldable pub is_entered : FrameAt → List ℕ → Bool
is_entered f frame = entered_at f.entry frame

-- the text at an address, where there is one. Nothing is missing then
unfoldable pub name_at : Layout → Memory → ℕ → Found (Option (List ℕ))
name_at l m a = Ok (readable (text_at l m a))

-- the file names, by their bytes in UTF-8, under which no frame is shown
unfoldable pub is_hidden : List ℕ → Bool
is_hidden file = bytes_eq (encode_utf8_all file) [] || bytes_eq (encode_utf8_all file) (codes "<shim>")

-- what a frame says of its call
pub record Call : Type 0 where
  pub name : List ℕ
  pub filename : List ℕ
  pub «module» : Option (List ℕ)
  pub short_filename : Option (List ℕ)
  pub line : ℤ
  pub locals : Option (List LocalVariable)
  pub is_entry : Bool
  pub is_shim_entry : Bool

-- what a frame says of its call, in plain terms
abbrev pub call_of : Frame → Call
call_of f = record {
  name = f.name;
  filename = f.filename;
  «module» = f.«module»;
  short_filename = f.short_filename;
  line = f.line;
  locals = option_map (λ (v : Vec LocalVariable Global). v.items) f.locals;
  is_entry = f.is_entry;
  is_shim_entry = f.is_shim_entry;
}

-- a call by its file and function name, without a line, locals or a mark
abbrev pub call_named : List ℕ → List ℕ → Bool → Call
call_named file name entered = record {
  name = name;
  filename = file;
  «module» = None;
  short_filename = None;
  line = pos 0;
  locals = None;
  is_entry = entered;
  is_shim_entry = false;
}

-- what a member shows as but for its detail. It is skipped where its file or function name is no text or
-- isn't in memory, or its file name is a hidden one
unfoldable pub visible : Option (List ℕ) → Option (List ℕ) → Bool → Option Call
visible None name entered = None
visible (Some file) None entered = None
visible (Some file) (Some name) entered = if is_hidden file then None else Some (call_named file name entered)

-- the two records of a member, with their addresses
unfoldable pub records_at : Layout → Memory → ℕ → Found MemberAt
records_at l m a = do
  frame ← record_at m a l.frame.size
  code ← record_at m (code_of l.frame frame) l.code.size
  Ok (record { frame_at = a; frame = frame; code_at = code_of l.frame frame; code = code })

-- the one that called a member
abbrev pub back_by : Layout → MemberAt → ℕ
back_by l r = u64_in r.frame l.frame.back

-- what a member shows as but for its detail, by its two records and its two texts
abbrev pub plain_by : Layout → Memory → MemberAt → Option Call
plain_by l m r = visible (readable (text_at l m (u64_in r.code l.code.filename)))
    (readable (text_at l m (u64_in r.code l.code.name))) (is_entered l.frame r.frame)

-- the same, as it is read. Nothing is missing then
unfoldable pub plain_at : Layout → Memory → MemberAt → Found (Option Call)
plain_at l m r = do
  file ← name_at l m (u64_in r.code l.code.filename)
  name ← name_at l m (u64_in r.code l.code.name)
  Ok (visible file name (is_entered l.frame r.frame))

-- a call with its line and its locals
abbrev pub with_detail : Call → Detail → Call
with_detail c d = record c { line = d.line; locals = d.locals }

-- what a member shows as, by what it shows as but for its detail
abbrev pub detailed : Asked → Layout → Memory → MemberAt → Option Call → Found (Option Call)
detailed q l m r None = Ok None
detailed q l m r (Some c) = detail_at q l m r >>= (λ d. Ok (Some (with_detail c d)))

-- the same where so many are kept already: no more may be, and then its detail isn't read
abbrev pub part_by : Asked → Layout → Memory → ℕ → MemberAt → Option Call → Found (Option Call)
part_by q l m kept r None = Ok None
part_by q l m kept r (Some c) =
    if nat_lt kept frame_limit then detail_at q l m r >>= (λ d. Ok (Some (with_detail c d))) else Err FrameLimit

-- how many are kept after a member
abbrev pub kept_next : ℕ → Option Call → ℕ
kept_next kept None = kept
kept_next kept (Some c) = kept + 1

-- one step of the walk: the caller's address, how many are kept, and what the member shows as
abbrev pub step_part : Layout → ℕ → MemberAt → Option Call → Step ℕ (Option Call)
step_part l kept r p = record { next = back_by l r; state = kept_next kept p; part = p }

-- one step of the walk, by a member's records, or the first fault
abbrev pub step_by : Asked → Layout → Memory → ℕ → MemberAt → Found (Step ℕ (Option Call))
step_by q l m kept r = plain_at l m r >>= (λ p. part_by q l m kept r p >>= (λ x. Ok (step_part l kept r x)))

-- one step of the walk, where so many are kept already
unfoldable pub frame_step : Asked → Layout → Memory → ℕ → ℕ → Found (Step ℕ (Option Call))
frame_step q l m kept a = records_at l m a >>= step_by q l m kept

-- whether the frame before these members is one whose caller isn't shown; `last` where there are none
abbrev pub begins_hidden : Bool → List (Option Call) → Bool
begins_hidden last [] = last
begins_hidden last (None ∷ ms) = true
begins_hidden last (Some f ∷ ms) = false

-- a call with this mark: whether its caller isn't shown
abbrev pub with_mark : Call → Bool → Call
with_mark f mark = record f { is_shim_entry = mark }

-- the members that aren't skipped, in order, each marked where the next one is skipped; the last by `last`
unfoldable pub shown_by : Bool → List (Option Call) → List Call
shown_by last [] = []
shown_by last (None ∷ ms) = shown_by last ms
shown_by last (Some f ∷ ms) = with_mark f (begins_hidden last ms) ∷ shown_by last ms

-- the frames of a thread: the members that aren't skipped, in order, each marked where its caller isn't
-- shown or there is none
abbrev pub shown : List (Option Call) → List Call
shown ms = shown_by true ms

-- what each member of a thread's chain shows as, to null, or the first fault
unfoldable pub members_at : Asked → Layout → Memory → ℕ → Found (List (Option Call))
members_at q l m first = walk_at ChainLimit (frame_step q l m) member_limit 0 first

-- the frames from the first one on, to null, or the first fault
unfoldable pub frames_at : Asked → Layout → Memory → ℕ → Found (List Call)
frames_at q l m first = members_at q l m first >>= (λ ms. Ok (shown ms))

-- ---- how many reads

-- what is counted behind what was found; 0 where it was not
abbrev pub cost_after : {T : Type 0} → Found T → (T → ℕ) → ℕ
cost_after (Ok x) f = f x
cost_after (Err e) f = 0

-- those of a member's detail, where it is kept
abbrev pub part_cost : Asked → Layout → Memory → ℕ → MemberAt → Option Call → ℕ
part_cost q l m kept r None = 0
part_cost q l m kept r (Some c) = if nat_lt kept frame_limit then detail_cost q l m r else 0

-- the same by the address of the member
unfoldable pub extra_cost : Asked → Layout → Memory → ℕ → ℕ → ℕ
extra_cost q l m kept a = cost_after (records_at l m a) (λ r. part_cost q l m kept r (plain_by l m r))

-- at most six reads for a member, two records and two texts of two reads each, and those of its detail
unfoldable pub member_cost : Asked → Layout → Memory → ℕ → ℕ → ℕ
member_cost q l m kept a = 6 + extra_cost q l m kept a

-- at most so many reads for the frames from the first one on: those of each member that is met
unfoldable pub frames_cost : Asked → Layout → Memory → ℕ → ℕ
frames_cost q l m first = walk_cost (frame_step q l m) (member_cost q l m) member_limit 0 first

-- ---- in the subject's own words

-- the one that called a member, where its frame record and its code record are in memory
unfoldable pub back_of : Layout → Memory → ℕ → Found ℕ
back_of l m a = records_at l m a >>= (λ r. Ok (back_by l r))

-- what a member shows as, with its detail; nothing where it is skipped
unfoldable pub shown_at : Asked → Layout → Memory → ℕ → Found (Option Call)
shown_at q l m a = records_at l m a >>= (λ r. detailed q l m r (plain_by l m r))

-- the frames of a thread: its whole chain of callers, to null, less the members that are skipped, each with
-- its detail
pub record AreFrames (q : Asked) (l : Layout) (m : Memory) (first : ℕ) (frames : List Call) : Type 0 where
  pub members : List ℕ
  pub chain : IsChain (back_of l m) first members
  pub parts : List (Option Call)
  pub each : map (shown_at q l m) members ≡ map Ok parts
  pub shows : frames ≡ shown parts
  pub met : length members ≤ member_limit
  pub kept : length frames ≤ frame_limit

-- ---- the faults, in order

-- those of a member whose records are in memory: the limit of kept members where it isn't skipped and so many
-- stand before it, else those of its detail
abbrev pub part_faults : Asked → Layout → Memory → ℕ → MemberAt → Option Call → List Fault
part_faults q l m kept r None = []
part_faults q l m kept r (Some c) = if nat_lt kept frame_limit then detail_faults q l m r else FrameLimit ∷ []

-- the faults of one member: its missing frame record, then its missing code record, then those of what it
-- shows as
unfoldable pub frame_faults : Asked → Layout → Memory → ℕ → ℕ → List Fault
frame_faults q l m kept a = faults_then (records_at l m a) (λ r. part_faults q l m kept r (plain_by l m r))

-- where the chain goes on, and how many are kept then
unfoldable pub frame_next : Layout → Memory → ℕ → ℕ → Found (ℕ × ℕ)
frame_next l m kept a = records_at l m a >>= (λ r. Ok (back_by l r, kept_next kept (plain_by l m r)))

-- the faults of a thread's frames: those of each member that is met, and last the limit of members
unfoldable pub frames_faults : Asked → Layout → Memory → ℕ → List Fault
frames_faults q l m first = walk_faults ChainLimit (frame_next l m) (frame_faults q l m) member_limit 0 first

-- ---- results

-- the call of a frame, where there is one
abbrev pub call_of_option : Option Frame → Option Call
call_of_option o = option_map call_of o

-- a result with the calls of its frames
abbrev pub calls_of_result : {E : Type 0} → Result (Vec Frame Global) E → Result (List Call) E
calls_of_result (Ok v) = Ok (map call_of v.items)
calls_of_result (Err e) = Err e

-- a result with the call of its frame, where there is one
abbrev pub part_of_result : {E : Type 0} → Result (Option Frame) E → Result (Option Call) E
part_of_result (Ok o) = Ok (call_of_option o)
part_of_result (Err e) = Err e

-- a step that was read where so many were kept
abbrev pub step_of_result : {E : Type 0} → ℕ → Result (ℕ × Option Frame) E → Result (Step ℕ (Option Call)) E
step_of_result kept (Ok x) =
    Ok (record { next = x.0; state = kept_next kept (call_of_option x.1); part = call_of_option x.1 })
step_of_result kept (Err e) = Err e
