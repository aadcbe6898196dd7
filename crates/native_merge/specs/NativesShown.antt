-- How native frames are shown, and what the answer for an address adds. Which frames are left out, and what is shown
-- of the others, is py-spy's rule.
use Rattle.std.specs.Prelude.{◌≡◌, ℕ, ◌^◌, ◌||◌, ◌&&◌, nat_eq, nat_lt, Bool, true, false, if◌then◌else◌, List, [], ◌∷◌}
use Rattle.std.specs.Prelude.{◌++◌, Option, Some, None, unwrap_or, option_map, Ok, Err, ℤ, pos, codes, bytes_eq}
use Rattle.std.specs.Prelude.{encode_utf8_all}
use Rattle.std.specs.List.{flat_map, starts_with}
use Rattle.std.specs.Fmt.{digits}
use Rattle.std.specs.Str.{chars}
use Rattle.py_stacks.specs.Frames.{Call}
use Rattle.native_merge.specs.declared.native_frame.NativeFrame.{NativeFrame}
use Rattle.native_pairs.specs.declared.kind.FunctionKind.{FunctionKind}
use Rattle.native_pairs.specs.declared.kind.FunctionKind.TheVariants.{Step as IsStep, Native as IsNative}
use Rattle.native_pairs.specs.declared.kind.FunctionKind.TheVariants.{LeftOut as IsLeftOut}
use Rattle.native_pairs.specs.Kinds.{is_call_glue}
use Rattle.native_merge.specs.CythonNames.{IsDemangled}
use Rattle.native_merge.specs.FunctionKinds.{function_kind}
use Rattle.native_merge.specs.MergedStacks.{StackItem, MergedFrame}
use Rattle.native_merge.specs.MergedStacks.StackItem.{Step, Shown}
use Rattle.native_merge.specs.MergedStacks.MergedFrame.{Python, Native}
use Rattle.native_merge.specs.Paths.{resolved}
use Rattle.native_merge.specs.SymbolCaches.{Answer}

-- what is shown of native code: a frame that was given, or an address that can't be looked up
pub data NativeItem : Type 0 where
  OfFrame : NativeFrame → NativeItem
  OfFault : ℕ → NativeItem

-- ---- which frames are left out

-- some bytes stand somewhere in a text
abbrev pub holds_piece : List ℕ → List ℕ → Bool
holds_piece piece [] = starts_with nat_eq [] piece
holds_piece piece (c ∷ cs) = starts_with nat_eq (c ∷ cs) piece || holds_piece piece cs

-- functions of the C library in which a process or a thread begins
abbrev pub is_thread_start : List ℕ → List ℕ → Bool
is_thread_start function module_name =
    ((bytes_eq function (codes "__libc_start_main") || bytes_eq function (codes "__clone"))
    && holds_piece (codes "/libc") module_name)
    || (bytes_eq function (codes "start_thread") && holds_piece (codes "/libpthread") module_name)

-- whether a function is left out: one that passes a call on, or one in which a process or thread begins
abbrev pub is_dropped_function : List ℕ → List ℕ → Bool
is_dropped_function function module_name = is_call_glue function || is_thread_start function module_name

-- the same by a function's name, where it is known
abbrev pub is_dropped_by : Option (List ℕ) → List ℕ → Bool
is_dropped_by None module_name = false
is_dropped_by (Some function) module_name = is_dropped_function (encode_utf8_all function) (encode_utf8_all module_name)

-- a native frame is shown nowhere
abbrev pub is_dropped : NativeFrame → Bool
is_dropped f = is_dropped_by f.function f.«module»

-- ---- what is shown of the others

-- an address where a name should stand
abbrev pub address_name : ℕ → List ℕ
address_name addr = chars (codes "0x" ++ digits 16 false addr)

-- the name of a frame's function as it was written, or its address
abbrev pub IsNameOf : ℕ → Option (List ℕ) → List ℕ → Type 0
IsNameOf addr None name = name ≡ address_name addr
IsNameOf addr (Some function) name = (left : List ℕ) × IsDemangled (encode_utf8_all function) left × (name ≡ chars left)

-- a source file where it is found with its module, else as it is named; the module where none is named
abbrev pub source_shown : (List ℕ → Bool) → List ℕ → Option (List ℕ) → List ℕ
source_shown exists module_name None = module_name
source_shown exists module_name (Some file) =
    unwrap_or (option_map chars (resolved exists (encode_utf8_all file) (encode_utf8_all module_name))) file

-- a line, where it is one of an i32
abbrev pub line_shown : Option ℕ → ℤ
line_shown None = pos 0
line_shown (Some line) = if nat_lt line (2 ^ 31) then pos line else pos 0

-- the file and the line of a frame; only the module where its function is not known
abbrev pub file_of_native : (List ℕ → Bool) → NativeFrame → Option (List ℕ) → List ℕ
file_of_native exists f None = f.«module»
file_of_native exists f (Some function) = source_shown exists f.«module» f.filename

-- the line of a native frame; 0 where its function or its line is not known
abbrev pub line_of_native : NativeFrame → Option (List ℕ) → ℤ
line_of_native f None = pos 0
line_of_native f (Some function) = line_shown f.line

-- the call of a native frame: both marks are set
abbrev pub native_call : List ℕ → List ℕ → Option (List ℕ) → ℤ → Call
native_call name file held line = record {
  name = name;
  filename = file;
  «module» = held;
  short_filename = None;
  line = line;
  locals = None;
  is_entry = true;
  is_shim_entry = true;
}

-- a native frame is shown as this call
pub record ShowsNative (exists : List ℕ → Bool) (f : NativeFrame) (call : Call) : Type 0 where
  pub name : IsNameOf f.addr f.function call.name
  pub others : call ≡ native_call call.name (file_of_native exists f f.function) (Some f.«module»)
      (line_of_native f f.function)

-- the call of an address that can't be looked up
abbrev pub fault_call : ℕ → Call
fault_call addr = native_call (address_name addr) (chars (codes "?")) None (pos 0)

-- a merged frame is shown as this call
abbrev pub ShowsFrame : (List ℕ → Bool) → MergedFrame Call NativeItem → Call → Type 0
ShowsFrame exists (Python c) call = call ≡ c
ShowsFrame exists (Native (OfFrame f)) call = ShowsNative exists f call
ShowsFrame exists (Native (OfFault addr)) call = call ≡ fault_call addr

-- ---- what an answer adds

-- a native frame, unless it is left out
abbrev pub items_shown : NativeFrame → List (StackItem NativeItem)
items_shown f = if is_dropped f then [] else Shown (OfFrame f) ∷ []

-- what a frame of Python's own native code adds, by its kind: a step, itself, or nothing
abbrev pub judged : NativeFrame → FunctionKind → List (StackItem NativeItem)
judged f IsStep = Step ∷ []
judged f IsNative = items_shown f
judged f IsLeftOut = []

-- what a frame adds, at an address of Python's and at any other
unfoldable pub items_met : Bool → NativeFrame → List (StackItem NativeItem)
items_met python f = if python then judged f (function_kind f.function) else items_shown f

-- what the answer for an address adds
unfoldable pub answer_items : Bool → ℕ → Answer → List (StackItem NativeItem)
answer_items python addr (Ok fs) = flat_map (items_met python) fs
answer_items python addr (Err e) = Shown (OfFault addr) ∷ []
