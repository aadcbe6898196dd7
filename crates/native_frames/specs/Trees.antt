-- The JSON of a native stack. The keys of an object stand in the order of their bytes. Addresses are texts: a number of
-- JSON is exact up to 2^53 alone.
use Rattle.std.specs.Prelude.{ℕ, List, map, Option, Some, None, slice_get, codes, encode_utf8_all}
use Rattle.bstr.specs.Utf8.{lossy_chars}
use Rattle.serde_json.specs.Data.{Data, array, boolean, member, no_members, null, number, object, string, unsigned}
use Rattle.serde_json.specs.View.{items_of}
use Rattle.core_unwind.specs.declared.end.End.{End}
use Rattle.core_unwind.specs.declared.end.End.TheVariants as how
use Rattle.core_unwind.specs.declared.end.Limit.TheVariants as most
use Rattle.core_unwind.specs.declared.end.Refusal.TheVariants as why
use Rattle.core_unwind.specs.declared.mark.Mark.{Mark}
use Rattle.core_unwind.specs.declared.place.CodePlace.{CodePlace}
use Rattle.native_frames.specs.declared.stacks.Function.{Function}
use Rattle.native_frames.specs.declared.stacks.NativeFrame.{NativeFrame}
use Rattle.native_frames.specs.Text.{address_text, first_frames, frames_between, guess_text, last_frames}
use Rattle.native_frames.specs.Threads.{StackShown}

-- an address as a text, as in `0x1f`; null where there is none
abbrev pub address_tree : Option ℕ → Data
address_tree (Some address) = string (address_text address)
address_tree None = null

-- a name as text: U+FFFD stands for what is no UTF-8
abbrev pub name_tree : List ℕ → Data
name_tree name = string (encode_utf8_all (lossy_chars name))

-- the path of a file; null where there is none
abbrev pub missing_tree : Option (List ℕ) → Data
missing_tree (Some path) = name_tree path
missing_tree None = null

-- the path of the file of a number
abbrev pub file_tree : List (List ℕ) → Option ℕ → Data
file_tree files (Some file) = missing_tree (slice_get files file)
file_tree files None = null

-- the name of a frame's function; null where none covers its address
abbrev pub function_name_tree : Option Function → Data
function_name_tree (Some f) = name_tree f.name
function_name_tree None = null

-- how far into its function a frame stands, in bytes, as a number; null where there is none
abbrev pub offset_tree : Option Function → Data
offset_tree (Some f) = number (unsigned f.offset)
offset_tree None = null

-- the number of the file in which a frame stands
abbrev pub place_file : Option CodePlace → Option ℕ
place_file (Some place) = Some place.file
place_file None = None

-- the file's own address at which a frame stands
abbrev pub place_address : Option CodePlace → Option ℕ
place_address (Some place) = Some place.address
place_address None = None

-- by what something was found
abbrev pub mark_tree : Option Mark → Data
mark_tree (Some mark) = string (guess_text mark)
mark_tree None = null

-- a frame
abbrev pub frame_tree : List (List ℕ) → NativeFrame → Data
frame_tree files f = object (
    member (codes "address") (address_tree (place_address f.frame.place)) (
    member (codes "cfa") (address_tree f.frame.cfa) (
    member (codes "exact") (boolean f.frame.is_exact) (
    member (codes "file") (file_tree files (place_file f.frame.place)) (
    member (codes "function") (function_name_tree f.function) (
    member (codes "mark") (mark_tree f.frame.mark) (
    member (codes "offset") (offset_tree f.function) (
    member (codes "pc") (address_tree (Some f.frame.pc)) (
    member (codes "signal") (boolean f.frame.is_signal) no_members)))))))))

-- some frames, as an array
abbrev pub frames_tree : List (List ℕ) → List NativeFrame → Data
frames_tree files frames = array (items_of (map (λ f. frame_tree files f) frames))

-- ---- ends

-- the word for how a stack ends
abbrev pub end_kind : End → List ℕ
end_kind how.Whole = codes "whole"
end_kind (how.NoTable at) = codes "no table"
end_kind (how.NoFile at) = codes "no file"
end_kind (how.Unreadable at) = codes "unreadable"
end_kind (how.Refused (why.Table error)) = codes "bad table"
end_kind (how.Refused (why.Record error)) = codes "bad record"
end_kind (how.Refused (why.Row error)) = codes "bad rules"
end_kind (how.Refused why.Cfa) = codes "no frame address"
end_kind (how.Refused why.ReturnAddress) = codes "no return address"
end_kind how.NotAbove = codes "not above"
end_kind (how.Cut most.Frames) = codes "cut at frames"
end_kind (how.Cut most.Signals) = codes "cut at signals"
end_kind (how.Cut most.Bytes) = codes "cut at rules"

-- the address that an end names
abbrev pub end_address : End → Option ℕ
end_address (how.NoTable at) = Some at
end_address (how.NoFile at) = Some at
end_address (how.Unreadable at) = Some at
end_address other = None

-- how a stack ends: the address, the file that is not at hand, and the word for it
abbrev pub end_tree : List (List ℕ) → End → Option ℕ → Data
end_tree files end missing = object (
    member (codes "at") (address_tree (end_address end)) (
    member (codes "file") (file_tree files missing) (
    member (codes "kind") (string (end_kind end)) no_members)))

-- ---- a stack

-- a stack: its first frames, how many are left out, its last ones, by what it was guessed, and how it ends
abbrev pub stack_tree : List (List ℕ) → (limit : ℕ) → StackShown → Data
stack_tree files limit s = object (
    member (codes "between") (number (unsigned (frames_between limit s.frames))) (
    member (codes "end") (end_tree files s.end s.missing) (
    member (codes "frames") (frames_tree files (first_frames limit s.frames)) (
    member (codes "guess") (mark_tree s.guess) (
    member (codes "last") (frames_tree files (last_frames limit s.frames)) no_members)))))
