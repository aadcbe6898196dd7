-- The JSON of how a chain ends, of a lock, and of why something isn't there: an object whose kind says which, with its
-- values. The keys of an object stand in the order of their bytes.
use Rattle.std.specs.Prelude.{ℕ, List, Option, Some, None, codes}
use Rattle.serde_json.specs.Data.{Data, member, no_members, null, number, object, string, unsigned}
use Rattle.serde_json.specs.Find.{of_integer}
use Rattle.py_builtins.specs.declared.error.ObjectError.{ObjectError}
use Rattle.py_builtins.specs.declared.error.ObjectError.TheVariants as names
use Rattle.py_stacks.specs.declared.error.StackError.{StackError}
use Rattle.py_stacks.specs.declared.error.StackError.TheVariants as locals
use Rattle.py_fronts.specs.declared.chain_end.ChainEnd.{ChainEnd}
use Rattle.py_fronts.specs.declared.chain_end.ChainEnd.TheVariants as chain
use Rattle.py_fronts.specs.declared.lock.LockState.{LockState}
use Rattle.py_fronts.specs.declared.lock.LockState.TheVariants.{Holder, Unreadable}
use Rattle.core_texts.specs.Parts.{address_text}

-- an address, as in 0x1f
abbrev pub address_tree : ℕ → Data
address_tree address = string (address_text address)

-- a kind without values
abbrev pub kind_tree : List ℕ → Data
kind_tree kind = object (member (codes "kind") (string kind) no_members)

-- a range that isn't in memory
abbrev pub missing_tree : (addr len : ℕ) → Data
missing_tree addr len = object (
    member (codes "address") (address_tree addr) (
    member (codes "kind") (string (codes "unreadable")) (
    member (codes "length") (number (unsigned len)) no_members)))

-- the end of a chain before a thread whose record names another interpreter, as JSON
abbrev pub stray_tree : ℕ → Data
stray_tree interpreter = object (
    member (codes "interpreter") (address_tree interpreter) (
    member (codes "kind") (string (codes "stray")) no_members))

-- how a chain ends
abbrev pub end_tree : ChainEnd → Data
end_tree chain.Whole = kind_tree (codes "whole")
end_tree chain.Cut = kind_tree (codes "cut")
end_tree (chain.Unreadable addr len) = missing_tree addr len
end_tree (chain.Stray interpreter) = stray_tree interpreter

-- a lock that was read, as JSON: the id of the thread that holds it, 0 where none does
abbrev pub holder_tree : ℕ → Data
holder_tree holder = object (
    member (codes "holder") (number (unsigned holder)) (
    member (codes "kind") (string (codes "read")) no_members))

-- the lock of an interpreter
abbrev pub lock_tree : LockState → Data
lock_tree (Holder holder) = holder_tree holder
lock_tree (Unreadable addr len) = missing_tree addr len

-- why a member has no names
abbrev pub why_tree : ObjectError → Data
why_tree (names.Unreadable addr len) = missing_tree addr len
why_tree (names.TooLong len) = object (
    member (codes "kind") (string (codes "too long")) (
    member (codes "length") (number (of_integer len)) no_members))
why_tree _ = kind_tree (codes "no text")

-- why the locals of a frame can't be read
abbrev pub fault_tree : StackError → Data
fault_tree (locals.Unreadable addr len) = missing_tree addr len
fault_tree (locals.LocalsLimit count) = object (
    member (codes "count") (number (of_integer count)) (
    member (codes "kind") (string (codes "too many")) no_members))
fault_tree _ = kind_tree (codes "bad")

-- that, or null where they can, or weren't asked for
abbrev pub fault_or_null : Option StackError → Data
fault_or_null (Some fault) = fault_tree fault
fault_or_null None = null
