-- Lists as they are read, and what they cost.
use Rattle.std.specs.Prelude.{◌+◌, ℕ, length, Result, Ok, Err}
use Rattle.gc_lists.specs.declared.walk.GcList.{GcList}
use Rattle.gc_lists.specs.Rings.{Listing}

-- a list that was read, with its end
abbrev pub listing_of : GcList → Listing
listing_of list = record { members = list.members.items; end = list.end }

-- how many members of a list are met at most
abbrev pub most_members : ℕ
most_members = 4194304

-- the reads of a list: one of each member, and so many more
abbrev pub list_reads : {E : Type 0} → (more : ℕ) → Result GcList E → ℕ
list_reads more (Ok list) = length list.members.items + more
list_reads more (Err e) = most_members + more
