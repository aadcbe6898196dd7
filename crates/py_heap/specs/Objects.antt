-- The objects of the collector's lists: each stands behind its head (`FROM_GC` of Modules/gcmodule.c). An address past
-- the last one is the last one, at which no memory has a record.
use Rattle.std.specs.Prelude.{ℕ, ◌+◌, ◌-◌, ◌^◌, ◌++◌, min, List, map}
use Rattle.gc_lists.specs.Lists.{Four}

-- the address of the object behind a collector's head (`PyGC_Head`)
abbrev pub object_at : (head_size member : ℕ) → ℕ
object_at head_size member = min (member + head_size) (2 ^ 64 - 1)

-- the addresses of the objects of a list
abbrev pub objects_in : (head_size : ℕ) → List ℕ → List ℕ
objects_in head_size members = map (λ a. object_at head_size a) members

-- those of all lists, from the youngest generation to the permanent one
abbrev pub objects_of : (head_size : ℕ) → Four → List ℕ
objects_of h four = objects_in h four.youngest.members ++ (objects_in h four.middle.members
    ++ (objects_in h four.oldest.members ++ objects_in h four.permanent.members))
