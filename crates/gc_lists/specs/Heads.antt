-- The heads of the lists of a record, and whether they stand where they are looked for.
use Rattle.std.specs.Prelude.{ℕ, ◌+◌, ◌-◌, ◌^◌, nat_lt, nat_eq, ◌||◌, Bool, false, if◌then◌else◌}
use Rattle.std.specs.Prelude.{List, [], ◌∷◌, Option, Some, None}
use Rattle.std.specs.List.{flat_map}
use Rattle.gc_lists.specs.declared.heads.Heads.{Heads}
use Rattle.gc_lists.specs.declared.links.Links.{Links}
use Rattle.gc_lists.specs.declared.places.ListPlaces.{ListPlaces}

-- an address past the last one is the last one, at which no memory has a byte
abbrev pub capped : ℕ → ℕ
capped a = if nat_lt a (2 ^ 64) then a else 2 ^ 64 - 1

-- the heads of the lists of the record at an address
abbrev pub heads_at : ListPlaces → (base : ℕ) → Heads
heads_at p base = record {
  youngest = capped (base + p.generations);
  middle = capped (base + p.generations + p.generation_size);
  oldest = capped (base + p.generations + p.generation_size + p.generation_size);
  permanent = capped (base + p.permanent);
}

-- the heads of the four lists of a collector
abbrev pub heads_in : Heads → List ℕ
heads_in h = h.youngest ∷ h.middle ∷ h.oldest ∷ h.permanent ∷ []

-- those of some records
abbrev pub heads_of : ListPlaces → List ℕ → List ℕ
heads_of p bases = flat_map (λ base. heads_in (heads_at p base)) bases

-- ---- whether they stand there

-- whether a head's back link names this one
abbrev pub backs : Option Links → ℕ → Bool
backs (Some l) head = nat_eq l.back head
backs None head = false

-- whether a head's link to the next names this one
abbrev pub leads : Option Links → ℕ → Bool
leads (Some l) head = nat_eq l.next head
leads None head = false

-- whether the members beside a head name it
abbrev pub is_named : (after before : Option Links) → ℕ → Bool
is_named after before head = backs after head || leads before head

-- whether a head's neighbours name it, where its links can be read
abbrev pub held_by : Option Links → (ℕ → Option Links) → ℕ → Bool
held_by (Some l) links head = is_named (links l.next) (links l.back) head
held_by None links head = false

-- an address is that of a head of a list: what it leads to leads back to it, or what it names leads to it. In a
-- collection one of both may be otherwise for a time (`update_refs`, `move_unreachable` of Modules/gcmodule.c)
abbrev pub is_held : (ℕ → Option Links) → ℕ → Bool
is_held links head = held_by (links head) links head

-- the first of some heads that isn't one
unfoldable pub first_unheld : (ℕ → Option Links) → List ℕ → Option ℕ
first_unheld links [] = None
first_unheld links (h ∷ hs) = if is_held links h then first_unheld links hs else Some h

-- the first head that its neighbours don't name, where heads are checked (from 3.13 on)
abbrev pub unheld : ListPlaces → (ℕ → Option Links) → Heads → Option ℕ
unheld p links own = if p.heads_are_checked then first_unheld links (heads_in own) else None
