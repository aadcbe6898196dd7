-- The lists of an interpreter, or of the runtime up to 3.8.
use Rattle.std.specs.Prelude.{◌≡◌, ◌≢◌, ℕ, ◌+◌, ◌*◌, ◌++◌, nat_eq, not, Bool, List, [], ◌∷◌, length, ⊤}
use Rattle.std.specs.Prelude.{Option, Some, None, Result, Ok, Err}
use Rattle.elf64_core.specs.Fields.{u32_in}
use Rattle.process_memory.specs.Memory.{Found, Memory, record_at}
use Rattle.gc_lists.specs.declared.heads.Heads.{Heads}
use Rattle.gc_lists.specs.declared.links.Links.{Links}
use Rattle.gc_lists.specs.declared.lists.Collected.{Collected}
use Rattle.gc_lists.specs.declared.lists.Collected.TheVariants as collected
use Rattle.gc_lists.specs.declared.lists.Lists.{Lists}
use Rattle.gc_lists.specs.declared.places.ListPlaces.{ListPlaces}
use Rattle.gc_lists.specs.Heads.{heads_at, heads_in, heads_of, unheld}
use Rattle.gc_lists.specs.Links.{links_at}
use Rattle.gc_lists.specs.Rings.{AreApart, Listed, Listing, list_at}
use Rattle.gc_lists.specs.Walks.{listing_of, most_members}

-- the lists of all generations
pub record Four : Type 0 where
  pub collecting : Option Bool
  pub youngest : Listing
  pub middle : Listing
  pub oldest : Listing
  pub permanent : Listing

-- the lists; or the first head that isn't one
pub data Told : Type 0 where
  AreHere : Four → Told
  Elsewhere : (head : ℕ) → Told

-- the four lists of a collector, as they were read
abbrev pub four_of : Lists → Four
four_of l = record {
  collecting = l.collecting;
  youngest = listing_of l.youngest;
  middle = listing_of l.middle;
  oldest = listing_of l.oldest;
  permanent = listing_of l.permanent;
}

-- the lists that were read, or the head that shows that they stand elsewhere
abbrev pub told_of : Collected → Told
told_of (collected.Lists lists) = AreHere (four_of lists)
told_of (collected.Elsewhere head) = Elsewhere head

-- whether a number of four bytes isn't 0, where it can be read
abbrev pub is_set : Found (List ℕ) → Option Bool
is_set (Ok bytes) = Some (not (nat_eq (u32_in bytes 0) 0))
is_set (Err f) = None

-- whether a collection runs: the 4 bytes are not 0
abbrev pub collecting_at : ListPlaces → Memory → (base : ℕ) → Option Bool
collecting_at p m base = is_set (record_at m (base + p.collecting) 4)

-- the heads at which a list of a record is torn: its own and those of some records
abbrev pub all_heads : ListPlaces → (bases : List ℕ) → (base : ℕ) → List ℕ
all_heads p bases base = heads_in (heads_at p base) ++ heads_of p bases

-- each of four lists is that of its head
pub record AreListed (links : ℕ → Option Links) (heads : List ℕ) (own : Heads) (runs : Option Bool) (four : Four)
    : Type 0 where
  pub collecting : four.collecting ≡ runs
  pub youngest : Listed links heads most_members own.youngest four.youngest
  pub middle : Listed links heads most_members own.middle four.middle
  pub oldest : Listed links heads most_members own.oldest four.oldest
  pub permanent : Listed links heads most_members own.permanent four.permanent

-- the lists are told, or the first head that isn't one of a list
abbrev pub IsToldBy : Option ℕ → (Four → Type 0) → Told → Type 0
IsToldBy None are (AreHere four) = are four
IsToldBy None are (Elsewhere head) = ⊥
IsToldBy (Some h) are (AreHere four) = ⊥
IsToldBy (Some h) are (Elsewhere head) = head ≡ h

-- the lists of the record at an address, where its heads are heads or are not checked
abbrev pub IsTold : ListPlaces → (bases : List ℕ) → Memory → (base : ℕ) → Told → Type 0
IsTold p bases m base told = IsToldBy (unheld p (links_at p.mask m) (heads_at p base))
    (AreListed (links_at p.mask m) (all_heads p bases base) (heads_at p base) (collecting_at p m base)) told

-- a list with the address of its head
abbrev pub Headed : Type 0
Headed = ℕ × List ℕ

-- two lists with different heads have no member in common
abbrev pub IsApartFrom : Headed → Headed → Type 0
IsApartFrom x y = x.0 ≢ y.0 → AreApart x.1 y.1

-- a list has no member in common with those of other heads
abbrev pub IsApartFromAll : Headed → List Headed → Type 0
IsApartFromAll x [] = ⊤
IsApartFromAll x (y ∷ ys) = IsApartFrom x y × IsApartFromAll x ys

-- no two lists have an address in common, where their heads stand apart
abbrev pub AreAllApart : List Headed → Type 0
AreAllApart [] = ⊤
AreAllApart (x ∷ xs) = IsApartFromAll x xs × AreAllApart xs

-- the four lists, each with its head
abbrev pub headed : Heads → Four → List Headed
headed own f = (own.youngest, f.youngest.members) ∷ (own.middle, f.middle.members) ∷ (own.oldest, f.oldest.members)
    ∷ (own.permanent, f.permanent.members) ∷ []

-- no two of the four lists have a member in common
abbrev pub ArePairsApart : Heads → Told → Type 0
ArePairsApart own (AreHere four) = AreAllApart (headed own four)
ArePairsApart own (Elsewhere head) = ⊤

-- ---- the same, as it is read

-- the four lists of a collector, as memory has them
abbrev pub four_at : (ℕ → Option Links) → List ℕ → Heads → Option Bool → Four
four_at links heads own collecting = record {
  collecting = collecting;
  youngest = list_at links heads most_members own.youngest;
  middle = list_at links heads most_members own.middle;
  oldest = list_at links heads most_members own.oldest;
  permanent = list_at links heads most_members own.permanent;
}

-- the lists, or the head that shows that they stand elsewhere
abbrev pub told_by : Option ℕ → Four → Told
told_by None four = AreHere four
told_by (Some head) four = Elsewhere head

-- what is told of the lists of a collector at an address
abbrev pub told_at : ListPlaces → (bases : List ℕ) → Memory → (base : ℕ) → Told
told_at p bases m base = told_by (unheld p (links_at p.mask m) (heads_at p base))
    (four_at (links_at p.mask m) (all_heads p bases base) (heads_at p base) (collecting_at p m base))

-- ---- reads

-- how many members lists have
abbrev pub members_in : Lists → ℕ
members_in l = length l.youngest.members.items + length l.middle.members.items + length l.oldest.members.items
    + length l.permanent.members.items

-- one read of each member, and so many more
abbrev pub lists_reads : {E : Type 0} → (more : ℕ) → Result Lists E → ℕ
lists_reads more (Ok lists) = members_in lists + more
lists_reads more (Err e) = 4 * most_members + more

-- how many members were read
abbrev pub members_of : Collected → ℕ
members_of (collected.Lists lists) = members_in lists
members_of (collected.Elsewhere head) = 0

-- at most how many reads the lists take: one for each member, and 21
abbrev pub collected_reads : {E : Type 0} → Result Collected E → ℕ
collected_reads (Ok found) = members_of found + 21
collected_reads (Err e) = 4 * most_members + 21
