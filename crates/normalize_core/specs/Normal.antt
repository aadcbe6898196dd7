-- What addresses are normalized to, or why they are refused.
use Rattle.std.specs.Prelude.{◌≡◌, ℕ, Bool, true, false, not, ◌&&◌, List, [], ◌∷◌, map, Option, Some, None, Result, Ok}
use Rattle.std.specs.Prelude.{Err}
use Rattle.std.specs.List.{AllZip, list_any, position_or_len}
use Rattle.std.specs.List.Sorted.{IsPermutation}
use Rattle.elf64_core.specs.Outcomes.{first_cause}
use Rattle.image_memory.specs.Images.{Pushed}
use Rattle.maps_text.specs.declared.entry.MapsEntry.{MapsEntry}
use Rattle.normalize_core.specs.declared.error.NormalizeError.{NormalizeError}
use Rattle.normalize_core.specs.declared.error.NormalizeError.TheVariants.{NoEntries, EntriesUnsorted, AddrsUnsorted}
use Rattle.normalize_core.specs.declared.error.NormalizeError.TheVariants.{OffsetOverflow}
use Rattle.normalize_core.specs.declared.meta.UserMeta.{UserMeta}
use Rattle.normalize_core.specs.declared.meta.UserMeta.TheVariants as meta
use Rattle.normalize_core.specs.BuildIds.{IsBuildId, own_id}
use Rattle.normalize_core.specs.Firsts.{firsts}
use Rattle.normalize_core.specs.Order.{ascends, in_order}
use Rattle.normalize_core.specs.Targets.{Target, covering, target_at, normal_value_at, overflows, meets}

-- what a call is given besides the addresses: the entries, the images, and whether build ids are on and files
-- are reported by their ranges
pub record Asked : Type 0 where
  pub entries : List MapsEntry
  pub images : Pushed
  pub build_ids : Bool
  pub map_files : Bool

-- what normalizing is asked for
abbrev pub normalizing_by : Bool → List MapsEntry → Pushed → Bool → Asked
normalizing_by build_ids entries images map_files = record {
  entries = entries;
  images = images;
  build_ids = build_ids;
  map_files = map_files;
}

-- the meta of a target that is first met by this entry
abbrev pub IsMetaOf : Asked → Option MapsEntry → Target → UserMeta → Type 0
IsMetaOf asked entry (Err reason) m = m ≡ meta.Unknown (record { reason = reason })
IsMetaOf asked entry (Ok path) m = (id : Option (List ℕ))
    × IsBuildId asked.build_ids asked.images path (own_id entry) id
    × (m ≡ meta.Elf (record { path = path; build_id = id }))

-- the meta of a target that is first met at an address
abbrev pub IsMetaAt : Asked → ℕ → UserMeta → Type 0
IsMetaAt asked addr m =
    IsMetaOf asked (covering asked.entries addr) (target_at asked.entries asked.map_files addr) m

-- those of the ascending addresses at which a target is met first
abbrev pub first_addrs : Asked → List ℕ → List ℕ
first_addrs asked ascending = firsts (meets asked.entries asked.map_files) ascending

-- the number, among those, of the one that has the target of an address
abbrev pub meta_number_at : Asked → List ℕ → ℕ → ℕ
meta_number_at asked ascending addr =
    position_or_len (meets asked.entries asked.map_files addr) (first_addrs asked ascending)

-- the output of an address: its place in the file, and the number of its meta
abbrev pub output_at : Asked → List ℕ → ℕ → ℕ × ℕ
output_at asked ascending addr = (normal_value_at asked.entries addr, meta_number_at asked ascending addr)

-- an output as plain lists
pub record Normal : Type 0 where
  pub outputs : List (ℕ × ℕ)
  pub metas : List UserMeta

-- One output for each address, in the order of the addresses, and one meta for each path and each reason, in
-- the order in which the ascending addresses first meet them
pub record IsNormal (asked : Asked) (addrs : List ℕ) (normal : Normal) : Type 0 where
  pub ascending : List ℕ
  pub same : IsPermutation addrs ascending
  pub sorted : ascends ascending ≡ true
  pub outputs : normal.outputs ≡ map (output_at asked ascending) addrs
  pub metas : AllZip (IsMetaAt asked) (first_addrs asked ascending) normal.metas

-- whether there are no maps
abbrev pub is_empty : List MapsEntry → Bool
is_empty [] = true
is_empty (entry ∷ entries) = false

-- what may be wrong, in the order in which it is looked for; each cause stands with whether it is so
abbrev pub normalizing_faults : Asked → Bool → List ℕ → List (Bool × NormalizeError)
normalizing_faults asked sorted_addrs addrs =
    (is_empty asked.entries, NoEntries)
    ∷ (not (in_order asked.entries), EntriesUnsorted)
    ∷ (sorted_addrs && not (ascends addrs), AddrsUnsorted)
    ∷ (list_any (overflows asked.entries) addrs, OffsetOverflow) ∷ []

-- the right answer: the first fault, or else what the addresses are normalized to
abbrev pub IsNormalOrFault : Asked → Bool → List ℕ → Result Normal NormalizeError → Type 0
IsNormalOrFault asked sorted_addrs addrs (Ok normal) =
    (first_cause (normalizing_faults asked sorted_addrs addrs) ≡ None) × IsNormal asked addrs normal
IsNormalOrFault asked sorted_addrs addrs (Err error) =
    first_cause (normalizing_faults asked sorted_addrs addrs) ≡ Some error
