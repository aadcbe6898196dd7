-- What has been met.
use Rattle.std.specs.Prelude.{◌≡◌, ℕ, Bool, List, length, unwrap_or}
use Rattle.std.specs.List.{AllZip, position}
use Rattle.normalize_core.specs.declared.metas.Metas.{Metas}
use Rattle.normalize_core.specs.Normal.{Asked, IsMetaAt, first_addrs}
use Rattle.normalize_core.specs.Numbered.{number_in}
use Rattle.normalize_core.specs.Targets.{Target, same_target, target_at, normal_value_at}

-- an address has a target
abbrev pub has_target : Asked → Target → ℕ → Bool
has_target asked target addr = same_target target (target_at asked.entries asked.map_files addr)

-- addresses have been met, in this order: each target that is met has its number, and its meta
pub record HasMet (asked : Asked) (met : List ℕ) (metas : Metas) : Type 0 where
  pub numbers : (target : Target) → number_in metas.numbers target
      ≡ position (has_target asked target) (first_addrs asked met)
  pub list : AllZip (IsMetaAt asked) (first_addrs asked met) metas.list.items

-- the number of a target; that of the metas where it was not met
abbrev pub meta_number_of : Metas → Target → ℕ
meta_number_of metas target = unwrap_or (number_in metas.numbers target) (length metas.list.items)

-- the output of an address by what has been met
abbrev pub output_by : Asked → Metas → ℕ → ℕ × ℕ
output_by asked metas addr =
    (normal_value_at asked.entries addr, meta_number_of metas (target_at asked.entries asked.map_files addr))
