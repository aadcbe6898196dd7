-- Looking an address up in a table whose entries ascend and don't meet.
use Rattle.std.specs.Prelude.{◌≡◌, ℕ, ◌+◌, ◌*◌, ◌≤◌, ◌^◌, true, List, Some, slice_get}
use Rattle.elf64_core.specs.declared.span_table.TableEntry.{TableEntry}
use Rattle.piece_table.specs.Overlays.{spans}

-- an entry that holds an address
pub record IsHit (table : List TableEntry) (addr number : ℕ) (entry : TableEntry) : Type 0 where
  pub is : slice_get table number ≡ Some entry
  pub holds : spans addr entry ≡ true

-- as many steps were counted as it takes to halve so many entries
pub record HalvesIn (count before after : ℕ) : Type 0 where
  pub steps : ℕ
  pub counted : after ≡ before + steps
  pub few : 2 ^ steps ≤ 2 * count + 1
