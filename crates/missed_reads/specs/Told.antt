-- What was refused, as it is told, and as JSON. The keys of an object stand in the order of their bytes.
use Rattle.std.specs.Prelude.{ℕ, List, map, codes}
use Rattle.serde_json.specs.Data.{Data, array, member, no_members, number, object, unsigned}
use Rattle.serde_json.specs.View.{items_of}
use Rattle.missed_reads.specs.Refused.{Refused}
use Rattle.missed_reads.specs.declared.told.MissedBlocks.{MissedBlocks}

-- the numbers of blocks, and how many ranges there were besides
pub record RefusedTold : Type 0 where
  pub numbers : List ℕ
  pub above : ℕ

-- the refused reads, as blocks of addresses
abbrev pub told_of : Refused → RefusedTold
told_of r = record { numbers = r.blocks.keys; above = r.above }

-- the code's own value of it
abbrev pub blocks_told : MissedBlocks → RefusedTold
blocks_told m = record { numbers = m.numbers.items; above = m.above }

-- JSON of the number of a block
abbrev pub number_tree : ℕ → Data
number_tree n = number (unsigned n)

-- JSON of the numbers of blocks
abbrev pub numbers_tree : List ℕ → Data
numbers_tree numbers = array (items_of (map number_tree numbers))

-- JSON of the refused reads
abbrev pub missed_tree : RefusedTold → Data
missed_tree told = object (
    member (codes "above") (number_tree told.above) (
    member (codes "blocks") (numbers_tree told.numbers) no_members))
