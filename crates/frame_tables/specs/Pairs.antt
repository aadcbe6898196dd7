-- Where an address stands among the pairs of a table.
use Rattle.std.specs.Prelude.{ℕ, ◌-◌, ◌<◌, ◌≤◌, List}
use Rattle.frame_tables.specs.declared.header.Heading.{Heading}
use Rattle.frame_tables.specs.Headers.{pair_at}

-- so many pairs, of which the last has a first address that is at most the address, and the next one's is past it
pub record IsBehind (file : List ℕ) (h : Heading) (address count : ℕ) : Type 0 where
  pub within : count ≤ h.count
  pub last : 0 < count → (pair_at file h (count - 1)).first ≤ address
  pub next : count < h.count → address < (pair_at file h count).first
