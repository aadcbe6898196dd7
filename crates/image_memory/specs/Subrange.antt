-- Ranges of addresses that lie in each other.
use Rattle.std.specs.Prelude.{ℕ, ◌+◌, ◌-◌, ◌<◌, ◌≤◌, ◌^◌}

-- of two ranges neither is empty, neither ends past 2^64 - 1, and the second lies in the first
pub record IsSubrange (start size sub_start sub_size : ℕ) : Type 0 where
  pub some : 0 < size
  pub sub_some : 0 < sub_size
  pub ends : start + size ≤ 2 ^ 64 - 1
  pub sub_ends : sub_start + sub_size ≤ 2 ^ 64 - 1
  pub begins_within : start ≤ sub_start
  pub ends_within : sub_start + sub_size ≤ start + size
