-- How much is shown of a value. The numbers are this project's: four times as much with each further `-l`, and four more
-- levels; what is shown with fewer is shown with more.
use Rattle.std.specs.Prelude.{ℕ, ◌-◌, ◌*◌, ◌/◌, ◌==◌, nat_le, min, if◌then◌else◌}
use Rattle.py_reprs.specs.declared.limits.Limits.{Limits}

-- so many times the first limits: characters, items and nodes of a value, with a number of levels
abbrev pub limits_by : (times levels : ℕ) → Limits
limits_by times levels = record {
  characters = 1024 * times;
  items = 64 * times;
  levels = levels;
  nodes = 4096 * times;
}

-- the limits at so many `-l`, of which there are one to five
unfoldable pub limits_at : ℕ → Limits
limits_at l =
    if nat_le l 1 then limits_by 1 4
    else if l == 2 then limits_by 4 8
    else if l == 3 then limits_by 16 12
    else if l == 4 then limits_by 64 16
    else limits_by 256 20

-- of so many nodes, each of the shown items has this share for the values within it
unfoldable pub share : (nodes shown : ℕ) → ℕ
share nodes shown = if shown == 0 then 0 else (nodes - shown) / shown

-- how many items are shown of a container that has so many
abbrev pub shown_count : (items nodes count : ℕ) → ℕ
shown_count items nodes count = min count (min items nodes)

-- how many entries are shown of a dict: each is two values
abbrev pub shown_entries : (items nodes count : ℕ) → ℕ
shown_entries items nodes count = min count (min items (nodes / 2))
