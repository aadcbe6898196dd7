-- Numbers that no record's size bounds, and groups that are there. This project's own rules.
use Rattle.std.specs.Prelude.{ℕ, List, Bool, ◌&&◌, zip}
use Rattle.std.specs.List.{AllByRecursion, list_any}
use Rattle.py_fields.specs.Sound.{IsPlain}

-- each number is one that no record's size bounds
abbrev pub ArePlain : List ℕ → Type 0
ArePlain numbers = AllByRecursion IsPlain numbers

-- whether both lists have true at one place
abbrev pub any_both : List Bool → List Bool → Bool
any_both one other = list_any (λ both. both.0 && both.1) (zip one other)
