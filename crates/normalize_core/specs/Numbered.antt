-- The numbers of metas.
use Rattle.std.specs.Prelude.{ℕ, Option, Ok, Err}
use Rattle.std.specs.Ordering.{nat_cmp}
use Rattle.std.specs.Cmp.Lexicographic.{slice_cmp}
use Rattle.std.specs.BTreeMap as tree
use Rattle.normalize_core.specs.declared.meta.Reason.TheVariants.{Unmapped, MissingComponent, Unsupported}
use Rattle.normalize_core.specs.declared.numbers.Numbers.{Numbers}
use Rattle.normalize_core.specs.Targets.{Target}

-- the number of a target, if it has one
abbrev pub number_in : Numbers → Target → Option ℕ
number_in numbers (Ok path) = tree.get_by (λ key. slice_cmp nat_cmp path key.now) numbers.files
number_in numbers (Err Unmapped) = numbers.unmapped
number_in numbers (Err MissingComponent) = numbers.missing
number_in numbers (Err Unsupported) = numbers.unsupported
