-- How many reads there are at most.
use Rattle.std.proofs.Common.{ℕ, ◌+◌, ◌*◌, ◌/◌, ◌≤◌, arith}
use Rattle.std.specs.Prelude.{min}
use Rattle.py_builtins.specs.TextKind.{width}
use Rattle.py_builtins.specs.declared.coding.TextKind.{TextKind}
use Rattle.py_builtins.specs.declared.coding.TextKind.TheVariants.{Utf8, Latin1, Utf16, Utf32}

-- the pieces of a text's first units
pub few_units : (length most : ℕ) (k : TextKind) → min length most * width k / 4096 + 1 ≤ most / 1024 + 1
few_units length most Utf8 = omega arith
few_units length most Latin1 = omega arith
few_units length most Utf16 = omega arith
few_units length most Utf32 = omega arith
