-- The statuses of the causes that programs share: this project's own numbers.
use Rattle.std.specs.Prelude.{ℕ}
use Rattle.py_layout.specs.declared.error.LayoutError.{LayoutError}
use Rattle.py_layout.specs.declared.error.LayoutError.TheVariants as layout
use Rattle.py_process.specs.declared.core_error.CoreError.{CoreError}
use Rattle.py_process.specs.declared.core_error.CoreError.TheVariants as core

-- a core that can't be worked on: out of memory has one status, wherever it came
abbrev pub core_status : CoreError → ℕ
core_status core.OutOfMemory = 5
core_status _ = 1

-- a layout file that is refused
abbrev pub layouts_status : LayoutError → ℕ
layouts_status layout.OutOfMemory = 5
layouts_status _ = 6
