-- The numbers of lines.
use Rattle.std.specs.Prelude.{ℕ, ◌++◌, ◌==◌, if◌then◌else◌, List, [], codes, decimal}

-- where it is known
abbrev pub line_text : ℕ → List ℕ
line_text n = if n == 0 then [] else codes ":" ++ decimal n
