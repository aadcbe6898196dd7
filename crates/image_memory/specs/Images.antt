-- Files by their paths.
use Rattle.std.specs.Prelude.{ℕ, nat_eq, Bool, List, map, Option, option_map}
use Rattle.std.specs.List.{find}
use Rattle.std.specs.Cmp.Lexicographic.{pointwise}
use Rattle.image_memory.specs.Mmap.{Mapped, shown_bytes}

-- paths and the bytes of the files there, in the order in which they were pushed
abbrev pub Pushed : Type 0
Pushed = List (List ℕ × Mapped)

-- whether an image was handed in under this path
abbrev pub is_under : List ℕ → List ℕ × Mapped → Bool
is_under path image = pointwise nat_eq image.0 path

-- the file that was pushed first under a path
abbrev pub first_under : List ℕ → Pushed → Option Mapped
first_under path pushed = option_map (λ image. image.1) (find (is_under path) pushed)

-- what each of them shows
abbrev pub images_shown : Pushed → List (List ℕ)
images_shown pushed = map (λ image. shown_bytes image.1) pushed
