-- Why no core and image are written of a program.
use Rattle.std.specs.Prelude.{◌≡◌, ℕ, ◌+◌, ◌<◌, ◌≤◌, ◌^◌}
use Rattle.elf64_core.specs.declared.header.Machine.{Machine}
use Rattle.py_fields.specs.declared.version.Version.{Version}
use Rattle.py_fields.specs.declared.layout.Layout.{Layout}
use Rattle.memory_builder.specs.Program.{Program}
use Rattle.memory_builder.specs.Sizes.{capped, program_size}
use Rattle.py_stacks.specs.Lines.{family_of}
use Rattle.memory_builder.specs.Validity.{IsFirstInvalid, IsValidProgram}
use Rattle.image_builder.specs.declared.error.BuildError.{BuildError}
use Rattle.image_builder.specs.declared.error.BuildError.TheVariants.{Uncovered, NotValid, NoRoom, OutOfMemory}
use Rattle.image_builder.specs.Covered.{IsCovered}

-- the most bytes that a core has: those of its objects, and 2^18 for the rest; or 2^64 - 1 where that is less
abbrev pub room_for : Layout → Program → ℕ
room_for l p = capped (2 ^ 18 + program_size l p)

-- a program that is written, for a layout, a version and a machine
pub record IsBuildable (l : Layout) (v : Version) (machine : Machine) (p : Program) : Type 0 where
  pub covered : IsCovered l v machine p.owner
  pub valid : IsValidProgram (family_of l.lines) p
  pub room : room_for l p ≤ 2 ^ 30

-- each cause, behind those that come before it
pub record IsNotValid (l : Layout) (v : Version) (machine : Machine) (p : Program) (thread frame : ℕ) : Type 0 where
  pub covered : IsCovered l v machine p.owner
  pub first : IsFirstInvalid (family_of l.lines) p (record { thread = thread; frame = frame })

-- a program that could be written, but whose core could have more than 2^30 bytes: so many
pub record HasNoSpace (l : Layout) (v : Version) (machine : Machine) (p : Program) (needed : ℕ) : Type 0 where
  pub covered : IsCovered l v machine p.owner
  pub valid : IsValidProgram (family_of l.lines) p
  pub beyond : 2 ^ 30 < needed
  pub needed_is : needed ≡ room_for l p

-- why a program isn't written; out of memory may come once it is covered
abbrev pub IsUnbuilt : Layout → Version → Machine → Program → BuildError → Type 0
IsUnbuilt l v machine p Uncovered = ¬ IsCovered l v machine p.owner
IsUnbuilt l v machine p (NotValid thread frame) = IsNotValid l v machine p thread frame
IsUnbuilt l v machine p (NoRoom needed) = HasNoSpace l v machine p needed
IsUnbuilt l v machine p OutOfMemory = IsCovered l v machine p.owner
