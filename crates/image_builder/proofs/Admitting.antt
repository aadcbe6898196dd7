-- What the first invalid place, if any, says of a program.
use Rattle.std.proofs.Common.{◌≡◌, ◌+◌, ◌^◌, ◌-◌, ℕ, subst, arith}
use Rattle.std.specs.Prelude.{Option, Some, None, MatchOption, min}
use Rattle.py_lines.specs.declared.lines.LineFamily.{LineFamily}
use Rattle.memory_builder.specs.declared.validity.FramePlace.{FramePlace}
use Rattle.memory_builder.specs.Program.{Program}
use Rattle.memory_builder.specs.Sizes.{capped}
use Rattle.memory_builder.specs.Validity.{IsFirstInvalid, IsValidProgram}

pub found_first : (family known : LineFamily) (p : Program) (o : Option FramePlace) (place : FramePlace)
    → family ≡ known → o ≡ Some place
    → MatchOption o (IsValidProgram family p) (IsFirstInvalid family p) → IsFirstInvalid known p place
found_first family known p o place same is h = subst (λ f. IsFirstInvalid f p place) same
    (subst (λ o. MatchOption o (IsValidProgram family p) (IsFirstInvalid family p)) is h)

pub none_first : (family known : LineFamily) (p : Program) (o : Option FramePlace) → family ≡ known → o ≡ None
    → MatchOption o (IsValidProgram family p) (IsFirstInvalid family p) → IsValidProgram known p
none_first family known p o same is h = subst (λ f. IsValidProgram f p) same
    (subst (λ o. MatchOption o (IsValidProgram family p) (IsFirstInvalid family p)) is h)

pub needed_is : (needed size objects : ℕ) → size ≡ capped objects → needed ≡ min (size + 2 ^ 18) (2 ^ 64 - 1)
    → needed ≡ capped (2 ^ 18 + objects)
needed_is needed size objects is sum = omega arith
