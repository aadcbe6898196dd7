use Rattle.std.proofs.Common.{ap, ◌∙◌, not, Some, None}
use Rattle.std.specs.Prelude.{if◌then◌else◌}
use Rattle.maps_text.specs.declared.error.MapsError.TheVariants.{NoDevice}
use Rattle.maps_text.specs.Fields.{behind, trimmed}
use Rattle.maps_text.proofs.Trims.{is_trimmed}
use Rattle.maps_text.proofs.line.path_in.Goals as goal

pub returns-in-Some-cut_field : goal.returns-in-Some-cut_field
returns-in-Some-cut_field c =
    let device = c.in-Some.ensures in
    let inode = c.in-Some-cut_field.ensures in (
      ap (λ b. if not b then Some NoDevice else None) device.0,
      is_trimmed _ _ c.trim_ascii.ensures.value ∙ ap trimmed (inode.2 ∙ ap behind device.2),
    )
