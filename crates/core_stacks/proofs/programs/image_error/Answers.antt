use Rattle.std.proofs.Common.{◌∙◌, sym, ap}
use Rattle.std.specs.Option.{option_copied}
use Rattle.image_memory.specs.Images.{first_under}
use Rattle.core_stacks.proofs.programs.image_error.Goals as goal

pub returns-in-Some : goal.returns-in-Some
returns-in-Some c = (
  c.in-Ok.ensures ∙ c.path_of.ensures,
  record {
    image = c.in-Some.field-0.now;
    held = ap (λ path. first_under path c.args.images.now) (sym c.path_of-2.ensures) ∙ sym c.get.ensures ∙ ap option_copied c.in-Some.is;
    none = c.requires;
  },
)
