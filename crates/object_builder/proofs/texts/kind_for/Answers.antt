use Rattle.std.proofs.Common.{◌≡◌, ◌∙◌, ap, subst, sym}
use Rattle.object_builder.specs.Texts.{kind_for, least_kind}
use Rattle.object_builder.proofs.TextSizes.{chars_are}
use Rattle.object_builder.proofs.texts.kind_for.Goals as goal

pub returns-in-State : goal.returns-in-State
returns-in-State c =
    let text = c.args.text.now in
    let least : c.least_kind.result ≡ least_kind text = c.least_kind.ensures
    ∙ ap least_kind (chars_are text c.as_str.result.now c.as_str.utf8 c.as_str.ensures) in
    subst (λ s. c.least_kind.result ≡ kind_for s text) (sym c.in-State.is) least
