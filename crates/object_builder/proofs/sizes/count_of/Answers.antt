use Rattle.std.proofs.Common.{◌≡◌, ◌∙◌, length, ap, rules}
use Rattle.std.specs.Str.{chars}
use Rattle.std.proofs.lemmas.Str.{chars_from_encodes}
use Rattle.object_builder.proofs.TextSizes.{chars_are}
use Rattle.object_builder.proofs.sizes.count_of.Goals as goal

pub returns : goal.returns
returns c =
    let count : c.count.result ≡ length (chars c.as_str.result.now) = search (rules, chars_from_encodes) in
    count ∙ ap length (chars_are c.args.text.now c.as_str.result.now c.as_str.utf8 c.as_str.ensures)
