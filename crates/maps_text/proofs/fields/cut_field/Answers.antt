use Rattle.std.proofs.Common.{sym, ap, take, ◌∙◌}
use Rattle.std.specs.Char.{is_ascii_whitespace}
use Rattle.maps_text.proofs.Cuts.{some_position, rest_of}
use Rattle.maps_text.proofs.fields.cut_field.Goals as goal

pub returns : goal.returns
returns c =
    let s = c.args.bytes.now in
    let is = some_position is_ascii_whitespace s c.in-Some.at (sym c.in-Some.is ∙ c.first_white.ensures) in
    (is.0, ap (λ n. take n s) is.1, rest_of s c.in-Some.at _ is.1)
