use Rattle.std.proofs.Common.{refl, sym, ap, ◌∷◌, ◌+◌, take, drop, ◌∙◌}
use Rattle.maps_text.specs.Texts.{is_newline, lines_of}
use Rattle.maps_text.proofs.Cuts.{no_position, some_position, rest_of}
use Rattle.maps_text.proofs.Newlines.{line_before, line_alone}
use Rattle.maps_text.proofs.lines.first_line.Goals as goal

pub returns-in-Some : goal.returns-in-Some
returns-in-Some c =
    let s = c.args.text.now in
    let is = some_position is_newline s c.in-Some.at (sym c.in-Some.is ∙ c.first_newline.ensures) in
    line_before s is.0 ∙ sym (ap (λ n. take n s ∷ lines_of (drop (n + 1) s)) is.1) ∙ sym (ap (λ t. take c.in-Some.at s ∷ lines_of t) (rest_of s c.in-Some.at c.in-Some.at refl))

pub returns-in-None : goal.returns-in-None
returns-in-None c = line_alone c.args.text.now c.requires (no_position is_newline c.args.text.now (sym c.in-None.is ∙ c.first_newline.ensures))
