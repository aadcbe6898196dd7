use Rattle.std.proofs.Common.{◌-◌, sym, ◌∙◌}
use Rattle.elf64_core.proofs.Ends.{found_before, none_until}
use Rattle.elf64_core.proofs.string_table.end_before.Goals as goal

pub returns-in-Some : goal.returns-in-Some
returns-in-Some c =
    let strings = c.args.strings.now in
    sym (found_before strings c.args.at (c.min-end.result - c.args.at) c.in-Some.size (sym c.first_nul.ensures.value ∙ c.in-Some.is))

pub returns-in-None : goal.returns-in-None
returns-in-None c =
    let strings = c.args.strings.now in
    c.requires.known ∙ none_until strings c.args.at c.args.later c.min-end.result c.requires.inside c.requires.ordered
    c.min-end.ensures (sym c.first_nul.ensures.value ∙ c.in-None.is)
