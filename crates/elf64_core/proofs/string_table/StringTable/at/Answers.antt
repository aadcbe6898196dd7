use Rattle.std.proofs.Common.{◌≡◌, None, Some, sym, ap, ◌∙◌, arith}
use Rattle.std.specs.Prelude.{option_map, slice_range}
use Rattle.std.proofs.lemmas.List.{drop_all}
use Rattle.elf64_core.specs.Nul.{nul_from, string_at, until_nul}
use Rattle.elf64_core.proofs.Ends.{string_at-by}
use Rattle.elf64_core.proofs.string_table.StringTable.at.Goals as goal

pub returns-then-self-at : goal.returns-then-self-at
unfolding string_at until_nul
returns-then-self-at c =
    sym (ap until_nul (drop_all c.args.at c.self.inside.strings.now (omega arith)))
    ∙ ap (λ bs. string_at bs c.args.at) c.self.view_is

pub returns-in-Some : goal.returns-in-Some
returns-in-Some c =
    let strings = c.self.inside.strings.now in
    let is : nul_from strings c.args.at ≡ Some c.in-Some.end =
    ap (λ bs. nul_from bs c.args.at) c.self.view_is ∙ sym c.end_from.ensures.is ∙ c.in-Some.is in
    ap (option_map (λ e. slice_range strings c.args.at e)) (sym is) ∙ string_at-by strings c.args.at
    ∙ ap (λ bs. string_at bs c.args.at) c.self.view_is

pub returns-in-None : goal.returns-in-None
returns-in-None c =
    let strings = c.self.inside.strings.now in
    let is : nul_from strings c.args.at ≡ None =
    ap (λ bs. nul_from bs c.args.at) c.self.view_is ∙ sym c.end_from.ensures.is ∙ c.in-None.is in
    ap (option_map (λ e. slice_range strings c.args.at e)) (sym is) ∙ string_at-by strings c.args.at
    ∙ ap (λ bs. string_at bs c.args.at) c.self.view_is
