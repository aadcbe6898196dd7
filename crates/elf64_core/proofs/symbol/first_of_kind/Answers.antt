use Rattle.std.proofs.Common.{◌≡◌, nat_eq, Option, Some, None, refl, sym, ap, ◌∙◌, rules, tests}
use Rattle.std.specs.Prelude.{option_map}
use Rattle.std.specs.List.{find}
use Rattle.std.proofs.lemmas.Iterator.Consumers.{YieldsList-from_first}
use Rattle.std.proofs.lemmas.Iterator.Search.{find_from_yields_List}
use Rattle.elf64_core.specs.Rest.{sections_left}
use Rattle.elf64_core.specs.declared.section.Section.{Section}
use Rattle.elf64_core.proofs.symbol.first_of_kind.Goals as goal

option_map-same : (r : Option Section) → option_map (λ section. section) r ≡ r
option_map-same None = refl
option_map-same (Some x) = refl

pub returns : goal.returns
returns c =
    let all = sections_left c.args.sections in
    let wanted = c.section_kind-wanted.result in
    let found = find_from_yields_List (λ (section : Section). nat_eq section.kind wanted) c.find.new.self _ c.find.result c.find.ensures.ran (YieldsList-from_first (λ section. section) sections_left all refl) (λ x b q k. search (rules, tests)) in
    sym (option_map-same c.find.result) ∙ found
    ∙ ap (λ kind. find (λ (section : Section). nat_eq section.kind kind) all) c.section_kind-wanted.ensures
