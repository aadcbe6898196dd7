use Rattle.std.proofs.Common.{◌≡◌, Option, Some, None, refl, sym, ap, ◌∙◌, rules, tests}
use Rattle.std.specs.Prelude.{option_map}
use Rattle.std.specs.List.{find}
use Rattle.std.proofs.lemmas.Iterator.Consumers.{YieldsList-from_first}
use Rattle.std.proofs.lemmas.Iterator.Search.{find_from_yields_List}
use Rattle.elf64_core.specs.Rest.{segments_left}
use Rattle.elf64_core.specs.declared.segment.Segment.{Segment}
use Rattle.py_process.specs.Ranges.{is_executable}
use Rattle.py_process.proofs.ranges.executable.Goals as goal

option_map-same : (r : Option Segment) → option_map (λ segment. segment) r ≡ r
option_map-same None = refl
option_map-same (Some x) = refl

pub returns : goal.returns
returns c =
    let all = segments_left c.segments-segments.result in
    let found = find_from_yields_List (λ (segment : Segment). is_executable segment) c.find.new.self _ c.find.result c.find.ensures.ran (YieldsList-from_first (λ segment. segment) segments_left all refl) (λ x b q k. search (rules, tests)) in
    sym (option_map-same c.find.result) ∙ found ∙ ap (find is_executable) c.segments-segments.ensures
