use Rattle.std.proofs.Common.{◌≡◌, false, ap, sym, ◌∙◌}
use Rattle.std.specs.Prelude.{◌||◌, codes, nat_eq}
use Rattle.std.specs.List.{ends_with}
use Rattle.std.proofs.lemmas.Str.Pattern.{ends_text}
use Rattle.native_merge.proofs.source_maps.is_c_file.Goals as goal

pub returns-else-ends_with : goal.returns-else-ends_with
returns-else-ends_with c =
    let name = c.args.name.now in
    let first : ends_with nat_eq name (codes ".c") ≡ false = sym (ends_text c.ends_with.result (codes ".c") name c.ends_with.ensures.cases) ∙ c.if-ends_with.false in
    ends_text c.ends_with-else-ends_with.result (codes ".cpp") name c.ends_with-else-ends_with.ensures.cases
    ∙ ap (λ b. b || ends_with nat_eq name (codes ".cpp")) (sym first)
