use Rattle.std.proofs.Common.{Option, None, List, ℕ, map, ap, ◌∙◌}
use Rattle.std.specs.Option.{option_or}
use Rattle.toml.specs.View.{table_view}
use Rattle.py_layout.specs.Keys.{key_of}
use Rattle.py_layout.specs.Flaws.{first_some, unknown_at}
use Rattle.py_layout.proofs.FlawsFound.{flaw_by-found}
use Rattle.py_layout.proofs.flaws.flaw_by.Goals as goal

pub returns-in-Some : goal.returns-in-Some
returns-in-Some c = flaw_by-found c.args.families c.args.keys.now (table_view c.args.table.now) _ c.in-Some.ensures

pub returns-in-Some-unknown_in : goal.returns-in-Some-unknown_in
returns-in-Some-unknown_in c =
    let rest : Option (List ℕ) = first_some (unknown_at c.args.families (map key_of c.args.keys.now) (table_view c.args.table.now)) (map key_of c.args.keys.now) in
    ap (λ o. option_or o rest) c.in-Some-unknown_in.ensures ∙ flaw_by-found c.args.families c.args.keys.now (table_view c.args.table.now) None c.in_default.ensures

pub returns-in-None : goal.returns-in-None
returns-in-None c =
    let rest : Option (List ℕ) = first_some (unknown_at c.args.families (map key_of c.args.keys.now) (table_view c.args.table.now)) (map key_of c.args.keys.now) in
    c.unknown_in_groups.ensures ∙ ap (λ o. option_or o rest) c.in-None.ensures ∙ flaw_by-found c.args.families c.args.keys.now (table_view c.args.table.now) None c.in_default.ensures
