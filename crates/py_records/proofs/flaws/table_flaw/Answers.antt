use Rattle.std.proofs.Common.{Option, None, List, ℕ, map, ap, ◌∙◌}
use Rattle.std.specs.Option.{option_or}
use Rattle.toml.specs.View.{table_view}
use Rattle.py_layout.specs.Flaws.{first_some}
use Rattle.py_records.specs.Keys.{key_of}
use Rattle.py_records.specs.Flaws.{unknown_at}
use Rattle.py_records.proofs.FlawLists.{table_flaw-found}
use Rattle.py_records.proofs.flaws.table_flaw.Goals as goal

pub returns-in-Some : goal.returns-in-Some
returns-in-Some c = table_flaw-found c.args.keys.now (table_view c.args.table.now) _ c.in-Some.ensures

pub returns-in-Some-unknown_in : goal.returns-in-Some-unknown_in
returns-in-Some-unknown_in c =
    let rest : Option (List ℕ) = first_some (unknown_at (map key_of c.args.keys.now) (table_view c.args.table.now))
    (map key_of c.args.keys.now) in
    ap (λ o. option_or o rest) c.in-Some-unknown_in.ensures
    ∙ table_flaw-found c.args.keys.now (table_view c.args.table.now) None c.in_default.ensures

pub returns-in-None : goal.returns-in-None
returns-in-None c =
    let rest : Option (List ℕ) = first_some (unknown_at (map key_of c.args.keys.now) (table_view c.args.table.now))
    (map key_of c.args.keys.now) in
    c.unknown_in_groups.ensures ∙ ap (λ o. option_or o rest) c.in-None.ensures
    ∙ table_flaw-found c.args.keys.now (table_view c.args.table.now) None c.in_default.ensures
