use Rattle.std.proofs.Common.{Some, option_map, option_copied, ap, ◌∙◌}
use Rattle.py_layout.specs.Flaws.{path}
use Rattle.py_records.proofs.FlawLists.{unknown_name}
use Rattle.py_records.proofs.flaws.unknown_in.Goals as goal

pub returns-in-Some : goal.returns-in-Some
returns-in-Some c =
    ap (λ name. Some (path (option_copied c.args.group) name)) c.as_str.ensures.value
    ∙ ap (option_map (path (option_copied c.args.group)))
    (unknown_name c.args.keys.now _ c.args.table.now.entries _ c.in-Some.ensures)

pub returns-in-None : goal.returns-in-None
returns-in-None c = ap (option_map (path (option_copied c.args.group)))
    (unknown_name c.args.keys.now _ c.args.table.now.entries _ c.in-None.ensures)
