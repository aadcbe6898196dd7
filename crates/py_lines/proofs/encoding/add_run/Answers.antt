use Rattle.std.proofs.Common.{◌∙◌, ◌++◌, ◌+◌, ◌-◌, length, sym, ap, subst, arith}
use Rattle.std.proofs.lemmas.Result.{err_from_is_err_and}
use Rattle.py_lines.specs.Coding.{entry_bytes, repeated, run_bytes, IsNoRoom}
use Rattle.py_lines.proofs.Coding.{no_room_more, part_within, part_added, all_added, repeated_next, repeated_none}
use Rattle.py_lines.proofs.encoding.add_run.Goals as goal

pub returns-in_err-add_entry-clause-refused : goal.returns-in_err-add_entry-clause-refused
returns-in_err-add_entry-clause-refused c =
    let p = err_from_is_err_and c.from_residual.result c.from_residual.ensures.1 in
    let table = c.loop-left.table.items in
    let b = entry_bytes c.args.family c.args.run.covers c.args.run.delta in
    let left = repeated (c.loop-left.left - 1) b in
    let whole = ap (λ bs. table ++ bs) (sym (repeated_next c.loop-left.left b c.loop-left-test.true)) ∙ c.loop-left.invariant.whole in
    let within = part_within table c.args.table.now.items b left (repeated c.args.run.times b) whole in
    rw p.1 (subst (λ e. IsNoRoom e (length c.args.table.now.items + length (run_bytes c.args.family c.args.run))) (sym p.2)
    (no_room_more c.in_err-add_entry.field-0.0 _ _ within c.in_err-add_entry.ensures.refused))

pub loop-left-preserved : goal.loop-left-preserved
loop-left-preserved c =
    let table = c.loop-left.table.items in
    let b = entry_bytes c.args.family c.args.run.covers c.args.run.delta in
    let left = repeated (c.loop-left.left - 1) b in
    let whole = ap (λ bs. table ++ bs) (sym (repeated_next c.loop-left.left b c.loop-left-test.true)) ∙ c.loop-left.invariant.whole in
    record {
      most = omega (arith, c.loop-left.invariant.most);
      short = c.in_ok-add_entry.ensures.short;
      whole = part_added table c.args.table.now.items b left (repeated c.args.run.times b) whole c.add_entry.new.table.items c.in_ok-add_entry.ensures.added;
    }

pub returns-clause-added : goal.returns-clause-added
returns-clause-added c =
    let b = entry_bytes c.args.family c.args.run.covers c.args.run.delta in
    all_added c.loop-left.table.items c.args.table.now.items (repeated c.args.run.times b)
    (ap (λ bs. c.loop-left.table.items ++ bs) (sym (repeated_none c.loop-left.left b c.loop-left-test.false)) ∙ c.loop-left.invariant.whole)
