use Rattle.std.proofs.Common.{◌∙◌, ◌++◌, ◌+◌, List, length, sym, ap, subst}
use Rattle.std.proofs.lemmas.List.{nil_from_length}
use Rattle.std.proofs.lemmas.Option.{MatchOption-at_none}
use Rattle.std.proofs.lemmas.Result.{err_from_is_err_and}
use Rattle.py_lines.specs.Coding.{run_bytes, runs_bytes, AreRuns, IsNoRoom}
use Rattle.py_lines.specs.declared.runs.Run.{Run}
use Rattle.py_lines.proofs.Coding.{no_room_more, part_within, part_added, all_added, runs_next, runs_none}
use Rattle.py_lines.proofs.encoding.add_runs.Goals as goal

pub returns-in_err-add_run-clause-refused : goal.returns-in_err-add_run-clause-refused
returns-in_err-add_run-clause-refused c =
    let p = err_from_is_err_and c.from_residual.result c.from_residual.ensures.1 in
    let table = c.loop-run.table.items in
    let all = runs_bytes c.args.family c.args.runs.now in
    let b = run_bytes c.args.family c.in-Some.run'.now in
    let left = runs_bytes c.args.family c.in-Some.later.now in
    let split = runs_next c.args.family c.loop-run.rest.now c.in-Some.later.now c.in-Some.run'.now c.in-Some.ensures.cases.0 in
    let whole = ap (λ bs. table ++ bs) (sym split) ∙ c.loop-run.invariant.whole in
    let within = part_within table c.args.table.now.items b left all whole in
    rw p.1 (subst (λ e. IsNoRoom e (length c.args.table.now.items + length all)) (sym p.2)
    (no_room_more c.in_err-add_run.field-0.0 _ _ within c.in_err-add_run.ensures.refused))

pub loop-run-preserved : goal.loop-run-preserved
loop-run-preserved c =
    let table = c.loop-run.table.items in
    let all = runs_bytes c.args.family c.args.runs.now in
    let b = run_bytes c.args.family c.in-Some.run'.now in
    let left = runs_bytes c.args.family c.in-Some.later.now in
    let split = runs_next c.args.family c.loop-run.rest.now c.in-Some.later.now c.in-Some.run'.now c.in-Some.ensures.cases.0 in
    let whole = ap (λ bs. table ++ bs) (sym split) ∙ c.loop-run.invariant.whole in
    let runs = subst (λ (rs : List Run). AreRuns c.args.family rs) c.in-Some.ensures.cases.0 c.loop-run.invariant.runs in
    record {
      short = c.in_ok-add_run.ensures.short;
      runs = runs.1;
      whole = part_added table c.args.table.now.items b left all whole c.add_run.new.table.items c.in_ok-add_run.ensures.added;
    }

pub returns-clause-added : goal.returns-clause-added
returns-clause-added c =
    let table = c.loop-run.table.items in
    let nil = nil_from_length c.loop-run.rest.now (MatchOption-at_none _ _ c.in_default.is c.split_first.ensures.cases) in
    all_added table c.args.table.now.items (runs_bytes c.args.family c.args.runs.now)
    (ap (λ bs. table ++ bs) (sym (runs_none c.args.family c.loop-run.rest.now nil)) ∙ c.loop-run.invariant.whole)
