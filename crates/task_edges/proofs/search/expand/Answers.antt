use Rattle.std.proofs.Common.{◌∙◌, [], ap, sym}
use Rattle.std.specs.List.{Contains}
use Rattle.task_edges.specs.Edges.{items_or_none, sources_in}
use Rattle.task_edges.proofs.Adding.{adds_none, expands_on_ok, expands_other, expands_task}
use Rattle.task_edges.proofs.Sets.{has_set}
use Rattle.task_edges.proofs.search.expand.Goals as goal

pub returns-then-contains-clause-added : goal.returns-then-contains-clause-added
returns-then-contains-clause-added c =
    expands_task (sources_in c.args.index.now) c.args.tasks.now.keys c.args.list.now.items c.args.at
    ((has_set c.args.tasks.now c.args.at).0 (sym c.contains.ensures ∙ c.if-contains.true))

pub returns-in-None-clause-added : goal.returns-in-None-clause-added
returns-in-None-clause-added c =
    let no : Contains c.args.tasks.now.keys c.args.at → ⊥ = λ h.
    let t = (has_set c.args.tasks.now c.args.at).1 h in
    let u = sym c.contains.ensures ∙ c.if-contains.false in cc in
    expands_other (sources_in c.args.index.now) c.args.tasks.now.keys c.args.list.now.items c.args.list.now.items
    c.args.at [] no (ap items_or_none c.in-None.ensures.value) (adds_none c.args.list.now.items)

pub returns-in-Some-clause-added : goal.returns-in-Some-clause-added
returns-in-Some-clause-added c =
    let no : Contains c.args.tasks.now.keys c.args.at → ⊥ = λ h.
    let t = (has_set c.args.tasks.now c.args.at).1 h in
    let u = sym c.contains.ensures ∙ c.if-contains.false in cc in
    expands_on_ok (sources_in c.args.index.now) c.args.tasks.now.keys c.args.list.now.items _ c.args.at
    c.deref.result.now no (c.deref.ensures.value ∙ ap items_or_none c.in-Some.ensures.value) c.add_new.result
    c.add_new.ensures.added
