use Rattle.std.proofs.Common.{length, map, subst}
use Rattle.std.proofs.lemmas.Result.{err_from_is_err_and}
use Rattle.process_memory.specs.Memory.{byte_at}
use Rattle.image_memory.specs.Backed.{regions_of}
use Rattle.core_slim.specs.Slim.{Keeps}
use Rattle.py_stacks.specs.Threads.{trace_of}
use Rattle.core_stacks.specs.Opened.{Opened, opened_memory}
use Rattle.core_stacks.proofs.Slims.{cause_told, few_pieces, keeps_stacks, no_pieces, refused}
use Rattle.core_stacks.proofs.python_core.PythonCoreDump.slimmed.Goals as goal

pub returns-in_err-_traces-clause-right : goal.returns-in_err-_traces-clause-right
returns-in_err-_traces-clause-right c =
    let p = err_from_is_err_and c.from_residual.result c.from_residual.ensures.1 in
    rw p.1 (refused c.args.self.now c.args.config.now c.in_err-_traces.field-0.0 p.0 c.in_err-_traces.ensures.right p.2)

pub returns-in_err-_traces-clause-cause : goal.returns-in_err-_traces-clause-cause
returns-in_err-_traces-clause-cause c =
    let p = err_from_is_err_and c.from_residual.result c.from_residual.ensures.1 in
    rw p.1
    (cause_told c.args.self.now c.args.config.now c.in_err-_traces.field-0.0 p.0 c.in_err-_traces.ensures.only p.2)

pub returns-in_err-_traces-clause-few : goal.returns-in_err-_traces-clause-few
returns-in_err-_traces-clause-few c =
    let p = err_from_is_err_and c.from_residual.result c.from_residual.ensures.1 in
    rw p.1 (λ count same. no_pieces c.in_err-_traces.field-0.0 p.0 count _ p.2 same)

pub returns-in_err-bytes-clause-few : goal.returns-in_err-bytes-clause-few
returns-in_err-bytes-clause-few c =
    let p = err_from_is_err_and c.from_residual-in_err-bytes.result c.from_residual-in_err-bytes.ensures.1 in
    let few = rw c.deref.ensures.value at c.in_err-bytes.ensures.few in
    rw p.1 (λ count same. few_pieces c.in_err-bytes.field-0.0 p.0 (length c.in_ok-_traces.ranges.items) _
    few c.in_ok-_traces.ensures.footprint.few p.2 count same)

pub returns-clause-keeps : goal.returns-clause-keeps
returns-clause-keeps c =
    let ranges = c.in_ok-_traces.ranges.items in
    let bytes = c.in_ok-bytes.bytes.items in
    let dump = c.self.inside.dump in
    let own =
    subst (λ rs. Keeps dump.core (byte_at (regions_of dump)) rs bytes) c.deref.ensures.value
    c.in_ok-bytes.ensures.keeps in
    let keeps = subst (λ (o : Opened). Keeps o.core (opened_memory o) ranges bytes) c.self.view_is own in
    keeps_stacks c.args.self.now c.args.config.now (map trace_of c.in_ok-_traces._traces.items) ranges bytes
    c.in_ok-_traces.ensures.footprint keeps
