use Rattle.std.proofs.Common.{ap, length, map, ◌∙◌}
use Rattle.std.proofs.lemmas.Option.{same_Some}
use Rattle.std.specs.Prelude.{[]}
use Rattle.std.proofs.lemmas.Result.{err_from_is_err_and}
use Rattle.image_memory.specs.Backed.{regions_of}
use Rattle.process_memory.specs.Layers.{recorded}
use Rattle.process_memory.specs.Seen.{Seen}
use Rattle.py_stacks.specs.Threads.{trace_of}
use Rattle.core_stacks.specs.Seen.{finding_of}
use Rattle.core_stacks.proofs.Footprints.{footprint_of}
use Rattle.core_stacks.proofs.Stacks.{over_this}
use Rattle.core_stacks.proofs.python_core.read_footprint.Goals as goal

pub returns-in_err-traces-clause-says : goal.returns-in_err-traces-clause-says
returns-in_err-traces-clause-says c =
    let p = err_from_is_err_and c.from_residual.result c.from_residual.ensures.1 in
    let start = c.new-recorder.ensures ∙ ap (λ (s : Seen). recorded s []) c.view.ensures in
    rw (p.1, p.2) (over_this (regions_of c.args.dump.now) (ap (λ (s : Seen). s.pieces) start) c.in_err-traces.ensures)

pub returns-clause-says : goal.returns-clause-says
returns-clause-says c =
    let start = c.new-recorder.ensures ∙ ap (λ (s : Seen). recorded s []) c.view.ensures in
    over_this (regions_of c.args.dump.now) (ap (λ (s : Seen). s.pieces) start) c.in_ok-traces.ensures

pub returns-clause-footprint : goal.returns-clause-footprint
returns-clause-footprint c =
    let start = c.new-recorder.ensures ∙ ap (λ (s : Seen). recorded s []) c.view.ensures in
    let items = c.in_ok-ranges.ensures.items_if_clones_equal (λ x y same. same) in
    rw items (footprint_of (regions_of c.args.dump.now) (finding_of c.args.found.now) c.args.config.now (map trace_of c.in_ok-traces.traces.items) c.ranges-2.result.now
    start c.ranges-2.ensures (ap length (same_Some _ _ c.ranges-2.ensures)) c.in_ok-traces.ensures)
