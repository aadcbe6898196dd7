use Rattle.std.proofs.Common.{ap, ◌∙◌}
use Rattle.std.specs.Prelude.{Err}
use Rattle.std.proofs.lemmas.Result.{err_from_is_err_and}
use Rattle.process_memory.specs.Seen.{Seen}
use Rattle.process_memory.proofs.Reading.{reading_here}
use Rattle.core_stacks.specs.Answer.{traced}
use Rattle.core_stacks.proofs.Walked.{layout_walk, lost_says, memory_walk}
use Rattle.core_stacks.proofs.core_walk.walk.Goals as goal

pub returns-in_err-version : goal.returns-in_err-version
returns-in_err-version c =
    let p = err_from_is_err_and c.from_residual-in_err-version.result c.from_residual-in_err-version.ensures.1 in
    memory_walk _ _ _ _ _ (ap traced (p.1 ∙ ap (λ e. Err e) p.2))

pub returns-in_err-traces : goal.returns-in_err-traces
returns-in_err-traces c =
    let p = err_from_is_err_and c.from_residual-in_err-traces.result c.from_residual-in_err-traces.ensures.1 in
    let pieces = ap (λ (s : Seen). s.pieces) c.view-view.ensures in
    let fault = rw (pieces, c.in_ok-core.ensures.same) at (reading_here c.in_err-traces.ensures.faults) in
    layout_walk c.args.bytes.items c.args.layouts.now c.args.version.now c.args.addresses.now c.in-Some.layout.now _ c.in_ok-core.ensures.core
    (record { listed = c.in-Some.ensures.member; covers = c.in-Some.ensures.covers }) (λ other x. c.in-Some.ensures.only other x.listed x.covers)
    (rw (p.1, p.2) (lost_says c.args.bytes.items c.args.layouts.now c.args.version.now c.args.addresses.now c.in-Some.layout.now _ fault))

pub returns : goal.returns
returns c =
    let pieces = ap (λ (s : Seen). s.pieces) c.view-view.ensures in
    let fault = rw (pieces, c.in_ok-core.ensures.same) at (reading_here c.in_ok-traces.ensures.faults) in
    let whole = rw (pieces, c.in_ok-core.ensures.same) at (reading_here c.in_ok-traces.ensures.traces) in
    layout_walk c.args.bytes.items c.args.layouts.now c.args.version.now c.args.addresses.now c.in-Some.layout.now _ c.in_ok-core.ensures.core
    (record { listed = c.in-Some.ensures.member; covers = c.in-Some.ensures.covers }) (λ other x. c.in-Some.ensures.only other x.listed x.covers)
    (fault, whole)
