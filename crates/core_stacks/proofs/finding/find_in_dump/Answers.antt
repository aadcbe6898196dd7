use Rattle.std.proofs.Common.{ap, subst, sym, ◌∙◌}
use Rattle.std.specs.Prelude.{Err}
use Rattle.std.proofs.lemmas.Result.{err_from_is_err_and}
use Rattle.image_memory.specs.Backed.{regions_of}
use Rattle.process_memory.specs.Seen.{Seen}
use Rattle.core_stacks.specs.Seen.{FindsProcess, finding_first}
use Rattle.core_stacks.specs.Sole.{Settles}
use Rattle.core_stacks.proofs.Searching.{known_binaries, known_finds, unknown_finds}
use Rattle.core_stacks.proofs.Stacks.{over_this}
use Rattle.core_stacks.proofs.finding.find_in_dump.Goals as goal

pub returns-in_err-info-clause-settles : goal.returns-in_err-info-clause-settles
returns-in_err-info-clause-settles c =
    let p = err_from_is_err_and c.from_residual.result c.from_residual.ensures.1 in
    let knows = rw c.core.ensures.same at c.in_err-info.ensures in
    unknown_finds _ _ _ _ knows.maps c.in_err-info.field-0.0 _ c.requires knows.are_maps knows.says (ap finding_first (p.1 ∙ ap (λ e. Err e) p.2))

pub returns-in_err-found-clause-settles : goal.returns-in_err-found-clause-settles
returns-in_err-found-clause-settles c =
    let p = err_from_is_err_and c.from_residual-in_err-found.result c.from_residual-in_err-found.ensures.1 in
    let knows = rw c.core.ensures.same at c.in_ok-info.ensures in
    let settles = rw (c.machine.ensures, c.core-2.ensures.same) at (over_this (regions_of c.args.dump.now) (ap (λ (s : Seen). s.pieces) c.view-view.ensures) c.in_err-found.ensures.settles.reading) in
    subst (λ r. Settles (FindsProcess c.args.dump.now.core c.args.images.now c.args.layouts.now) r)
    (sym (ap finding_first (p.1 ∙ ap (λ e. Err e) p.2)))
    (known_finds _ _ _ _ knows.maps _ _ _ c.requires knows.are_maps knows.says knows.tested settles)

pub returns-clause-settles : goal.returns-clause-settles
returns-clause-settles c =
    let knows = rw c.core.ensures.same at c.in_ok-info.ensures in
    let settles = rw (c.machine.ensures, c.core-2.ensures.same) at (over_this (regions_of c.args.dump.now) (ap (λ (s : Seen). s.pieces) c.view-view.ensures) c.in_ok-found.ensures.settles.reading) in
    known_finds _ _ _ _ knows.maps _ _ _ c.requires knows.are_maps knows.says knows.tested settles

pub returns-clause-binaries : goal.returns-clause-binaries
returns-clause-binaries c =
    let knows = rw c.core.ensures.same at c.in_ok-info.ensures in
    known_binaries c.args.dump.now.core c.args.images.now knows.maps _ knows.are_maps knows.says
