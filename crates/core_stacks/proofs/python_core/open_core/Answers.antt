use Rattle.std.proofs.Common.{ap, ◌∙◌, subst, sym}
use Rattle.std.specs.Prelude.{Err, Ok, option_map}
use Rattle.std.proofs.lemmas.Result.{err_from_is_err_and}
use Rattle.image_memory.specs.Backed.{IsBackedMemory, regions_of}
use Rattle.core_stacks.specs.Opened.{opened_first}
use Rattle.core_stacks.specs.Seen.{AreBinaries, FindsProcess, finding_of}
use Rattle.py_process.specs.Facts.{facts_of}
use Rattle.core_stacks.specs.Sole.{Settles}
use Rattle.core_stacks.proofs.OpenedLaws.{memory_opens, opened_settles, unopened_settles}
use Rattle.core_stacks.proofs.python_core.open_core.Goals as goal

pub returns-in_err-dump-clause-settles : goal.returns-in_err-dump-clause-settles
returns-in_err-dump-clause-settles c =
    let p = err_from_is_err_and c.from_residual.result c.from_residual.ensures.1 in
    memory_opens _ _ _ _ (ap opened_first (p.1 ∙ ap (λ e. Err e) p.2))

pub find_in_dump-requires : goal.find_in_dump-requires
find_in_dump-requires c =
    subst (λ bs. IsBackedMemory bs c.args.images.now (regions_of c.in_ok-dump.dump)) (sym c.in_ok-dump.ensures.kept.core_is)
    c.in_ok-dump.ensures.memory

pub returns-in_err-found-clause-settles : goal.returns-in_err-found-clause-settles
returns-in_err-found-clause-settles c =
    let p = err_from_is_err_and c.from_residual-in_err-found.result c.from_residual-in_err-found.ensures.1 in
    unopened_settles _ _ _ c.in_err-found.field-0.0 _
    (subst (λ bs. Settles (FindsProcess bs c.args.images.now c.args.layouts.now) (Err c.in_err-found.field-0.0))
    c.in_ok-dump.ensures.kept.core_is c.in_err-found.ensures.settles) (ap opened_first (p.1 ∙ ap (λ e. Err e) p.2))

pub returns-clause-settles : goal.returns-clause-settles
returns-clause-settles c =
    opened_settles _ _ _ _ c.in_ok-dump.ensures.kept.core_is c.in_ok-dump.ensures.memory
    (subst (λ bs. Settles (FindsProcess bs c.args.images.now c.args.layouts.now) (Ok (finding_of c.in_ok-found.found)))
    c.in_ok-dump.ensures.kept.core_is c.in_ok-found.ensures.settles)

pub returns-clause-binaries : goal.returns-clause-binaries
returns-clause-binaries c =
    subst (λ bs. AreBinaries bs c.args.images.now (option_map facts_of c.in_ok-found.binaries.program)
    (option_map facts_of c.in_ok-found.binaries.library)) c.in_ok-dump.ensures.kept.core_is c.in_ok-found.ensures.binaries
