use Rattle.std.proofs.Common.{ap, subst}
use Rattle.std.proofs.lemmas.Result.{err_from_is_err_and}
use Rattle.image_memory.specs.Backed.{regions_of}
use Rattle.process_memory.specs.Seen.{Seen}
use Rattle.py_process.specs.Facts.{known_of}
use Rattle.py_process.specs.Reports.{NotesTell}
use Rattle.core_stacks.proofs.Opening.{covered, refused, unknown_named, unnamed}
use Rattle.core_stacks.proofs.Stacks.{over_this}
use Rattle.core_stacks.proofs.process.open_named.Goals as goal

pub returns-in_err-loaded-clause-opens : goal.returns-in_err-loaded-clause-opens
returns-in_err-loaded-clause-opens c =
    let p = err_from_is_err_and c.from_residual.result c.from_residual.ensures.1 in
    rw (p.1, p.2) (refused c.args.bytes.items c.args.images.now c.args.layouts.now c.in_err-loaded.field-0.0
    c.in_err-loaded.ensures.refused)

pub returns-in_err-info-clause-opens : goal.returns-in_err-info-clause-opens
returns-in_err-info-clause-opens c =
    let p = err_from_is_err_and c.from_residual-in_err-info.result c.from_residual-in_err-info.ensures.1 in
    let knows = rw c.core.ensures.same at c.in_err-info.ensures in
    let loaded = c.in_ok-loaded.ensures in
    rw (p.1, p.2) (unknown_named c.args.bytes.items c.args.images.now c.args.layouts.now
    c.in_ok-loaded.loaded.dump.core loaded.same
    (record { maps = knows.maps; pieces = regions_of c.in_ok-loaded.loaded.dump }) loaded.core
    (record { are_maps = knows.are_maps; memory = loaded.memory }) c.in_err-info.field-0.0 knows.says)

pub returns-in_err-covered-clause-opens : goal.returns-in_err-covered-clause-opens
returns-in_err-covered-clause-opens c =
    let p = err_from_is_err_and c.from_residual-in_err-covered.result c.from_residual-in_err-covered.ensures.1 in
    let knows = rw c.core.ensures.same at c.in_ok-info.ensures in
    let names = rw c.core-2.ensures.same at c.in_err-covered.ensures.names in
    let loaded = c.in_ok-loaded.ensures in
    let pieces = regions_of c.in_ok-loaded.loaded.dump in
    rw (p.1, p.2) (unnamed c.args.bytes.items c.args.images.now c.args.layouts.now c.in_ok-loaded.loaded.dump.core
    loaded.same (record { maps = knows.maps; pieces = pieces }) loaded.core
    (record { are_maps = knows.are_maps; memory = loaded.memory }) (known_of c.in_ok-info.info) knows.says
    c.read_version-told.result c.in_err-covered.field-0.0
    (over_this pieces (ap (λ (s : Seen). s.pieces) c.view-view.ensures) c.read_version-told.ensures.settles) names)

pub returns-clause-opens : goal.returns-clause-opens
returns-clause-opens c =
    let knows = rw c.core.ensures.same at c.in_ok-info.ensures in
    let names = rw c.core-2.ensures.same at c.in_ok-covered.ensures.names in
    let notes = c.in_ok-loaded.loaded.notes in
    let loaded = c.in_ok-loaded.ensures in
    let pieces = regions_of c.in_ok-loaded.loaded.dump in (
      record {
        same = loaded.same;
        maps = knows.maps;
        tested = knows.tested;
        notes = subst (λ b. NotesTell b notes.signal notes.process) loaded.same loaded.notes;
      },
      covered c.args.bytes.items c.args.images.now c.args.layouts.now c.in_ok-loaded.loaded.dump.core loaded.same
          (record { maps = knows.maps; pieces = pieces }) loaded.core
          (record { are_maps = knows.are_maps; memory = loaded.memory }) (known_of c.in_ok-info.info) knows.says
          c.read_version-told.result c.in_ok-covered.covered
          (over_this pieces (ap (λ (s : Seen). s.pieces) c.view-view.ensures) c.read_version-told.ensures.settles) names,
    )
