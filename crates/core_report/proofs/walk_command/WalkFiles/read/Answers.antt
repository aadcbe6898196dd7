use Rattle.std.proofs.Common.{◌∷◌, [], ◌∙◌, None, Some, ap, refl}
use Rattle.std.proofs.lemmas.Result.{err_from_is_err_and}
use Rattle.core_words.specs.Words.{file, sample, walk}
use Rattle.core_words.specs.Seen.{asked_source, asked_walk}
use Rattle.core_report.specs.declared.walk_command.WalkFiles.{WalkFiles}
use Rattle.core_report.proofs.Turns.{has_walk, is_unread, more, walk_core, walk_layouts}
use Rattle.core_report.proofs.walk_command.WalkFiles.read.Goals as goal

pub returns-in_err-core-clause-read : goal.returns-in_err-core-clause-read
returns-in_err-core-clause-read g c =
    let p = err_from_is_err_and c.from_residual.result c.from_residual.ensures.1 in
    let old = g.F.Files.seen c.args.files.now in
    let w = asked_walk c.args.words.now in
    rw (p.1, p.2) (is_unread old old (g.F.Files.seen c.read_file.new.files) (walk w) [] _ c.in_err-core.field-0.0
    tt (walk_core w _ c.as_bytes.ensures.value) refl c.in_err-core.ensures.trouble)

pub returns-in-Sample-clause-read : goal.returns-in-Sample-clause-read
returns-in-Sample-clause-read g c =
    let old = g.F.Files.seen c.args.files.now in
    let w = asked_walk c.args.words.now in
    let core = more old.told old.told (walk w) [] _ c.in_ok-core.core.items tt (walk_core w _ c.as_bytes.ensures.value) refl c.in_ok-core.ensures.given.0 in
    let files : WalkFiles = record { core = c.in_ok-core.core; layouts = None } in
    has_walk old (g.F.Files.seen c.read_file.new.files) w sample files (ap asked_source c.in-Sample.is) refl core c.in_ok-core.ensures.given.1

pub returns-in_err-text-in-File-clause-read : goal.returns-in_err-text-in-File-clause-read
returns-in_err-text-in-File-clause-read g c =
    let p = err_from_is_err_and c.from_residual-in_err-text-in-File.result c.from_residual-in_err-text-in-File.ensures.1 in
    let old = g.F.Files.seen c.args.files.now in
    let w = asked_walk c.args.words.now in
    let core = more old.told old.told (walk w) [] _ c.in_ok-core.core.items tt (walk_core w _ c.as_bytes.ensures.value) refl c.in_ok-core.ensures.given.0 in
    rw (p.1, p.2) (is_unread old (g.F.Files.seen c.read_file.new.files) (g.F.Files.seen c.read_file-in-File.new.files) (walk w)
    (c.in_ok-core.core.items ∷ []) _ c.in_err-text-in-File.field-0.0 core
    (walk_layouts w c.in_ok-core.core.items _ c.in-File.name.now (ap asked_source c.in-File.is) c.as_bytes-in-File.ensures.value)
    c.in_ok-core.ensures.given.1 c.in_err-text-in-File.ensures.trouble)

pub returns-in_ok-text-in-File-clause-read : goal.returns-in_ok-text-in-File-clause-read
returns-in_ok-text-in-File-clause-read g c =
    let old = g.F.Files.seen c.args.files.now in
    let w = asked_walk c.args.words.now in
    let core = more old.told old.told (walk w) [] _ c.in_ok-core.core.items tt (walk_core w _ c.as_bytes.ensures.value) refl c.in_ok-core.ensures.given.0 in
    let text = more old.told (g.F.Files.seen c.read_file.new.files).told (walk w) (c.in_ok-core.core.items ∷ []) _ c.in_ok-text-in-File.text.items core
    (walk_layouts w c.in_ok-core.core.items _ c.in-File.name.now (ap asked_source c.in-File.is) c.as_bytes-in-File.ensures.value)
    c.read_file.ensures.told c.in_ok-text-in-File.ensures.given.0 in
    let files : WalkFiles = record { core = c.in_ok-core.core; layouts = Some c.in_ok-text-in-File.text } in
    has_walk old (g.F.Files.seen c.read_file-in-File.new.files) w (file c.in-File.name.now) files (ap asked_source c.in-File.is) refl text
    (c.in_ok-text-in-File.ensures.given.1 ∙ c.in_ok-core.ensures.given.1)
