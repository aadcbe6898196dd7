use Rattle.std.proofs.Common.{[], ◌∷◌, subst, sym}
use Rattle.py_process.specs.Reports.{AsksNoOther, IsRight, ReportIs, reported}
use Rattle.image_builder.specs.Built.{built_image}
use Rattle.image_builder.specs.CoreFiles.{image_path}
use Rattle.image_builder.specs.Inverse.{image_alone}
use Rattle.image_builder.specs.Covered.{told_version}
use Rattle.image_builder.specs.Shown.{shown_report}
use Rattle.memory_builder.specs.Mirror.{program_in}
use Rattle.program_report.proofs.Answering.{AnswersRight, answer_lost, answer_shows}
use Rattle.program_report.proofs.reporting.report_of_program.Goals as goal

-- the report answers what is right over the files that were built
answers : (c : goal.After-drop-images-inside-2) → AsksNoOther c.args.config.now
    → AnswersRight c.in_ok-built.built.core.items (image_alone c.in_ok-built.built.image_path
    c.in_ok-built.built.image.items) (c.args.layout ∷ []) c.args.config.now c.report.result
answers c asks = λ r right.
    let images = image_alone c.in_ok-built.built.image_path c.in_ok-built.built.image.items in
    let config = c.args.config.now in
    c.report.ensures.full r asks
    (subst (λ xs. IsRight c.in_ok-built.built.core.items xs c.in_ok-layouts.layouts config r)
    (sym c.in_ok-images.ensures)
    (subst (λ ls. IsRight c.in_ok-built.built.core.items images ls config r) (sym c.in_ok-layouts.ensures) right))

pub returns-clause-shown : goal.returns-clause-shown
returns-clause-shown c = λ room word_room asks.
    answer_shows c.in_ok-built.built.core.items
    (image_alone c.in_ok-built.built.image_path c.in_ok-built.built.image.items) (c.args.layout ∷ [])
    c.args.config.now (shown_report c.args.config.now c.args.layout (told_version c.args.version.now) (program_in c.args.program.now))
    (c.in_ok-built.ensures.report room word_room c.args.config.now asks) c.report.result (answers c asks)

pub returns-clause-memory : goal.returns-clause-memory
returns-clause-memory c = λ room word_room asks.
    answer_lost c.in_ok-built.built.core.items
    (image_alone c.in_ok-built.built.image_path c.in_ok-built.built.image.items) (c.args.layout ∷ [])
    c.args.config.now (shown_report c.args.config.now c.args.layout (told_version c.args.version.now) (program_in c.args.program.now))
    (c.in_ok-built.ensures.report room word_room c.args.config.now asks) c.report.result (answers c asks)

pub returns-clause-right : goal.returns-clause-right
returns-clause-right c =
    let core = c.in_ok-built.built.core.items in
    let images = image_alone c.in_ok-built.built.image_path c.in_ok-built.built.image.items in
    let layout = c.args.layout in
    let config = c.args.config.now in
    let answer = reported c.report.result in
    let built = c.in_ok-built.ensures in
    subst (λ bytes. ReportIs bytes (image_alone image_path (built_image c.args.version.now c.args.machine))
    (layout ∷ []) config answer) built.core
    (subst (λ bytes. ReportIs core (image_alone image_path bytes) (layout ∷ []) config answer) built.image
    (subst (λ path. ReportIs core (image_alone path c.in_ok-built.built.image.items) (layout ∷ []) config answer)
    built.path
    (subst (λ xs. ReportIs core xs (layout ∷ []) config answer) c.in_ok-images.ensures
    (subst (λ ls. ReportIs core c.in_ok-images.images ls config answer) c.in_ok-layouts.ensures
    c.report.ensures.right))))
