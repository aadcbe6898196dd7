use Rattle.std.proofs.Common.{◌∙◌, ap₂}
use Rattle.std.proofs.lemmas.Result.{IfOk-weaker}
use Rattle.clap.specs.Words.{with_rule}
use Rattle.salvage_words.proofs.taken.salvage_command.Goals as goal

pub returns : goal.returns
returns c =
    let one = c.in_ok-arg.ensures.shape c.core_arg.ensures.local
    ∙ ap₂ with_rule c.new.ensures.app c.core_arg.ensures.rule in
    let two = c.in_ok-arg-2.ensures.shape c.wanted.ensures.local ∙ ap₂ with_rule one c.wanted.ensures.rule in
    let records = c.in_ok-arg-3.ensures.shape c.records_arg.ensures.local
    ∙ ap₂ with_rule two c.records_arg.ensures.rule in
    let three = c.in_ok-arg-4.ensures.shape c.frames_arg.ensures.local
    ∙ ap₂ with_rule records c.frames_arg.ensures.rule in
    let four = c.in_ok-arg-5.ensures.shape c.locals_arg.ensures.local ∙ ap₂ with_rule three c.locals_arg.ensures.rule in
    let five = c.in_ok-arg-6.ensures.shape c.flag.ensures.local ∙ ap₂ with_rule four c.flag.ensures.rule in
    let signal = c.in_ok-arg-7.ensures.shape c.flag-2.ensures.local ∙ ap₂ with_rule five c.flag-2.ensures.rule in
    let registers = c.in_ok-arg-8.ensures.shape c.flag-3.ensures.local ∙ ap₂ with_rule signal c.flag-3.ensures.rule in
    let missing = c.in_ok-arg-9.ensures.shape c.flag-4.ensures.local ∙ ap₂ with_rule registers c.flag-4.ensures.rule in
    let checked = c.in_ok-arg-10.ensures.shape c.flag-5.ensures.local ∙ ap₂ with_rule missing c.flag-5.ensures.rule in
    let names = c.in_ok-arg-11.ensures.shape c.flag-6.ensures.local ∙ ap₂ with_rule checked c.flag-6.ensures.rule in
    let tasks = c.in_ok-arg-12.ensures.shape c.flag-7.ensures.local ∙ ap₂ with_rule names c.flag-7.ensures.rule in
    let exceptions = c.in_ok-arg-13.ensures.shape c.flag-8.ensures.local ∙ ap₂ with_rule tasks c.flag-8.ensures.rule in
    let waits = c.in_ok-arg-14.ensures.shape c.flag-9.ensures.local ∙ ap₂ with_rule exceptions c.flag-9.ensures.rule in
    let native = c.in_ok-arg-15.ensures.shape c.flag-10.ensures.local ∙ ap₂ with_rule waits c.flag-10.ensures.rule in
    let strict = c.in_ok-arg-16.ensures.shape c.flag-11.ensures.local ∙ ap₂ with_rule native c.flag-11.ensures.rule in
    let crashed = c.in_ok-arg-17.ensures.shape c.flag-12.ensures.local ∙ ap₂ with_rule strict c.flag-12.ensures.rule in
    let heap = c.in_ok-arg-18.ensures.shape c.flag-13.ensures.local ∙ ap₂ with_rule crashed c.flag-13.ensures.rule in
    IfOk-weaker c.arg-19.result _ _
    (λ command added. added.shape c.images_arg.ensures.local ∙ ap₂ with_rule heap c.images_arg.ensures.rule)
    c.arg-19.ensures
