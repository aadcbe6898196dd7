use Rattle.std.proofs.Common.{subst}
use Rattle.core_words.specs.Answers.{AnswersWords}
use Rattle.salvage_words.specs.Seen.{asked_by}
use Rattle.program_run.proofs.Ends.{answered}
use Rattle.salvage_report.specs.Run.{pysalvage}
use Rattle.salvage_report.proofs.command.outcome_of.Goals as goal

pub returns-in-Ok-clause-comes : goal.returns-in-Ok-clause-comes
returns-in-Ok-clause-comes g c asks words =
    answered pysalvage asks (g.F.Files.seen c.args.files.now) (g.F.Files.seen c.text_of.new.files)
    (asked_by c.in-Ok.asked) c.text_of.result
    (subst (λ a. AnswersWords asked_by asks a) c.in-Ok.is words) c.text_of.ensures.comes
