use Rattle.std.proofs.Common.{subst}
use Rattle.core_words.specs.Answers.{AnswersWords}
use Rattle.core_words.specs.Seen.{asked_command}
use Rattle.program_run.proofs.Ends.{answered}
use Rattle.core_report.specs.Run.{pystacks}
use Rattle.core_report.proofs.command.outcome_of.Goals as goal

pub returns-in-Ok-clause-comes : goal.returns-in-Ok-clause-comes
returns-in-Ok-clause-comes g c asks words =
    answered pystacks asks (g.F.Files.seen c.args.files.now) (g.F.Files.seen c.text_of.new.files)
    (asked_command c.in-Ok.command) c.text_of.result
    (subst (λ a. AnswersWords asked_command asks a) c.in-Ok.is words) c.text_of.ensures.comes
