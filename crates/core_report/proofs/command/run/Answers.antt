use Rattle.core_words.specs.Words.{command_of, texts}
use Rattle.program_run.specs.Ends.{ran}
use Rattle.program_run.proofs.Ends.{run_of}
use Rattle.core_report.specs.Run.{pystacks}
use Rattle.core_report.proofs.Commands.{cause_own}
use Rattle.core_report.proofs.Ends.{run_complete, run_few, run_only, run_pieces, run_status}
use Rattle.core_report.proofs.Headline.{reported_of_run}
use Rattle.core_report.proofs.command.run.Goals as goal

pub returns-clause-runs : goal.returns-clause-runs
returns-clause-runs g c =
    let asks = command_of (texts c.args.words.now) in
    run_of pystacks cause_own asks
    (ran (g.F.Files.seen c.args.files.now) (g.F.Files.seen c.outcome_of-outcome.new.files)
    (g.S.Sink.seen c.args.out.now) (g.S.Sink.seen c.finish.new.out))
    _ _ _ c.outcome_of-outcome.result (c.outcome_of-outcome.ensures.comes asks c.read_words-asked.ensures.words)
    c.finish.ensures c.outcome_of-outcome.ensures.told

pub returns-clause-statuses : goal.returns-clause-statuses
returns-clause-statuses g c = run_status (returns-clause-runs g c).right

pub returns-clause-headline : goal.returns-clause-headline
returns-clause-headline g c d asks is =
    let printed = (returns-clause-runs g c).printed is in
    reported_of_run d (g.F.Files.seen c.args.files.now).told (g.S.Sink.seen c.args.out.now) (g.S.Sink.seen c.finish.new.out)
    printed.0 printed.2 (command_of (texts c.args.words.now)) asks printed.1

pub returns-clause-only : goal.returns-clause-only
returns-clause-only g c = run_only (returns-clause-runs g c).right

pub returns-clause-pieces : goal.returns-clause-pieces
returns-clause-pieces g c = run_pieces (returns-clause-runs g c).right

pub returns-clause-few : goal.returns-clause-few
returns-clause-few g c = run_few (returns-clause-runs g c).right

pub returns-clause-complete : goal.returns-clause-complete
returns-clause-complete g c = run_complete (returns-clause-runs g c).right
