use Rattle.std.proofs.Common.{arith, subst, sym}
use Rattle.std.specs.Io.KnownBytes.{Appends}
use Rattle.outside.specs.Counts.{Rose}
use Rattle.outside.specs.Streams.{SinkSeen}
use Rattle.core_words.specs.Words.{texts}
use Rattle.salvage_words.specs.Salvage.{words_asked}
use Rattle.program_run.specs.Ends.{ran}
use Rattle.program_run.proofs.Ends.{run_of}
use Rattle.salvage_report.specs.Run.{pysalvage}
use Rattle.salvage_report.specs.Missing.{TellsRefused}
use Rattle.salvage_report.proofs.Agreement.{cause_own}
use Rattle.salvage_report.proofs.Ends.{four_rose, run_complete, run_only, run_status}
use Rattle.salvage_report.proofs.TellingRefused.{may_tell, outcome_after, told_at_one, untold_else}
use Rattle.salvage_report.proofs.Headline.{salvaged_of_run, says_layout, says_names, says_native, says_registers}
use Rattle.salvage_report.proofs.Headline.{says_exceptions, says_signal, says_stacks, says_tasks}
use Rattle.salvage_report.proofs.Headline.{says_heap, says_values, says_waits}
use Rattle.salvage_report.proofs.Few.{asked_few}
use Rattle.salvage_report.proofs.command.run.Goals as goal

pub outcome_of-outcome-requires : goal.outcome_of-outcome-requires
outcome_of-outcome-requires g c =
    record { few = asked_few (texts c.args.words.now) c.read_words-asked.result c.read_words-asked.ensures }

pub returns-clause-runs : goal.returns-clause-runs
returns-clause-runs g c =
    let asks = words_asked (texts c.args.words.now) in
    let old = g.F.Files.seen c.args.files.now in
    let new = g.F.Files.seen c.outcome_of-outcome.new.files in
    let out = g.S.Sink.seen c.args.out.now in
    let told = g.S.Sink.seen c.after_telling-outcome.new.out in
    let words = c.read_words-asked.result in
    let came = c.outcome_of-outcome.result in
    let result = c.after_telling-outcome.result in
    let comes = c.outcome_of-outcome.ensures.comes in
    record {
      told = told;
      may = may_tell old new asks words came result c.read_words-asked.ensures comes out told _ _ _ _ _
          c.after_telling-outcome.ensures c.finish.ensures;
      run = run_of pysalvage cause_own asks (ran old new told (g.S.Sink.seen c.finish.new.out)) _ _ _ result
          (outcome_after old new asks words came result c.read_words-asked.ensures comes out told
          c.after_telling-outcome.ensures)
          c.finish.ensures c.outcome_of-outcome.ensures.told;
    }

pub returns-clause-statuses : goal.returns-clause-statuses
returns-clause-statuses g c = run_status (returns-clause-runs g c).run.right

pub returns-clause-headline : goal.returns-clause-headline
returns-clause-headline g c s asks is =
    let runs = returns-clause-runs g c in
    let printed = runs.run.printed is in
    let same = untold_else runs.may (λ one. absurd (omega (arith, is, one))) in
    salvaged_of_run s (g.F.Files.seen c.args.files.now).told (g.S.Sink.seen c.args.out.now)
    (g.S.Sink.seen c.finish.new.out)
    printed.0 (subst (λ (seen : SinkSeen). Appends seen.written (g.S.Sink.seen c.finish.new.out).written printed.0)
    same printed.2)
    (words_asked (texts c.args.words.now)) asks printed.1

pub returns-clause-signal : goal.returns-clause-signal
returns-clause-signal g c s asks on is = says_signal s _ _ _ (returns-clause-headline g c s asks is) on

pub returns-clause-registers : goal.returns-clause-registers
returns-clause-registers g c s asks on is = says_registers s _ _ _ (returns-clause-headline g c s asks is) on

pub returns-clause-layout : goal.returns-clause-layout
returns-clause-layout g c s asks on is = says_layout s _ _ _ (returns-clause-headline g c s asks is) on

pub returns-clause-names : goal.returns-clause-names
returns-clause-names g c s asks on is = says_names s _ _ _ (returns-clause-headline g c s asks is) on

pub returns-clause-exceptions : goal.returns-clause-exceptions
returns-clause-exceptions g c s asks on is = says_exceptions s _ _ _ (returns-clause-headline g c s asks is) on

pub returns-clause-tasks : goal.returns-clause-tasks
returns-clause-tasks g c s asks on is = says_tasks s _ _ _ (returns-clause-headline g c s asks is) on

pub returns-clause-waits : goal.returns-clause-waits
returns-clause-waits g c s asks on is = says_waits s _ _ _ (returns-clause-headline g c s asks is) on

pub returns-clause-stacks : goal.returns-clause-stacks
returns-clause-stacks g c s asks on is = says_stacks s _ _ _ (returns-clause-headline g c s asks is) on

pub returns-clause-native : goal.returns-clause-native
returns-clause-native g c s asks on is = says_native s _ _ _ (returns-clause-headline g c s asks is) on

pub returns-clause-heap : goal.returns-clause-heap
returns-clause-heap g c s asks on is = says_heap s _ _ _ (returns-clause-headline g c s asks is) on

pub returns-clause-values : goal.returns-clause-values
returns-clause-values g c s asks on is = says_values s _ _ _ (returns-clause-headline g c s asks is) on

pub returns-clause-missing : goal.returns-clause-missing
returns-clause-missing g c s asks on is =
    let runs = returns-clause-runs g c in
    let rest = runs.run.nothing_out (λ zero. absurd (omega (arith, is, zero)))
    (λ four. absurd (omega (arith, is, four))) in
    subst (λ (seen : SinkSeen). TellsRefused (g.S.Sink.seen c.args.out.now) seen) (sym rest)
    (told_at_one runs.may s asks on is)

pub returns-clause-only : goal.returns-clause-only
returns-clause-only g c = run_only (returns-clause-runs g c).run.right

pub returns-clause-complete : goal.returns-clause-complete
returns-clause-complete g c s contents tells good same quiet =
    let runs = returns-clause-runs g c in
    run_complete runs.run.right s contents tells good same (λ four.
    quiet (subst (λ (seen : SinkSeen). Rose seen.faults (g.S.Sink.seen c.finish.new.out).faults)
    (untold_else runs.may (λ one. absurd (omega (arith, four, one)))) (four_rose runs.run.right four)))
