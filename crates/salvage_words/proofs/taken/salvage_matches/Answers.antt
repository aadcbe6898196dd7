use Rattle.std.proofs.Common.{◌∙◌, ap, subst}
use Rattle.clap.specs.Words.{found_of, is_simple_and_free, rows_of}
use Rattle.core_words.specs.Answers.{AnswersWords}
use Rattle.core_words.specs.Dump.{rows_taken}
use Rattle.core_words.specs.Words.{texts}
use Rattle.salvage_words.specs.Salvage.{taken_rows}
use Rattle.salvage_words.proofs.Accepted.{salvage_is_simple}
use Rattle.salvage_words.proofs.taken.salvage_matches.Goals as goal

pub returns : goal.returns
unfolding taken_rows
returns c =
    let is = c.in_ok-command.ensures in
    subst (λ app. AnswersWords (λ matches. rows_of (found_of matches)) (rows_taken app (texts c.args.words.now))
    c.matches_in.result)
    is (c.matches_in.ensures (ap is_simple_and_free is ∙ salvage_is_simple))
