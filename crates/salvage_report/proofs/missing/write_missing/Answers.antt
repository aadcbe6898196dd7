use Rattle.std.proofs.Common.{◌∙◌, subst}
use Rattle.core_texts.specs.Says.{Says}
use Rattle.missed_reads.specs.Told.{told_of}
use Rattle.salvage_report.proofs.Saying.{says_by}
use Rattle.salvage_report.proofs.missing.write_missing.Goals as goal

pub returns-clause-told : goal.returns-clause-told
returns-clause-told g c =
    let old = g.S.Sink.seen c.args.out.now in
    let new = g.S.Sink.seen c.write.new.self in
    record {
      refused = told_of c.args.misses.now;
      says = subst (λ text. Says old new text) (c.as_bytes.ensures.value ∙ c.in_ok-text.ensures)
          (says_by old new c.as_bytes.result.now c.write.result c.write.ensures.later c.write.ensures.added
          c.write.ensures.front c.write.ensures.cause);
    }
