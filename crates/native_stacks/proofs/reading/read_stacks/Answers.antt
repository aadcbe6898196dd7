use Rattle.std.proofs.Common.{length}
use Rattle.std.proofs.lemmas.Result.{err_from_is_err_and}
use Rattle.process_memory.proofs.Reading.{reading_none}
use Rattle.native_frames.specs.Limits.{most_reads}
use Rattle.native_stacks.proofs.reading.read_stacks.Goals as goal

pub returns-in_err-files : goal.returns-in_err-files
returns-in_err-files g c =
    let p = err_from_is_err_and c.from_residual.result c.from_residual.ensures.1 in
    rw p.1 (reading_none (most_reads (length c.args.notes.now)) _ _ (λ m. tt))
