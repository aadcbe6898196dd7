use Rattle.std.proofs.Common.{arith, ap, ◌∙◌, sym, ◌+◌}
use Rattle.std.proofs.lemmas.Result.{err_from_is_err_and}
use Rattle.process_memory.specs.Memory.{word_at}
use Rattle.process_memory.specs.Seen.{read_fault}
use Rattle.process_memory.proofs.Reading.{reads_halt, reads_next, reads_same}
use Rattle.elf64_core.specs.Fields.{u64_in}
use Rattle.py_process.specs.Candidates.{head_by_offsets}
use Rattle.process_memory.proofs.Reading.{reading_short}
use Rattle.py_process.proofs.head.read_by_offsets.Goals as goal

pub returns-in_err-bytes : goal.returns-in_err-bytes
unfolding head_by_offsets
returns-in_err-bytes g c =
    let p = err_from_is_err_and c.from_residual.result c.from_residual.ensures.1 in
    rw p.1 (reads_halt 2 p.0 _ (reading_short c.in_err-bytes.ensures.answer) (ap read_fault p.2) (omega arith))

pub returns : goal.returns
unfolding head_by_offsets
returns g c =
    let head = c.u64_in-head.ensures ∙ ap (λ b. u64_in b c.args.offsets.now.head) c.deref.ensures.value in
    reads_next 2 _ (reading_short c.in_ok-bytes.ensures.answer)
    (reads_same (λ m. word_at m (c.args.runtime + u64_in c.in_ok-bytes.bytes.items c.args.offsets.now.head)) (λ m. word_at m (c.args.runtime + c.u64_in-head.result))
    (λ m. ap (λ h. word_at m (c.args.runtime + h)) (sym head)) (reading_short c.word_past.ensures.answer)) (omega arith)
