use Rattle.std.proofs.Common.{ap, sym, ◌∙◌}
use Rattle.process_memory.proofs.Reading.{reads_same, reads_within}
use Rattle.py_stacks.specs.Lines.{line_at}
use Rattle.py_stacks.specs.Records.{member_of}
use Rattle.coroutine_frames.specs.Frames.{asked_line, own_line_at}
use Rattle.coroutine_frames.proofs.LineSteps.{line_few}
use Rattle.coroutine_frames.proofs.frame.read_own_line.Goals as goal

pub returns : goal.returns
unfolding own_line_at
returns g c =
    let is = ap asked_line (sym c.is_unbegun-unbegun.ensures) ∙ sym c.asked_line-lineno.ensures in
    reads_same _ _ (λ m. ap (λ q. line_at q c.args.layout.now m (member_of c.args.records.now)) is)
    (reads_within 2 c.read_line.ensures (line_few c.asked_line-lineno.result))
