use Rattle.std.proofs.Common.{ap, sym}
use Rattle.process_memory.proofs.Reading.{reads_same}
use Rattle.py_selftest.specs.Contents.{contents_if}
use Rattle.py_selftest.proofs.contents.first_contents.Goals as goal

pub returns : goal.returns
returns g c = reads_same _ _ (λ m. ap (contents_if c.args.layout.now m) (sym c.first_interpreter-interpreter.ensures))
    c.contents_if.ensures
