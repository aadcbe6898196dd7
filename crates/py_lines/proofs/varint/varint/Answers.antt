use Rattle.py_lines.specs.Varint.{varint}
use Rattle.py_lines.proofs.varint.varint.Goals as goal

pub returns-clause-value : goal.returns-clause-value
unfolding varint
returns-clause-value c = c.varint_within.ensures.value
