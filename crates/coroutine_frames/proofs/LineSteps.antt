-- How many reads a line takes.
use Rattle.std.proofs.Common.{◌≤◌, arith}
use Rattle.py_stacks.specs.declared.asked.LineNo.{LineNo}
use Rattle.py_stacks.specs.declared.asked.LineNo.TheVariants.{NoLine, First, LastInstruction}
use Rattle.py_stacks.specs.Lines.{line_cost}

pub line_few : (q : LineNo) → line_cost q ≤ 2
line_few NoLine = omega arith
line_few First = omega arith
line_few LastInstruction = omega arith
