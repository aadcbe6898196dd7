use Rattle.std.proofs.Common.{rules}
use Rattle.frame_rows.specs.Instructions.{operands_in}
use Rattle.frame_rows.proofs.instruction.operands_in.Goals as goal

pub returns-in-Plain-clause-value : goal.returns-in-Plain-clause-value
unfolding operands_in
returns-in-Plain-clause-value c = search rules

pub returns-in-OneByte-clause-value : goal.returns-in-OneByte-clause-value
unfolding operands_in
returns-in-OneByte-clause-value c = search rules

pub returns-in-TwoBytes-clause-value : goal.returns-in-TwoBytes-clause-value
unfolding operands_in
returns-in-TwoBytes-clause-value c = search rules

pub returns-in-FourBytes-clause-value : goal.returns-in-FourBytes-clause-value
unfolding operands_in
returns-in-FourBytes-clause-value c = search rules

pub returns-in-One-clause-value : goal.returns-in-One-clause-value
unfolding operands_in
returns-in-One-clause-value c = search rules

pub returns-in-Signed-clause-value : goal.returns-in-Signed-clause-value
unfolding operands_in
returns-in-Signed-clause-value c = search rules

pub returns-in-Two-clause-value : goal.returns-in-Two-clause-value
unfolding operands_in
returns-in-Two-clause-value c = search rules

pub returns-in-OneSigned-clause-value : goal.returns-in-OneSigned-clause-value
unfolding operands_in
returns-in-OneSigned-clause-value c = search rules

pub returns-in-Block-clause-value : goal.returns-in-Block-clause-value
unfolding operands_in
returns-in-Block-clause-value c = search rules

pub returns-in-Sized-clause-value : goal.returns-in-Sized-clause-value
unfolding operands_in
returns-in-Sized-clause-value c = search rules
