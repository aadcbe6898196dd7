use Rattle.std.proofs.Common.{arith, refl}
use Rattle.process_memory.proofs.Reading.{reads_end, reads_within}
use Rattle.instance_dicts.specs.Managed.{managed_dict_at}
use Rattle.instance_dicts.proofs.managed.managed_dict.Goals as goal

pub returns-in-Pointer : goal.returns-in-Pointer
unfolding managed_dict_at
returns-in-Pointer g c = rw c.in-Pointer.is (reads_end 4 refl)

pub returns-in-ValuesAndDict : goal.returns-in-ValuesAndDict
unfolding managed_dict_at
returns-in-ValuesAndDict g c = rw c.in-ValuesAndDict.is (reads_within 4 c.values_and_dict.ensures (omega arith))

pub returns-in-OneWord : goal.returns-in-OneWord
unfolding managed_dict_at
returns-in-OneWord g c = rw c.in-OneWord.is (reads_within 4 c.one_word_before.ensures (omega arith))

pub returns-in-Embedded : goal.returns-in-Embedded
unfolding managed_dict_at
returns-in-Embedded g c = rw c.in-Embedded.is c.embedded.ensures
