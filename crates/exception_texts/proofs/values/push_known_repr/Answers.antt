use Rattle.exception_texts.proofs.values.push_known_repr.Goals as goal

pub returns-in-LongNumber : goal.returns-in-LongNumber
returns-in-LongNumber c = rw c.in-LongNumber.is c.push_long-in-LongNumber.ensures
