use Rattle.std.proofs.Common.{arith}
use Rattle.process_memory.proofs.Reading.{reading_gives}
use Rattle.py_stacks.specs.Records.{member_of}
use Rattle.py_fronts.proofs.Shown.{none_by_error, none_by_texts}
use Rattle.py_fronts.proofs.standing.shows_none.Goals as goal

pub returns-in-Ok : goal.returns-in-Ok
returns-in-Ok g c =
    reading_gives _ _ c.in-Ok.ensures (omega arith) (λ m a. none_by_texts c.args.layout.now m (member_of c.args.records.now) c.is_hidden.result _ _ a.is c.is_hidden.ensures)

pub returns : goal.returns
returns g c =
    reading_gives _ _ c.in-Err.ensures (omega arith) (λ m a. none_by_error c.args.layout.now m (member_of c.args.records.now) c.in-Err.why c.without_names.result a.is c.without_names.ensures)
