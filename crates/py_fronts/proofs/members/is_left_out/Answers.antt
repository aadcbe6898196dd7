use Rattle.std.proofs.Common.{arith, ap, length, sym, ◌∙◌}
use Rattle.process_memory.proofs.Reading.{reading_gives, reading_none}
use Rattle.py_fields.proofs.Fields.{code_fits}
use Rattle.py_stacks.specs.Records.{member_of}
use Rattle.py_fronts.proofs.Steps.{left_at_null, left_or_lost}
use Rattle.py_fronts.proofs.members.is_left_out.Goals as goal

pub u64_in-file_at-requires : goal.u64_in-file_at-requires
u64_in-file_at-requires g c = omega (arith, (code_fits c.requires.sound).filename, c.requires.whole.code, ap length c.deref.ensures.value)

pub returns-then-file_at-eq0 : goal.returns-then-file_at-eq0
returns-then-file_at-eq0 g c =
    let at = rw c.deref.ensures.value at c.u64_in-file_at.ensures in
    reading_none _ _ _ (λ m. left_at_null c.args.layout.now m (member_of c.args.records.now) (sym at ∙ c.if-file_at-eq0.true))

pub returns : goal.returns
returns g c =
    let at = rw c.deref.ensures.value at c.u64_in-file_at.ensures in
    reading_gives _ _ c.hides.ensures (omega arith) (λ m h. left_or_lost c.args.layout.now m (member_of c.args.records.now) c.u64_in-file_at.result c.hides.result at c.if-file_at-eq0.false h)
