use Rattle.std.proofs.Common.{arith, ap, length, rules, ◌∙◌}
use Rattle.std.proofs.lemmas.Int.{to_z-of_z}
use Rattle.std.specs.Int.{w32}
use Rattle.std.proofs.lemmas.Result.{err_from_is_err_and}
use Rattle.process_memory.proofs.Reading.{reading_gives, reading_then}
use Rattle.py_fields.proofs.Fields.{frame_fits}
use Rattle.py_stacks.specs.Records.{member_of}
use Rattle.py_fronts.proofs.Shown.{frame_stands, locals_few, locals_lost, locals_shown}
use Rattle.py_fronts.proofs.Steps.{lost_then, reading_both}
use Rattle.py_builtins.proofs.Consulted.{consulting_short}
use Rattle.py_fronts.proofs.standing.read_frame.Goals as goal

pub returns-in_err-locals : goal.returns-in_err-locals
returns-in_err-locals g c =
    let p = err_from_is_err_and c.from_residual-in_err-locals.result c.from_residual-in_err-locals.ensures.1 in
    let few = locals_few c.args.asked.locals c.args.layout.now (member_of c.args.records.now) in
    rw p.1 (reading_gives _ _ (reading_then _ c.in_ok-line.ensures (consulting_short c.read_locals-read.ensures) (λ m a b. p.2 ∙ locals_lost c.read_locals-read.result c.in_err-locals.field-0.0 c.in_err-locals.ensures)) (omega (arith, few)) (λ m h. h))

pub is_entered-is_entry-requires : goal.is_entered-is_entry-requires
is_entered-is_entry-requires g c = λ entry is. omega (arith, (frame_fits c.requires.sound).entry entry is, c.requires.whole.frame, ap length c.deref.ensures.value)

pub u64_in-back-requires : goal.u64_in-back-requires
u64_in-back-requires g c = omega (arith, (frame_fits c.requires.sound).back, c.requires.whole.frame, ap length c.deref-2.ensures.value)

pub returns-in_err-is_shim_entry : goal.returns-in_err-is_shim_entry
returns-in_err-is_shim_entry g c =
    let p = err_from_is_err_and c.from_residual-in_err-is_shim_entry.result c.from_residual-in_err-is_shim_entry.ensures.1 in
    let few = locals_few c.args.asked.locals c.args.layout.now (member_of c.args.records.now) in
    rw p.1 (lost_then _ (reading_then _ c.in_ok-line.ensures (consulting_short c.read_locals-read.ensures) (λ m a b. a)) c.in_err-is_shim_entry.ensures p.2 (omega (arith, few)))

pub returns-in_err-frame : goal.returns-in_err-frame
returns-in_err-frame g c =
    let p = err_from_is_err_and c.from_residual-in_err-frame.result c.from_residual-in_err-frame.ensures.1 in
    let few = locals_few c.args.asked.locals c.args.layout.now (member_of c.args.records.now) in
    let shim = rw (rw c.deref-2.ensures.value at c.u64_in-back.ensures) at c.in_ok-is_shim_entry.ensures in
    rw p.1 (reading_gives _ _ (reading_then _ (reading_both c.in_ok-line.ensures (consulting_short c.read_locals-read.ensures)) shim (λ m a b. p.2)) (omega (arith, few)) (λ m h. h))

pub returns : goal.returns
returns g c =
    let few = locals_few c.args.asked.locals c.args.layout.now (member_of c.args.records.now) in
    let fit = to_z-of_z w32 c.in_ok-line.line (search rules) in
    let entry = rw c.deref.ensures.value at c.is_entered-is_entry.ensures in
    let back = rw c.deref-2.ensures.value at c.u64_in-back.ensures in
    let shim = rw back at c.in_ok-is_shim_entry.ensures in
    rw c.in_ok-frame.ensures (reading_gives _ _ (reading_then _ (reading_both c.in_ok-line.ensures (consulting_short c.read_locals-read.ensures)) shim
    (λ m a b. frame_stands c.args.asked c.args.layout.now m (member_of c.args.records.now) c.args.filename c.args.name _ c.in_ok-locals.locals c.is_entered-is_entry.result c.in_ok-is_shim_entry.is_shim_entry (fit ∙ a.0)
    (locals_shown _ c.read_locals-read.result c.in_ok-locals.locals a.1 c.in_ok-locals.ensures) entry b)) (omega (arith, few)) (λ m h. h))
