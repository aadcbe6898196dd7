use Rattle.std.proofs.Common.{◌≡◌, ◌∙◌, sym, ap, arith}
use Rattle.std.proofs.lemmas.Result.{err_from_is_err_and}
use Rattle.elf64_core.specs.Fields.{u64_in}
use Rattle.process_memory.proofs.Reading.{reads_end, reads_halt, reads_next}
use Rattle.py_fields.proofs.ObjectFields.{float_fits}
use Rattle.py_builtins.specs.ObjectError.{object_fault}
use Rattle.py_objects.specs.ShownTexts.{float_text}
use Rattle.py_objects.specs.Nodes.{float_node}
use Rattle.py_objects.specs.Shows.Node.{Whole}
use Rattle.py_builtins.specs.Consulted.IsRecordSize.{Float}
use Rattle.py_builtins.proofs.Consulted.{consults_record}
use Rattle.py_objects.proofs.Steps.{reads_lost}
use Rattle.py_objects.proofs.nodes.read_float.Goals as goal

pub u64_in-bits-requires : goal.u64_in-bits-requires
u64_in-bits-requires g c = omega (arith, (float_fits c.requires.sound).value, c.deref.ensures.len, c.in_ok-float.ensures.whole)

pub returns-in_err-float : goal.returns-in_err-float
unfolding float_node
returns-in_err-float g c =
    let p = err_from_is_err_and c.from_residual.result c.from_residual.ensures.1 in
    rw p.1 (reads_halt 1 p.0 _ (consults_record c.args.layout.now Float c.in_err-float.ensures.answer) p.2 (omega arith))

pub returns-in_err-double : goal.returns-in_err-double
returns-in_err-double g c =
    let p = err_from_is_err_and c.from_residual-in_err-double.result c.from_residual-in_err-double.ensures.1 in
    rw p.1 (reads_lost {fault = object_fault} 1 (λ m. float_node c.args.layout.now m c.args.addr) p.0 (consults_record c.args.layout.now Float c.in_ok-float.ensures.answer) (omega arith) (ap object_fault p.2))

pub returns : goal.returns
unfolding float_node
returns g c =
    let bits_is : u64_in c.in_ok-float.float.items c.args.layout.now.float.value ≡ c.u64_in-bits.result = sym (c.u64_in-bits.ensures ∙ ap (λ b. u64_in b c.args.layout.now.float.value) c.deref.ensures.value) in
    reads_next 1 _ (consults_record c.args.layout.now Float c.in_ok-float.ensures.answer) (reads_end 0 (ap Whole (ap (float_text 16) bits_is ∙ sym c.in_ok-double.ensures))) (omega arith)
