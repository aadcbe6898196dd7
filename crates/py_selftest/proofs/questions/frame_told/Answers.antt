use Rattle.std.proofs.Common.{ap, refl, arith}
use Rattle.std.proofs.lemmas.Result.{err_from_is_err_and}
use Rattle.process_memory.specs.Seen.{read_fault}
use Rattle.process_memory.proofs.Reading.{reads_next, reads_halt, reads_end}
use Rattle.py_selftest.proofs.Keeping.{reads_kept}
use Rattle.py_selftest.specs.Questions.{text_told}
use Rattle.py_selftest.specs.Questions.{class_told, frame_told, frame_type, instruction_told, local_told}
use Rattle.py_selftest.specs.Questions.{member_class_told, table_told, text_type}
use Rattle.py_selftest.proofs.questions.frame_told.Goals as goal

pub returns-in_err-frame : goal.returns-in_err-frame
unfolding frame_told
returns-in_err-frame g c =
    let p = err_from_is_err_and c.from_residual.result c.from_residual.ensures.1 in
    rw p.1 (reads_halt 20 p.0 _ (reads_kept (λ m. class_told c.args.layout.now m (frame_type c.args.types.now
    c.args.release) c.args.at) c.in_err-frame.ensures (rw c.frame_type-frame_of.ensures at c.class_told.ensures))
    (ap read_fault p.2) (omega arith))

pub returns-in_err-code : goal.returns-in_err-code
unfolding frame_told
returns-in_err-code g c =
    let p = err_from_is_err_and c.from_residual-in_err-code.result c.from_residual-in_err-code.ensures.1 in
    rw p.1 (reads_next 20 _ (reads_kept (λ m. class_told c.args.layout.now m (frame_type c.args.types.now
    c.args.release) c.args.at) c.in_ok-frame.ensures (rw c.frame_type-frame_of.ensures at c.class_told.ensures))
    (reads_halt 19 p.0 _ (reads_kept (λ m. class_told c.args.layout.now m c.args.types.now.code c.args.of)
    c.in_err-code.ensures c.class_told-2.ensures) (ap read_fault p.2) (omega arith)) (omega arith))

pub returns-in_err-name : goal.returns-in_err-name
unfolding frame_told
returns-in_err-name g c =
    let p = err_from_is_err_and c.from_residual-in_err-name.result c.from_residual-in_err-name.ensures.1 in
    rw p.1 (reads_next 20 _ (reads_kept (λ m. class_told c.args.layout.now m (frame_type c.args.types.now
    c.args.release) c.args.at) c.in_ok-frame.ensures (rw c.frame_type-frame_of.ensures at c.class_told.ensures))
    (reads_next 19 _ (reads_kept (λ m. class_told c.args.layout.now m c.args.types.now.code c.args.of)
    c.in_ok-code.ensures c.class_told-2.ensures)
    (reads_halt 18 p.0 _ (reads_kept (λ m. member_class_told c.args.layout.now m (text_type c.args.types.now
    c.args.release) c.args.of c.args.layout.now.code.name) c.in_err-name.ensures (rw c.text_type-text_of.ensures at
    c.member_class_told.ensures)) (ap read_fault p.2) (omega arith)) (omega arith)) (omega arith))

pub returns-in_err-file : goal.returns-in_err-file
unfolding frame_told
returns-in_err-file g c =
    let p = err_from_is_err_and c.from_residual-in_err-file.result c.from_residual-in_err-file.ensures.1 in
    rw p.1 (reads_next 20 _ (reads_kept (λ m. class_told c.args.layout.now m (frame_type c.args.types.now
    c.args.release) c.args.at) c.in_ok-frame.ensures (rw c.frame_type-frame_of.ensures at c.class_told.ensures))
    (reads_next 19 _ (reads_kept (λ m. class_told c.args.layout.now m c.args.types.now.code c.args.of)
    c.in_ok-code.ensures c.class_told-2.ensures)
    (reads_next 18 _ (reads_kept (λ m. member_class_told c.args.layout.now m (text_type c.args.types.now
    c.args.release) c.args.of c.args.layout.now.code.name) c.in_ok-name.ensures (rw c.text_type-text_of.ensures at
    c.member_class_told.ensures))
    (reads_halt 16 p.0 _ (reads_kept (λ m. text_told c.args.layout.now m c.args.release c.args.of
    c.args.layout.now.code.filename) c.in_err-file.ensures c.text_told.ensures) (ap read_fault p.2) (omega arith))
    (omega arith)) (omega arith)) (omega arith))

pub returns-in_err-variables : goal.returns-in_err-variables
unfolding frame_told
returns-in_err-variables g c =
    let p = err_from_is_err_and c.from_residual-in_err-variables.result c.from_residual-in_err-variables.ensures.1 in
    rw p.1 (reads_next 20 _ (reads_kept (λ m. class_told c.args.layout.now m (frame_type c.args.types.now
    c.args.release) c.args.at) c.in_ok-frame.ensures (rw c.frame_type-frame_of.ensures at c.class_told.ensures))
    (reads_next 19 _ (reads_kept (λ m. class_told c.args.layout.now m c.args.types.now.code c.args.of)
    c.in_ok-code.ensures c.class_told-2.ensures)
    (reads_next 18 _ (reads_kept (λ m. member_class_told c.args.layout.now m (text_type c.args.types.now
    c.args.release) c.args.of c.args.layout.now.code.name) c.in_ok-name.ensures (rw c.text_type-text_of.ensures at
    c.member_class_told.ensures))
    (reads_next 16 _ (reads_kept (λ m. text_told c.args.layout.now m c.args.release c.args.of
    c.args.layout.now.code.filename) c.in_ok-file.ensures c.text_told.ensures)
    (reads_halt 13 p.0 _ (reads_kept (λ m. member_class_told c.args.layout.now m c.args.types.now.tuple c.args.of
    c.args.layout.now.code.varnames) c.in_err-variables.ensures c.member_class_told-2.ensures) (ap read_fault p.2)
    (omega arith)) (omega arith)) (omega arith)) (omega arith)) (omega arith))

pub returns-in_err-table : goal.returns-in_err-table
unfolding frame_told
returns-in_err-table g c =
    let p = err_from_is_err_and c.from_residual-in_err-table.result c.from_residual-in_err-table.ensures.1 in
    rw p.1 (reads_next 20 _ (reads_kept (λ m. class_told c.args.layout.now m (frame_type c.args.types.now
    c.args.release) c.args.at) c.in_ok-frame.ensures (rw c.frame_type-frame_of.ensures at c.class_told.ensures))
    (reads_next 19 _ (reads_kept (λ m. class_told c.args.layout.now m c.args.types.now.code c.args.of)
    c.in_ok-code.ensures c.class_told-2.ensures)
    (reads_next 18 _ (reads_kept (λ m. member_class_told c.args.layout.now m (text_type c.args.types.now
    c.args.release) c.args.of c.args.layout.now.code.name) c.in_ok-name.ensures (rw c.text_type-text_of.ensures at
    c.member_class_told.ensures))
    (reads_next 16 _ (reads_kept (λ m. text_told c.args.layout.now m c.args.release c.args.of
    c.args.layout.now.code.filename) c.in_ok-file.ensures c.text_told.ensures)
    (reads_next 13 _ (reads_kept (λ m. member_class_told c.args.layout.now m c.args.types.now.tuple c.args.of
    c.args.layout.now.code.varnames) c.in_ok-variables.ensures c.member_class_told-2.ensures)
    (reads_halt 11 p.0 _ (reads_kept (λ m. member_class_told c.args.layout.now m c.args.types.now.bytes c.args.of
    c.args.layout.now.code.table) c.in_err-table.ensures c.member_class_told-3.ensures) (ap read_fault p.2) (omega
    arith)) (omega arith)) (omega arith)) (omega arith)) (omega arith)) (omega arith))

pub returns-in_err-end : goal.returns-in_err-end
unfolding frame_told
returns-in_err-end g c =
    let p = err_from_is_err_and c.from_residual-in_err-end.result c.from_residual-in_err-end.ensures.1 in
    rw p.1 (reads_next 20 _ (reads_kept (λ m. class_told c.args.layout.now m (frame_type c.args.types.now
    c.args.release) c.args.at) c.in_ok-frame.ensures (rw c.frame_type-frame_of.ensures at c.class_told.ensures))
    (reads_next 19 _ (reads_kept (λ m. class_told c.args.layout.now m c.args.types.now.code c.args.of)
    c.in_ok-code.ensures c.class_told-2.ensures)
    (reads_next 18 _ (reads_kept (λ m. member_class_told c.args.layout.now m (text_type c.args.types.now
    c.args.release) c.args.of c.args.layout.now.code.name) c.in_ok-name.ensures (rw c.text_type-text_of.ensures at
    c.member_class_told.ensures))
    (reads_next 16 _ (reads_kept (λ m. text_told c.args.layout.now m c.args.release c.args.of
    c.args.layout.now.code.filename) c.in_ok-file.ensures c.text_told.ensures)
    (reads_next 13 _ (reads_kept (λ m. member_class_told c.args.layout.now m c.args.types.now.tuple c.args.of
    c.args.layout.now.code.varnames) c.in_ok-variables.ensures c.member_class_told-2.ensures)
    (reads_next 11 _ (reads_kept (λ m. member_class_told c.args.layout.now m c.args.types.now.bytes c.args.of
    c.args.layout.now.code.table) c.in_ok-table.ensures c.member_class_told-3.ensures)
    (reads_halt 9 p.0 _ (reads_kept (λ m. table_told c.args.layout.now m c.args.of) c.in_err-end.ensures
    c.table_told.ensures) (ap read_fault p.2) (omega arith)) (omega arith)) (omega arith)) (omega arith)) (omega
    arith)) (omega arith)) (omega arith))

pub returns-in_err-instruction : goal.returns-in_err-instruction
unfolding frame_told
returns-in_err-instruction g c =
    let p = err_from_is_err_and c.from_residual-in_err-instruction.result
    c.from_residual-in_err-instruction.ensures.1 in
    rw p.1 (reads_next 20 _ (reads_kept (λ m. class_told c.args.layout.now m (frame_type c.args.types.now
    c.args.release) c.args.at) c.in_ok-frame.ensures (rw c.frame_type-frame_of.ensures at c.class_told.ensures))
    (reads_next 19 _ (reads_kept (λ m. class_told c.args.layout.now m c.args.types.now.code c.args.of)
    c.in_ok-code.ensures c.class_told-2.ensures)
    (reads_next 18 _ (reads_kept (λ m. member_class_told c.args.layout.now m (text_type c.args.types.now
    c.args.release) c.args.of c.args.layout.now.code.name) c.in_ok-name.ensures (rw c.text_type-text_of.ensures at
    c.member_class_told.ensures))
    (reads_next 16 _ (reads_kept (λ m. text_told c.args.layout.now m c.args.release c.args.of
    c.args.layout.now.code.filename) c.in_ok-file.ensures c.text_told.ensures)
    (reads_next 13 _ (reads_kept (λ m. member_class_told c.args.layout.now m c.args.types.now.tuple c.args.of
    c.args.layout.now.code.varnames) c.in_ok-variables.ensures c.member_class_told-2.ensures)
    (reads_next 11 _ (reads_kept (λ m. member_class_told c.args.layout.now m c.args.types.now.bytes c.args.of
    c.args.layout.now.code.table) c.in_ok-table.ensures c.member_class_told-3.ensures)
    (reads_next 9 _ (reads_kept (λ m. table_told c.args.layout.now m c.args.of) c.in_ok-end.ensures
    c.table_told.ensures)
    (reads_halt 6 p.0 _ (reads_kept (λ m. instruction_told c.args.layout.now m c.args.layout.now.code.start
    c.args.at c.args.of) c.in_err-instruction.ensures c.instruction_told.ensures) (ap read_fault p.2) (omega
    arith)) (omega arith)) (omega arith)) (omega arith)) (omega arith)) (omega arith)) (omega arith)) (omega arith))

pub returns-in_err-local : goal.returns-in_err-local
unfolding frame_told
returns-in_err-local g c =
    let p = err_from_is_err_and c.from_residual-in_err-local.result c.from_residual-in_err-local.ensures.1 in
    rw p.1 (reads_next 20 _ (reads_kept (λ m. class_told c.args.layout.now m (frame_type c.args.types.now
    c.args.release) c.args.at) c.in_ok-frame.ensures (rw c.frame_type-frame_of.ensures at c.class_told.ensures))
    (reads_next 19 _ (reads_kept (λ m. class_told c.args.layout.now m c.args.types.now.code c.args.of)
    c.in_ok-code.ensures c.class_told-2.ensures)
    (reads_next 18 _ (reads_kept (λ m. member_class_told c.args.layout.now m (text_type c.args.types.now
    c.args.release) c.args.of c.args.layout.now.code.name) c.in_ok-name.ensures (rw c.text_type-text_of.ensures at
    c.member_class_told.ensures))
    (reads_next 16 _ (reads_kept (λ m. text_told c.args.layout.now m c.args.release c.args.of
    c.args.layout.now.code.filename) c.in_ok-file.ensures c.text_told.ensures)
    (reads_next 13 _ (reads_kept (λ m. member_class_told c.args.layout.now m c.args.types.now.tuple c.args.of
    c.args.layout.now.code.varnames) c.in_ok-variables.ensures c.member_class_told-2.ensures)
    (reads_next 11 _ (reads_kept (λ m. member_class_told c.args.layout.now m c.args.types.now.bytes c.args.of
    c.args.layout.now.code.table) c.in_ok-table.ensures c.member_class_told-3.ensures)
    (reads_next 9 _ (reads_kept (λ m. table_told c.args.layout.now m c.args.of) c.in_ok-end.ensures
    c.table_told.ensures)
    (reads_next 6 _ (reads_kept (λ m. instruction_told c.args.layout.now m c.args.layout.now.code.start c.args.at
    c.args.of) c.in_ok-instruction.ensures c.instruction_told.ensures)
    (reads_halt 5 p.0 _ (reads_kept (λ m. local_told c.args.layout.now m c.args.at c.args.of)
    c.in_err-local.ensures c.local_told.ensures) (ap read_fault p.2) (omega arith)) (omega arith)) (omega arith))
    (omega arith)) (omega arith)) (omega arith)) (omega arith)) (omega arith)) (omega arith))

pub returns : goal.returns
unfolding frame_told
returns g c =
    (reads_next 20 _ (reads_kept (λ m. class_told c.args.layout.now m (frame_type c.args.types.now c.args.release)
    c.args.at) c.in_ok-frame.ensures (rw c.frame_type-frame_of.ensures at c.class_told.ensures))
    (reads_next 19 _ (reads_kept (λ m. class_told c.args.layout.now m c.args.types.now.code c.args.of)
    c.in_ok-code.ensures c.class_told-2.ensures)
    (reads_next 18 _ (reads_kept (λ m. member_class_told c.args.layout.now m (text_type c.args.types.now
    c.args.release) c.args.of c.args.layout.now.code.name) c.in_ok-name.ensures (rw c.text_type-text_of.ensures at
    c.member_class_told.ensures))
    (reads_next 16 _ (reads_kept (λ m. text_told c.args.layout.now m c.args.release c.args.of
    c.args.layout.now.code.filename) c.in_ok-file.ensures c.text_told.ensures)
    (reads_next 13 _ (reads_kept (λ m. member_class_told c.args.layout.now m c.args.types.now.tuple c.args.of
    c.args.layout.now.code.varnames) c.in_ok-variables.ensures c.member_class_told-2.ensures)
    (reads_next 11 _ (reads_kept (λ m. member_class_told c.args.layout.now m c.args.types.now.bytes c.args.of
    c.args.layout.now.code.table) c.in_ok-table.ensures c.member_class_told-3.ensures)
    (reads_next 9 _ (reads_kept (λ m. table_told c.args.layout.now m c.args.of) c.in_ok-end.ensures
    c.table_told.ensures)
    (reads_next 6 _ (reads_kept (λ m. instruction_told c.args.layout.now m c.args.layout.now.code.start c.args.at
    c.args.of) c.in_ok-instruction.ensures c.instruction_told.ensures)
    (reads_next 5 _ (reads_kept (λ m. local_told c.args.layout.now m c.args.at c.args.of) c.in_ok-local.ensures
    c.local_told.ensures)
    (reads_end 0 refl) (omega arith)) (omega arith)) (omega arith)) (omega arith)) (omega arith)) (omega arith))
    (omega arith)) (omega arith)) (omega arith))
