use Rattle.std.proofs.Common.{◌≡◌, ◌+◌, ◌≤◌, ◌∙◌, arith, ap, sym, rules}
use Rattle.std.specs.Prelude.{Err}
use Rattle.std.proofs.lemmas.Result.{err_from_is_err_and}
use Rattle.elf64_core.specs.Fields.{u64_in}
use Rattle.process_memory.specs.Memory.{Memory, Found, record_at}
use Rattle.process_memory.specs.Memory.Fault.{TooLong}
use Rattle.process_memory.proofs.Reading.{read_kept, reading_gives, reading_short, reads_halt, reads_next}
use Rattle.py_fields.proofs.ObjectFields.{bytes_fits}
use Rattle.py_builtins.specs.Bytes.{bytes_object_at, bytes_of_length}
use Rattle.process_memory.specs.declared.memory.ReadFault.{ReadFault}
use Rattle.process_memory.specs.Seen.{Answers, read_fault}
use Rattle.py_builtins.specs.declared.error.ObjectError.{ObjectError}
use Rattle.py_builtins.specs.ObjectError.{object_fault}
use Rattle.py_builtins.proofs.BytesRead.{bytes_long, bytes_fine}
use Rattle.py_builtins.specs.Consulted.IsRecordSize.{Bytes}
use Rattle.py_builtins.proofs.Consulted.{consults_bytes, consults_record}
use Rattle.py_builtins.proofs.bytes.copy_bytes.Goals as goal

-- an error that names the same fault
fails : {T : Type 0} (d e : Found T) (x : ObjectError) {y : ReadFault} → object_fault x ≡ read_fault y → d ≡ e → Answers {T = T} read_fault e (Err y) → Answers {T = T} object_fault d (Err x)
fails d e x {y} same is h = record { is = rw (is, same) h.is }

pub u64_in-length-requires : goal.u64_in-length-requires
u64_in-length-requires g c = omega (arith, (bytes_fits c.requires.sound).length, c.deref.ensures.len, c.in_ok-object.ensures.whole)

pub returns-in_err-object-clause-answer : goal.returns-in_err-object-clause-answer
unfolding bytes_object_at
returns-in_err-object-clause-answer g c =
    let p = err_from_is_err_and c.from_residual.result c.from_residual.ensures.1 in
    rw p.1 (reads_halt 2 p.0 _ (consults_record c.args.layout.now Bytes c.in_err-object.ensures.answer) p.2 (omega arith))

pub returns-then-length-ge-LENGTH_LIMIT-clause-early : goal.returns-then-length-ge-LENGTH_LIMIT-clause-early
unfolding bytes_object_at
returns-then-length-ge-LENGTH_LIMIT-clause-early g c =
    let length_is : c.u64_in-length.result ≡ u64_in c.in_ok-object.object.items c.args.layout.now.bytes.length = c.u64_in-length.ensures ∙ ap (λ b. u64_in b c.args.layout.now.bytes.length) c.deref.ensures.value in
    let long : 65536 ≤ u64_in c.in_ok-object.object.items c.args.layout.now.bytes.length = omega arith in
    reading_gives 1 _ (reading_short c.in_ok-object.ensures.answer) (omega arith) (λ m h. rw h.is (bytes_long c.args.layout.now m c.args.addr _ long ∙ ap (λ z. Err (TooLong z)) (search rules)))

pub returns-then-length-ge-LENGTH_LIMIT-clause-answer : goal.returns-then-length-ge-LENGTH_LIMIT-clause-answer
unfolding bytes_object_at
returns-then-length-ge-LENGTH_LIMIT-clause-answer g c =
    let length_is : c.u64_in-length.result ≡ u64_in c.in_ok-object.object.items c.args.layout.now.bytes.length = c.u64_in-length.ensures ∙ ap (λ b. u64_in b c.args.layout.now.bytes.length) c.deref.ensures.value in
    let long : 65536 ≤ u64_in c.in_ok-object.object.items c.args.layout.now.bytes.length = omega arith in
    reading_gives 2 _ (consults_record c.args.layout.now Bytes c.in_ok-object.ensures.answer) (omega arith)
    (λ m h. record { is = rw h.is (bytes_long c.args.layout.now m c.args.addr _ long ∙ ap (λ z. Err (TooLong z)) (search rules)) })

pub returns-in_err-record_wide-clause-answer : goal.returns-in_err-record_wide-clause-answer
unfolding bytes_object_at
returns-in_err-record_wide-clause-answer g c =
    let length_is : c.u64_in-length.result ≡ u64_in c.in_ok-object.object.items c.args.layout.now.bytes.length = c.u64_in-length.ensures ∙ ap (λ b. u64_in b c.args.layout.now.bytes.length) c.deref.ensures.value in
    let layout = c.args.layout.now in
    let n = c.u64_in-length.result in
    let same : (m : Memory) → bytes_of_length layout m c.args.addr (u64_in c.in_ok-object.object.items layout.bytes.length) ≡ record_at m (c.args.addr + layout.bytes.at) n = λ m. ap (bytes_of_length layout m c.args.addr) (sym length_is) ∙ bytes_fine layout m c.args.addr n (omega arith) in
    let p = err_from_is_err_and c.from_residual-in_err-record_wide.result c.from_residual-in_err-record_wide.ensures.1 in
    rw p.1
    (reads_next 2 _ (consults_record layout Bytes c.in_ok-object.ensures.answer)
    (reading_gives 1 _ (consults_bytes layout (λ s is. record {
      bytes = c.args.addr;
      object = c.in_ok-object.object.items;
      there = read_kept (λ m. record_at m c.args.addr layout.bytes.size) c.in_ok-object.ensures.answer;
      is = is ∙ ap (λ k. record { start = c.args.addr + layout.bytes.at; len = k }) length_is;
    }) c.in_err-record_wide.ensures.answer) (omega arith) (λ m h. fails _ _ _ p.2 (same m) h))
    (omega arith))

pub returns-clause-answer : goal.returns-clause-answer
unfolding bytes_object_at
returns-clause-answer g c =
    let length_is : c.u64_in-length.result ≡ u64_in c.in_ok-object.object.items c.args.layout.now.bytes.length = c.u64_in-length.ensures ∙ ap (λ b. u64_in b c.args.layout.now.bytes.length) c.deref.ensures.value in
    let layout = c.args.layout.now in
    let n = c.u64_in-length.result in
    let same : (m : Memory) → bytes_of_length layout m c.args.addr (u64_in c.in_ok-object.object.items layout.bytes.length) ≡ record_at m (c.args.addr + layout.bytes.at) n = λ m. ap (bytes_of_length layout m c.args.addr) (sym length_is) ∙ bytes_fine layout m c.args.addr n (omega arith) in
    reads_next 2 _ (consults_record layout Bytes c.in_ok-object.ensures.answer)
    (reading_gives 1 _ (consults_bytes layout (λ s is. record {
      bytes = c.args.addr;
      object = c.in_ok-object.object.items;
      there = read_kept (λ m. record_at m c.args.addr layout.bytes.size) c.in_ok-object.ensures.answer;
      is = is ∙ ap (λ k. record { start = c.args.addr + layout.bytes.at; len = k }) length_is;
    }) c.in_ok-record_wide.ensures.answer) (omega arith) (λ m h. record { is = same m ∙ h.is }))
    (omega arith)
