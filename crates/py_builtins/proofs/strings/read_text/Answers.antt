use Rattle.std.proofs.Common.{◌*◌, ◌≡◌, ◌≤◌, ◌∙◌, arith, ap, sym, rules}
use Rattle.std.specs.Prelude.{Some, None, Ok, Err}
use Rattle.std.proofs.lemmas.Result.{err_from_is_err_and}
use Rattle.elf64_core.specs.Fields.{u64_in}
use Rattle.process_memory.specs.Memory.Fault.{TooLong}
use Rattle.process_memory.proofs.Reading.{reading_gives, reading_here, reads_halt, reads_known, reads_next, reads_same}
use Rattle.process_memory.proofs.Reading.{read_kept, reading_short}
use Rattle.process_memory.specs.Memory.{record_at}
use Rattle.py_builtins.specs.TextKind.{width}
use Rattle.py_builtins.specs.Texts.{text_at, text_of_length, characters_of, characters_at}
use Rattle.py_fields.proofs.Fields.{string_fits}
use Rattle.py_builtins.proofs.Texts.{length_zero, length_long, length_fine, no_kind, empty_text}
use Rattle.py_builtins.proofs.Refusals.{no_refusal, characters_no_length}
use Rattle.py_builtins.specs.Consulted.IsRecordSize.{String}
use Rattle.py_builtins.proofs.Consulted.{consults_characters, consults_record}
use Rattle.py_builtins.proofs.strings.read_text.Goals as goal

pub u64_in-length-requires : goal.u64_in-length-requires
u64_in-length-requires g c = omega (arith, (string_fits c.requires.sound).length, c.deref.ensures.len, c.in_ok-object.ensures.whole)

pub returns-in_err-object-clause-answer : goal.returns-in_err-object-clause-answer
unfolding text_at
returns-in_err-object-clause-answer g c =
    let p = err_from_is_err_and c.from_residual.result c.from_residual.ensures.1 in
    rw p.1 (reads_halt 2 p.0 _ (consults_record c.args.layout.now String c.in_err-object.ensures.answer) p.2 (omega arith))

pub returns-then-length-eq0-clause-answer : goal.returns-then-length-eq0-clause-answer
unfolding text_at
returns-then-length-eq0-clause-answer g c =
    let length_is : c.u64_in-length.result ≡ u64_in c.in_ok-object.object.items c.args.layout.now.string.length = c.u64_in-length.ensures ∙ ap (λ b. u64_in b c.args.layout.now.string.length) c.deref.ensures.value in
    reads_next 2 _ (consults_record c.args.layout.now String c.in_ok-object.ensures.answer) (reads_known 0 _ _ (λ m. record { is = length_zero c.args.layout.now m c.args.addr c.in_ok-object.object.items _ (omega arith) ∙ ap Ok (sym (empty_text _ _ c.in_ok-empty.ensures c.new.ensures.bytes)) })) (omega arith)

pub returns-in_err-empty-clause-answer : goal.returns-in_err-empty-clause-answer
returns-in_err-empty-clause-answer g c =
    let p = err_from_is_err_and c.from_residual-in_err-empty.result c.from_residual-in_err-empty.ensures.1 in
    rw (p.1, p.2) (reading_gives 2 _ (consults_record c.args.layout.now String c.in_ok-object.ensures.answer) (omega arith)
    (λ m h. record { is = tt }))

pub returns-then-length-ge-LENGTH_LIMIT-clause-early : goal.returns-then-length-ge-LENGTH_LIMIT-clause-early
unfolding text_at
returns-then-length-ge-LENGTH_LIMIT-clause-early g c =
    let length_is : c.u64_in-length.result ≡ u64_in c.in_ok-object.object.items c.args.layout.now.string.length = c.u64_in-length.ensures ∙ ap (λ b. u64_in b c.args.layout.now.string.length) c.deref.ensures.value in
    let object = c.in_ok-object.object.items in
    let long : 4096 ≤ u64_in object c.args.layout.now.string.length = omega arith in
    reading_gives 1 _ (reading_short c.in_ok-object.ensures.answer) (omega arith) (λ m h. rw h.is (length_long c.args.layout.now m c.args.addr object _ long ∙ ap (λ z. Err (TooLong z)) (search rules)))

pub returns-then-length-ge-LENGTH_LIMIT-clause-answer : goal.returns-then-length-ge-LENGTH_LIMIT-clause-answer
unfolding text_at
returns-then-length-ge-LENGTH_LIMIT-clause-answer g c =
    let length_is : c.u64_in-length.result ≡ u64_in c.in_ok-object.object.items c.args.layout.now.string.length = c.u64_in-length.ensures ∙ ap (λ b. u64_in b c.args.layout.now.string.length) c.deref.ensures.value in
    let object = c.in_ok-object.object.items in
    let long : 4096 ≤ u64_in object c.args.layout.now.string.length = omega arith in
    reading_gives 2 _ (consults_record c.args.layout.now String c.in_ok-object.ensures.answer) (omega arith)
    (λ m h. record { is = rw h.is (length_long c.args.layout.now m c.args.addr object _ long ∙ ap (λ z. Err (TooLong z)) (search rules)) })

pub returns-in-Some-clause-answer : goal.returns-in-Some-clause-answer
unfolding text_at
returns-in-Some-clause-answer g c =
    let length_is : c.u64_in-length.result ≡ u64_in c.in_ok-object.object.items c.args.layout.now.string.length = c.u64_in-length.ensures ∙ ap (λ b. u64_in b c.args.layout.now.string.length) c.deref.ensures.value in
    let shown = c.args.layout.now in
    let object = c.in_ok-object.object.items in
    let kind : characters_of shown c.args.addr object ≡ Some c.in-Some.characters = ap (characters_of shown c.args.addr) (sym c.deref-2.ensures.value) ∙ sym c.characters_of.ensures ∙ c.in-Some.is in
    reads_next 2 _ (consults_record c.args.layout.now String c.in_ok-object.ensures.answer)
    (reads_same _ (λ m. characters_at m c.u64_in-length.result (Some c.in-Some.characters)) (λ m. ap (text_of_length shown m c.args.addr object) (sym length_is) ∙ length_fine shown m c.args.addr object c.u64_in-length.result (omega arith) (omega arith) ∙ ap (characters_at m c.u64_in-length.result) kind)
    (consults_characters shown (λ s is. record {
      text = c.args.addr;
      object = object;
      there = read_kept (λ m. record_at m c.args.addr shown.string.size) c.in_ok-object.ensures.answer;
      few = omega arith;
      characters = c.in-Some.characters;
      coded = kind;
      is = is ∙ ap (λ n. record { start = c.in-Some.characters.at; len = n * width c.in-Some.characters.kind }) length_is;
    }) c.read_characters.ensures))
    (omega arith)

pub returns-in-Some-clause-early : goal.returns-in-Some-clause-early
returns-in-Some-clause-early g c =
    no_refusal _ _ _ _ c.read_characters.result (characters_no_length _ c.u64_in-length.result c.in-Some.characters) (reading_here c.read_characters.ensures)

pub returns-clause-answer : goal.returns-clause-answer
unfolding text_at
returns-clause-answer g c =
    let length_is : c.u64_in-length.result ≡ u64_in c.in_ok-object.object.items c.args.layout.now.string.length = c.u64_in-length.ensures ∙ ap (λ b. u64_in b c.args.layout.now.string.length) c.deref.ensures.value in
    let shown = c.args.layout.now in
    let object = c.in_ok-object.object.items in
    let kind : characters_of shown c.args.addr object ≡ None = ap (characters_of shown c.args.addr) (sym c.deref-2.ensures.value) ∙ sym c.characters_of.ensures ∙ c.in-None.is in
    reads_next 2 _ (consults_record c.args.layout.now String c.in_ok-object.ensures.answer)
    (reads_known 0 _ _ (λ m. record { is = ap (text_of_length shown m c.args.addr object) (sym length_is) ∙ length_fine shown m c.args.addr object c.u64_in-length.result (omega arith) (omega arith) ∙ ap (characters_at m c.u64_in-length.result) kind ∙ no_kind m c.u64_in-length.result }))
    (omega arith)
