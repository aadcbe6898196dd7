use Rattle.std.proofs.Common.{◌-◌, ◌∙◌, ap, arith}
use Rattle.std.proofs.lemmas.Result.{err_from_is_err_and}
use Rattle.elf64_core.specs.Fields.{u64_in}
use Rattle.process_memory.proofs.Reading.{reads_halt, reads_next}
use Rattle.py_builtins.specs.Dicts.{entry_width, slot_at}
use Rattle.py_builtins.proofs.DictSteps.{key_place, value_place}
use Rattle.std.specs.Prelude.{Bool, true, false}
use Rattle.py_builtins.specs.Consulted.{IsWidth}
use Rattle.py_builtins.specs.Consulted.IsWidth.{Entry, HashedEntry, Word}
use Rattle.py_builtins.proofs.Consulted.{reads_field}
use Rattle.py_builtins.proofs.dicts.read_entry.Goals as goal

-- how wide an entry is
entry_wide : (has_hash : Bool) → IsWidth (entry_width has_hash)
entry_wide true = HashedEntry
entry_wide false = Entry

pub returns-in_err-record_in_wide-clause-answer : goal.returns-in_err-record_in_wide-clause-answer
unfolding slot_at
returns-in_err-record_in_wide-clause-answer g c =
    let p = err_from_is_err_and c.from_residual.result c.from_residual.ensures.1 in
    let one = reads_field (entry_wide c.args.slots.now.has_hash) (rw c.requires.entry at c.in_err-record_in_wide.ensures.answer) in
    rw p.1 (reads_halt 2 p.0 _ one p.2 (omega arith))

pub returns-clause-answer : goal.returns-clause-answer
unfolding slot_at
returns-clause-answer g c =
    let has_hash = c.args.slots.now.has_hash in
    let bytes = c.record_in_wide.new.buf in
    let one = reads_field (entry_wide has_hash) (rw c.requires.entry at c.in_ok-record_in_wide.ensures.answer) in
    let key = c.u64_in-key.ensures ∙ ap (u64_in bytes) (ap (λ w. w - 16) c.requires.entry ∙ key_place has_hash) in
    let value = c.u64_in-value.ensures ∙ ap (u64_in bytes) (ap (λ w. w - 8) c.requires.entry ∙ value_place has_hash) in
    reads_next 2 _ one (reads_field Word (rw (key, value) at c.read_value.ensures.answer)) (omega arith)
