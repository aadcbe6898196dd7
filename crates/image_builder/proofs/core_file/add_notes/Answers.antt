use Rattle.std.proofs.Common.{◌∙◌, ap, arith, length}
use Rattle.image_builder.proofs.Lengths.{length-process, length-status, length-table}
use Rattle.image_builder.proofs.core_file.add_notes.Goals as goal

pub add_note-requires : goal.add_note-requires
add_note-requires c = omega (arith, ap length (c.deref.ensures.value ∙ c.in_ok-status.ensures) ∙ length-status)

pub add_note-requires-2 : goal.add_note-requires-2
add_note-requires-2 c = omega (arith, ap length (c.deref-2.ensures.value ∙ c.in_ok-process.ensures) ∙ length-process)

pub add_note-requires-3 : goal.add_note-requires-3
add_note-requires-3 c = omega (arith, ap length (c.deref-3.ensures.value ∙ c.in_ok-table.ensures) ∙ length-table)
