use Rattle.std.proofs.Common.{◌+◌, ◌*◌, [], ap, arith, drop, get_or, length, map, refl}
use Rattle.std.proofs.lemmas.List.{drop_all}
use Rattle.std.proofs.lemmas.Result.{err_from_is_err_and}
use Rattle.process_memory.proofs.Reading.{reading_gives, reading_none, reading_then}
use Rattle.elf64_core.specs.declared.note.Note.{Note}
use Rattle.elf64_core.specs.Notes.{noted}
use Rattle.native_frames.specs.Limits.{thread_most, most_reads}
use Rattle.native_stacks.specs.Threads.{thread_shown, thread_shown_if}
use Rattle.native_stacks.proofs.Following.{far_end, far_next, kept_none}
use Rattle.native_stacks.proofs.Rest.{next}
use Rattle.native_stacks.proofs.reading.threads_of.Goals as goal

-- what stands for a note behind the end of a list
abbrev no_note : Note
no_note = record { kind = 0; desc = record { ref_ptr = (0, 0); now = [] } }

pub loop-note-init : goal.loop-note-init
loop-note-init g c = rw c.new-threads.ensures.items (record {
  reading = reading_none (thread_most * 0) _ _ (λ m. λ more h. h);
  kept = kept_none c.args.mappings.now c.new-kept.result c.new-kept.ensures.empty;
})

pub returns-in_err-thread : goal.returns-in_err-thread
returns-in_err-thread g c =
    let p = err_from_is_err_and c.from_residual.result c.from_residual.ensures.1 in
    rw p.1 (reading_gives (most_reads (length c.args.notes.now)) _
    (reading_then (λ m. Unit {0}) c.loop-note.invariant.reading c.in_err-thread.ensures.is (λ m a b. tt))
    (omega (arith, c.loop-note-test.true)) (λ m h. tt))

pub returns-in_err-push_if : goal.returns-in_err-push_if
returns-in_err-push_if g c =
    let p = err_from_is_err_and c.from_residual-in_err-push_if.result c.from_residual-in_err-push_if.ensures.1 in
    rw p.1 (reading_gives (most_reads (length c.args.notes.now)) _
    (reading_then (λ m. Unit {0}) c.loop-note.invariant.reading c.in_ok-thread.ensures.is (λ m a b. tt))
    (omega (arith, c.loop-note-test.true)) (λ m h. tt))

pub loop-note-preserved : goal.loop-note-preserved
loop-note-preserved g c =
    let notes = c.args.notes.now in
    let i = c.loop-note.note-index in
    let x = get_or notes i no_note in
    record {
      reading = reading_gives (thread_most * (i + 1)) _ (reading_then _ c.loop-note.invariant.reading
          c.in_ok-thread.ensures.is (λ m far here. far_next c.args.machine c.args.pythons.now c.args.mappings.now
          c.args.code_bits c.args.strict m (map noted notes) (map noted (drop i notes)) (map noted (drop (i + 1) notes)) (noted x)
          c.loop-note.is_first c.loop-note.left (map thread_shown c.loop-note.threads.items) _
          (thread_shown_if c.in_ok-thread.thread)
          (ap (map noted) (next notes i x no_note c.loop-note-test.true refl)) here c.in_ok-push_if.ensures far))
          (omega arith) (λ m h. rw (c.first_after-is_first.ensures, c.left_after-left.ensures) h);
      kept = c.in_ok-thread.ensures.kept;
    }

pub returns : goal.returns
returns g c = reading_gives (most_reads (length c.args.notes.now)) _ c.loop-note.invariant.reading
    (omega (arith, c.loop-note.auto.note-index-end)) (λ m far. far_end c.args.machine c.args.pythons.now
    c.args.mappings.now c.args.code_bits c.args.strict m (map noted c.args.notes.now) _ c.loop-note.is_first c.loop-note.left
    (map thread_shown c.loop-note.threads.items)
    (ap (map noted) (drop_all c.loop-note.note-index c.args.notes.now c.loop-note-test.false)) far)
