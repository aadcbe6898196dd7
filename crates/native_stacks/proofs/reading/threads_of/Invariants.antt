use Rattle.std.proofs.Common.{◌*◌, drop, map}
use Rattle.elf64_core.specs.Notes.{noted}
use Rattle.process_memory.specs.Seen.{Reading}
use Rattle.native_frames.specs.Kept.{AreKept}
use Rattle.native_frames.specs.Limits.{thread_most}
use Rattle.native_stacks.specs.Threads.{thread_shown}
use Rattle.native_stacks.proofs.Following.{SoFar}
use Rattle.native_stacks.proofs.reading.threads_of.Given as goal

abbrev pub invariant-loop-note : goal.invariant-loop-note
invariant-loop-note g l = record {
  reading : Reading (thread_most * l.note-index) (g.P.ProcessMemory.seen l.initial.process)
      (g.P.ProcessMemory.seen l.process) (λ m. SoFar l.machine l.pythons l.mappings l.code_bits l.strict m (map noted l.notes)
      (map noted (drop l.note-index l.notes)) l.is_first l.left (map thread_shown l.threads.items));
  kept : AreKept l.mappings l.kept;
}
