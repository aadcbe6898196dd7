use Rattle.std.proofs.Common.{◌≡◌}
use Rattle.std.specs.Slice.Iter.{chunks_exact_rest, chunks_exact_size}
use Rattle.py_process.specs.Candidates.{words_of}
use Rattle.py_process.proofs.Searches.{Going}
use Rattle.py_process.proofs.candidates.first_of_words.Given as goal

abbrev pub invariant-loop-word : goal.invariant-loop-word
invariant-loop-word g l = record {
  size : chunks_exact_size l.word-iterator ≡ 8;
  going : Going (g.M.ContainsAddr.contains l.maps) l.layout (words_of l.bytes) (words_of (chunks_exact_rest l.word-iterator)) (g.P.ProcessMemory.seen l.fn.process) (g.P.ProcessMemory.seen l.process);
}
