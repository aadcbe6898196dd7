use Rattle.std.proofs.Common.{◌≡◌, ◌++◌}
use Rattle.std.specs.Slice.Iter.{chunks_exact_rest, chunks_exact_size}
use Rattle.py_process.specs.Candidates.{words_of}
use Rattle.py_fronts.proofs.candidates.add_words.Given as goal

abbrev pub invariant-loop-word : goal.invariant-loop-word
invariant-loop-word l = record {
  size : chunks_exact_size l.word-iterator ≡ 8;
  words : l.words.items ++ words_of (chunks_exact_rest l.word-iterator) ≡ l.fn.words.items ++ words_of l.bytes;
}
