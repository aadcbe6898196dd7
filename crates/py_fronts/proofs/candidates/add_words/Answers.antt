use Rattle.std.proofs.Common.{ap, ◌∙◌, ◌++◌, arith}
use Rattle.std.specs.Slice.Iter.{chunks_exact_rest, chunks_exact_size}
use Rattle.py_process.specs.Candidates.{words_of}
use Rattle.py_fronts.proofs.CandidateSteps.{words_done, words_more, words_start}
use Rattle.py_fronts.proofs.candidates.add_words.Goals as goal

pub loop-word-init : goal.loop-word-init
loop-word-init c =
    let is = c.into_iter-word-iterator.ensures.into_iter_gives in
    record {
      size = ap chunks_exact_size is ∙ c.chunks_exact-word-items.ensures.size;
      words = words_start c.args.words.now.items c.args.bytes.now (chunks_exact_rest c.into_iter-word-iterator.result) (ap chunks_exact_rest is ∙ c.chunks_exact-word-items.ensures.rest);
    }

pub loop-word-preserved : goal.loop-word-preserved
loop-word-preserved c =
    let step = c.in-Some.ensures.steps in
    let all = c.args.words.now.items ++ words_of c.args.bytes.now in
    record {
      size = step.0 ∙ c.loop-word.invariant.size;
      words = rw c.in_ok-push.ensures.items (words_more all c.loop-word.words.items _ c.in-Some.word.now (chunks_exact_rest c.next.new.self) c.u64_in.result step.1.0 (step.1.1 ∙ c.loop-word.invariant.size) c.u64_in.ensures c.loop-word.invariant.words);
    }

pub returns : goal.returns
returns c =
    let step = c.in-None.ensures.steps in
    words_done (c.args.words.now.items ++ words_of c.args.bytes.now) c.loop-word.words.items _ (omega (arith, step.1.0, c.loop-word.invariant.size)) c.loop-word.invariant.words
