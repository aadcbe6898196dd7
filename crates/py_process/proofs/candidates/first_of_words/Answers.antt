use Rattle.std.proofs.Common.{ap, ◌∙◌, arith}
use Rattle.std.proofs.Math.Nat.{le_refl}
use Rattle.std.proofs.lemmas.Result.{err_from_is_err_and}
use Rattle.std.specs.Slice.Iter.{chunks_exact_rest, chunks_exact_size}
use Rattle.process_memory.proofs.Reading.{reading_gives}
use Rattle.py_process.specs.Candidates.{words_of}
use Rattle.py_process.proofs.Searches.{going_done, going_found, going_lost, going_on, going_word, going_words}
use Rattle.py_process.proofs.Words.{word_none}
use Rattle.py_process.proofs.candidates.first_of_words.Goals as goal

pub loop-word-init : goal.loop-word-init
loop-word-init g c =
    let is = c.into_iter-word-iterator.ensures.into_iter_gives in
    record {
      size = ap chunks_exact_size is ∙ c.chunks_exact-word-items.ensures.size;
      going = going_words (g.M.ContainsAddr.contains c.args.maps.now) c.args.layout.now c.args.bytes.now (chunks_exact_rest c.into_iter-word-iterator.result)
          (ap chunks_exact_rest is ∙ c.chunks_exact-word-items.ensures.rest);
    }

pub returns-in_err-is_interpreter_in : goal.returns-in_err-is_interpreter_in
returns-in_err-is_interpreter_in g c =
    let p = err_from_is_err_and c.from_residual.result c.from_residual.ensures.1 in
    let step = c.in-Some.ensures.steps in
    let all = words_of c.args.bytes.now in
    let more = chunks_exact_rest c.next.new.self in
    let going = going_word (g.M.ContainsAddr.contains c.args.maps.now) c.args.layout.now all _ c.in-Some.word.now more c.u64_in-addr.result step.1.0 (step.1.1 ∙ c.loop-word.invariant.size) c.u64_in-addr.ensures c.loop-word.invariant.going in
    rw p.1 (going_lost (g.M.ContainsAddr.contains c.args.maps.now) c.args.layout.now all c.u64_in-addr.result (words_of more) c.in_err-is_interpreter_in.field-0.0 p.0 p.2 going c.in_err-is_interpreter_in.ensures)

pub returns-then-branch : goal.returns-then-branch
returns-then-branch g c =
    let step = c.in-Some.ensures.steps in
    let all = words_of c.args.bytes.now in
    let more = chunks_exact_rest c.next.new.self in
    let going = going_word (g.M.ContainsAddr.contains c.args.maps.now) c.args.layout.now all _ c.in-Some.word.now more c.u64_in-addr.result step.1.0 (step.1.1 ∙ c.loop-word.invariant.size) c.u64_in-addr.ensures c.loop-word.invariant.going in
    going_found (g.M.ContainsAddr.contains c.args.maps.now) c.args.layout.now all c.u64_in-addr.result (words_of more) going (reading_gives _ _ c.in_ok-is_interpreter_in.ensures (le_refl _) (λ m e. e ∙ c.if-branch.true))

pub loop-word-preserved : goal.loop-word-preserved
loop-word-preserved g c =
    let step = c.in-Some.ensures.steps in
    let all = words_of c.args.bytes.now in
    let more = chunks_exact_rest c.next.new.self in
    let going = going_word (g.M.ContainsAddr.contains c.args.maps.now) c.args.layout.now all _ c.in-Some.word.now more c.u64_in-addr.result step.1.0 (step.1.1 ∙ c.loop-word.invariant.size) c.u64_in-addr.ensures c.loop-word.invariant.going in
    record {
      size = step.0 ∙ c.loop-word.invariant.size;
      going = going_on (g.M.ContainsAddr.contains c.args.maps.now) c.args.layout.now all c.u64_in-addr.result (words_of more) going (reading_gives _ _ c.in_ok-is_interpreter_in.ensures (le_refl _) (λ m e. e ∙ c.if-branch.false));
    }

pub returns : goal.returns
returns g c =
    let step = c.in-None.ensures.steps in
    going_done (g.M.ContainsAddr.contains c.args.maps.now) c.args.layout.now (words_of c.args.bytes.now) _ (word_none _ (omega (arith, step.1.0, c.loop-word.invariant.size))) c.loop-word.invariant.going
