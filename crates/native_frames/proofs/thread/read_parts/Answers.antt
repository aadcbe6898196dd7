use Rattle.std.proofs.Common.{arith, false, subst, ℕ}
use Rattle.std.proofs.lemmas.Result.{err_from_is_err_and}
use Rattle.std.specs.Prelude.{None}
use Rattle.process_memory.proofs.Reading.{reading_gives, reading_then}
use Rattle.core_unwind.specs.Stacks.{chain_of}
use Rattle.native_frames.specs.Limits.{thread_most}
use Rattle.native_frames.specs.Threads.{IsGuessUnless, IsGuessedStack, IsNamedStack, manner_of, stack_shown}
use Rattle.native_frames.specs.Threads.{stack_shown_if}
use Rattle.native_frames.proofs.thread.read_parts.Goals as goal

pub returns-in_err-guess-clause-is : goal.returns-in_err-guess-clause-is
returns-in_err-guess-clause-is g c =
    let p = err_from_is_err_and c.from_residual-in_err-guess.result c.from_residual-in_err-guess.ensures.1 in
    rw p.1 (reading_gives thread_most _ (reading_then (λ m. Unit {0}) c.in_ok-followed.ensures.is c.in_err-guess.ensures
    (λ m a b. tt)) (omega arith) (λ m h. tt))

pub returns-in_err-guessed-clause-is : goal.returns-in_err-guessed-clause-is
returns-in_err-guessed-clause-is g c =
    let p = err_from_is_err_and c.from_residual-in_err-guessed.result c.from_residual-in_err-guessed.ensures.1 in
    rw p.1 (reading_gives thread_most _ (reading_then (λ m. Unit {0})
    (reading_then (λ m. Unit {0}) c.in_ok-followed.ensures.is c.in_ok-guess.ensures (λ m a b. tt))
    c.in_err-guessed.ensures.is (λ m a b. tt)) (omega arith) (λ m h. tt))

pub returns-clause-is : goal.returns-clause-is
returns-clause-is g c =
    let mappings = c.args.mappings.now in
    let machine = c.args.machine in
    let chain = chain_of c.in_ok-followed.followed.chain in
    let both = reading_then
    (λ m. IsNamedStack mappings (manner_of machine c.args.code_bits false) m c.args.left None c.args.first.now chain
    (stack_shown c.in_ok-followed.followed.told)
    × IsGuessUnless c.args.strict mappings machine m chain c.in_ok-guess.guess)
    c.in_ok-followed.ensures.is c.in_ok-guess.ensures (λ m p q. (p, q)) in
    reading_gives thread_most _ (reading_then _ both c.in_ok-guessed.ensures.is (λ m pq r. record {
      chain = chain;
      stack = pq.0;
      guess = c.in_ok-guess.guess;
      guesses = pq.1;
      behind = subst (λ (n : ℕ). IsGuessedStack mappings machine c.args.code_bits m n c.in_ok-guess.guess
          (stack_shown_if c.in_ok-guessed.guessed)) c.left_after-rest.ensures r;
    })) (omega arith) (λ m h. h)
