use Rattle.std.proofs.Common.{◌∙◌, sym, subst, arith}
use Rattle.image_builder.proofs.RuntimeWords.{AllIn, current_in}
use Rattle.image_builder.proofs.runtime_words.lock_word_place.Goals as goal

pub overflow_cast-result : goal.overflow_cast-result
overflow_cast-result c =
    let small = subst AllIn (sym c.get_tstate_current_offset.ensures
    ∙ c.in_ok-get_tstate_current_offset-in-Runtime.was) (current_in c.args.machine c.args.version.now) in
    omega (arith, small.1)

pub returns-in_ok-get_tstate_current_offset-in-Runtime-clause-bound :
    goal.returns-in_ok-get_tstate_current_offset-in-Runtime-clause-bound
returns-in_ok-get_tstate_current_offset-in-Runtime-clause-bound c =
    let small = subst AllIn (sym c.get_tstate_current_offset.ensures
    ∙ c.in_ok-get_tstate_current_offset-in-Runtime.was) (current_in c.args.machine c.args.version.now) in
    omega (arith, small.1)
