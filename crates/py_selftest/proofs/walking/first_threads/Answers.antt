use Rattle.std.proofs.Common.{sym, arith}
use Rattle.std.proofs.lemmas.List.{take_all, length-take-le}
use Rattle.py_selftest.proofs.walking.first_threads.Goals as goal

pub returns-then-threads-le-THREAD_LIMIT-clause-first : goal.returns-then-threads-le-THREAD_LIMIT-clause-first
returns-then-threads-le-THREAD_LIMIT-clause-first c =
    sym (take_all 64 c.args.threads.now c.if-threads-le-THREAD_LIMIT.true)

pub slice_bounds-result-end : goal.slice_bounds-result-end
slice_bounds-result-end c =
    let same = length-take-le 64 c.args.threads.now (omega (arith, c.if-threads-le-THREAD_LIMIT.false)) in
    sym same

pub returns-clause-few : goal.returns-clause-few
returns-clause-few c =
    let same = length-take-le 64 c.args.threads.now (omega (arith, c.if-threads-le-THREAD_LIMIT.false)) in
    omega (arith, same)
