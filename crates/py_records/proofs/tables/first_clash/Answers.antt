use Rattle.py_records.proofs.Judging.{none_all, none_more, first_from_with}
use Rattle.std.proofs.Common.{◌≡◌, length, arith}
use Rattle.py_records.proofs.tables.first_clash.Goals as goal

pub returns-in-Some : goal.returns-in-Some
returns-in-Some c = first_from_with _ _ _ _ c.loop-first.invariant c.in-Some.ensures

pub loop-first-preserved : goal.loop-first-preserved
loop-first-preserved c = none_more _ _ _ c.loop-first.invariant c.in_default.ensures

pub returns : goal.returns
returns c =
    let all : c.loop-first.first ≡ length c.args.list.now = omega arith in
    none_all _ (rw all at c.loop-first.invariant)
