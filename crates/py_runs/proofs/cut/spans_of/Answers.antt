use Rattle.std.proofs.Common.{arith, drop, add-one, sym, Some, None}
use Rattle.std.proofs.Math.Seq.{drop-cons}
use Rattle.std.proofs.lemmas.List.{append-nil, drop_all}
use Rattle.py_runs.specs.Cuts.{spans_of}
use Rattle.py_runs.proofs.Cuts.{cut_done, cut_step, few_alone, few_step, room_for}
use Rattle.py_runs.proofs.cut.spans_of.Goals as goal

pub opened-span-requires : goal.opened-span-requires
opened-span-requires c = record {
  few = room_for c.loop-member.unclosed c.alone.result c.loop-member.member-index _ c.loop-member.invariant.few
      (few_alone c.args.shims _ c.alone.result c.alone.ensures) (omega (arith, c.loop-member-test.true));
}

pub loop-member-preserved : goal.loop-member-preserved
loop-member-preserved c = record {
  cut = rw (add-one c.loop-member.member-index)
      (cut_step c.args.shims (spans_of c.args.shims c.args.members.now) c.loop-member.spans.items
      c.close_into.new.spans.items (drop c.loop-member.member-index c.args.members.now) _ c.loop-member.unclosed _
      c.alone.result c.opened-span.result c.in_ok-unclosed.unclosed
      (drop-cons c.args.members.now c.loop-member.member-index _ c.loop-member-test.true) c.loop-member.invariant.cut
      c.alone.ensures c.opened-span.ensures c.in_ok-unclosed.ensures.adds c.in_ok-unclosed.ensures.unclosed);
  few = few_step c.loop-member.unclosed c.in_ok-unclosed.unclosed c.alone.result c.opened-span.result
      c.loop-member.member-index
      c.loop-member.invariant.few (few_alone c.args.shims _ c.alone.result c.alone.ensures) c.opened-span.ensures
      c.in_ok-unclosed.ensures.unclosed;
}

pub returns-in_ok-push-in-Some : goal.returns-in_ok-push-in-Some
returns-in_ok-push-in-Some c =
    cut_done c.args.shims (spans_of c.args.shims c.args.members.now) c.loop-member.spans.items _
    (drop c.loop-member.member-index c.args.members.now) (Some c.in-Some.span)
    (drop_all c.loop-member.member-index c.args.members.now c.loop-member-test.false)
    (rw c.in-Some.is at c.loop-member.invariant.cut) c.in_ok-push-in-Some.ensures.items

pub returns-in-None : goal.returns-in-None
returns-in-None c =
    cut_done c.args.shims (spans_of c.args.shims c.args.members.now) c.loop-member.spans.items c.loop-member.spans.items
    (drop c.loop-member.member-index c.args.members.now) None
    (drop_all c.loop-member.member-index c.args.members.now c.loop-member-test.false)
    (rw c.in-None.is at c.loop-member.invariant.cut) (sym (append-nil c.loop-member.spans.items))
