use Rattle.std.proofs.Common.{arith, inr}
use Rattle.native_merge.proofs.Translating.{stack_refused, stack_done, whole_prefix}
use Rattle.native_merge.proofs.native_stack.NativeStack.merged.Goals as goal

pub returns-in-Err-clause-merges : goal.returns-in-Err-clause-merges
returns-in-Err-clause-merges g c = stack_refused c.args.self.now.maps c.in-Err.error c.in-Err.ensures.sources c.in-Err.ensures.merges

pub returns-clause-merges : goal.returns-clause-merges
returns-clause-merges g c = inr (stack_done c.in-Ok.merged c.in-Ok.ensures.sources c.in-Ok.ensures.merges c.deref_mut.result.now
    c.translate_all.new.frames _ c.deref_mut.ensures.value
    (whole_prefix c.in-Ok.merged.len c.translate_all.new.frames _ (omega (arith, c.translate_all.auto.frames, c.deref_mut.ensures.len)))
    c.in_ok-translate_all.ensures.all)
