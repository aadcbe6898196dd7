use Rattle.std.proofs.Common.{arith, refl, length, ◌+◌, ◌∙◌, ◌-◌, ap, ◌≡◌, ◌++◌}
use Rattle.object_builder.proofs.Making.{write_within, making_none, making_done, making_step, length-making, no_write}
use Rattle.std.specs.Prelude.{IfOk, Ok, Err, map}
use Rattle.object_builder.specs.Objects.{object, aligned}
use Rattle.object_builder.specs.Writes.{write_of}
use Rattle.object_builder.proofs.object.add_object.Goals as goal

pub loop-left-init : goal.loop-left-init
loop-left-init c = record {
  within = omega arith;
  made = making_none c.args.out.now.items c.resize.new.self.items c.args.size c.args.writes.now
      (c.len-start.result + c.args.size) _ (omega (arith, c.len-start.ensures, c.args.out.now.ok.0))
      (c.args.out.now.ok.0) c.in_ok-resize.ensures.items;
}

pub overflow_cast-write : goal.overflow_cast-write
overflow_cast-write c = omega (
  arith,
  write_within c.args.size c.args.writes.now (c.loop-left.left - 1) no_write
      (omega (arith, c.loop-left.invariant.within)) c.requires.inside,
)

pub overflow_add-start-in-loop-left : goal.overflow_add-start-in-loop-left
overflow_add-start-in-loop-left c =
    let fits = write_within c.args.size c.args.writes.now (c.loop-left.left - 1) no_write (omega (
      arith,
      c.loop-left.invariant.within,
    )) c.requires.inside in
    let len = length-making c.args.out.now.items c.loop-left.out.items c.args.size c.args.writes.now c.loop-left.left
    c.requires.inside c.loop-left.invariant.made in
    omega (arith, fits, len, c.len-start.ensures, c.args.out.now.ok.0, ap length c.deref_mut.ensures.value)

pub put-requires : goal.put-requires
put-requires c =
    let fits = write_within c.args.size c.args.writes.now (c.loop-left.left - 1) no_write (omega (
      arith,
      c.loop-left.invariant.within,
    )) c.requires.inside in
    let len = length-making c.args.out.now.items c.loop-left.out.items c.args.size c.args.writes.now c.loop-left.left
    c.requires.inside c.loop-left.invariant.made in
    omega (arith, fits, len, c.len-start.ensures, c.args.out.now.ok.0, ap length c.deref_mut.ensures.value)

pub loop-left-preserved : goal.loop-left-preserved
loop-left-preserved c = record {
  within = omega (arith, c.loop-left.invariant.within);
  made = making_step c.args.out.now.items c.loop-left.out.items c.args.size c.args.writes.now c.loop-left.left
      c.requires.inside c.loop-left.invariant.made no_write c.len-start.result c.loop-left.out.len c.put.new.out
      c.loop-left-test.true c.loop-left.invariant.within (c.len-start.ensures
      ∙ c.args.out.now.ok.0) c.loop-left.out.ok.0 (rw c.deref_mut.ensures.value at c.put.ensures);
}

pub returns : goal.returns
returns c =
    elim c.resize-2.result as (λ r. c.resize-2.result ≡ r →
    IfOk r (λ _. c.resize-2.new.self.items ≡ c.args.out.now.items
    ++ aligned (object c.args.size (map write_of c.args.writes.now)))) [
      | Ok u ↦ λ e. making_done c.args.out.now.items c.loop-left.out.items c.args.size c.args.writes.now
          c.loop-left.left c.requires.inside c.loop-left.invariant.made c.resize-2.new.self.items _ c.loop-left.out.len
          (omega arith) (omega (arith, c.len-start.ensures, c.args.out.now.ok.0)) c.loop-left.out.ok.0
          (rw e at c.resize-2.ensures.items)
      | Err x ↦ λ e. tt
    ] refl
