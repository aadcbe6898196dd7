use Rattle.std.proofs.Common.{arith}
use Rattle.memory_builder.specs.Mirror.{program_in}
use Rattle.memory_builder.specs.Sizes.{program_size}
use Rattle.py_stacks.specs.Lines.{family_of}
use Rattle.image_builder.proofs.Admitting.{found_first, needed_is, none_first}
use Rattle.image_builder.proofs.admission.admit.Goals as goal

pub returns-in-Some : goal.returns-in-Some
returns-in-Some c = record {
  covered = c.is_covered.ensures.0 c.if-not-is_covered.false;
  first = found_first c.family_of.result (family_of c.args.layout.now.lines)
      (program_in c.args.program.now) c.in_ok-place.field-0 c.in-Some.place
      c.family_of.ensures c.in-Some.is c.in_ok-place.ensures;
}

pub objects_size-requires-clause-valid : goal.objects_size-requires-clause-valid
objects_size-requires-clause-valid c =
    none_first c.family_of.result (family_of c.args.layout.now.lines)
    (program_in c.args.program.now) c.in_ok-place.field-0 c.family_of.ensures c.in_default.is c.in_ok-place.ensures

pub returns-then-needed-gt-MOST : goal.returns-then-needed-gt-MOST
returns-then-needed-gt-MOST c = record {
  covered = c.is_covered.ensures.0 c.if-not-is_covered.false;
  valid = none_first c.family_of.result (family_of c.args.layout.now.lines)
      (program_in c.args.program.now) c.in_ok-place.field-0 c.family_of.ensures c.in_default.is c.in_ok-place.ensures;
  beyond = c.if-needed-gt-MOST.true;
  needed_is = needed_is c.saturating_add-needed.result c.in_ok-objects_size.field-0
      (program_size c.args.layout.now (program_in c.args.program.now)) c.in_ok-objects_size.ensures
      c.saturating_add-needed.ensures;
}

pub returns : goal.returns
returns c =
    let is = needed_is c.saturating_add-needed.result c.in_ok-objects_size.field-0
    (program_size c.args.layout.now (program_in c.args.program.now)) c.in_ok-objects_size.ensures
    c.saturating_add-needed.ensures in
    record {
      covered = c.is_covered.ensures.0 c.if-not-is_covered.false;
      valid = none_first c.family_of.result (family_of c.args.layout.now.lines)
          (program_in c.args.program.now) c.in_ok-place.field-0 c.family_of.ensures c.in_default.is
          c.in_ok-place.ensures;
      room = omega (arith, is, c.if-needed-gt-MOST.false);
    }
