use Rattle.std.proofs.Common.{◌≡◌, ℕ, refl, ◌∙◌, ap, arith}
use Rattle.std.specs.Prelude.{Result, Ok, Err}
use Rattle.py_builtins.specs.declared.error.ObjectError.{ObjectError}
use Rattle.py_builtins.specs.declared.error.ObjectError.TheVariants.{OutOfMemory}
use Rattle.py_builtins.proofs.Nexts.{passed_more, passed_last, passed_end, passed_init}
use Rattle.py_builtins.proofs.Consulted.{fields_short}
use Rattle.py_builtins.proofs.entries.DictIteratorIterator.next.Goals as goal

pub slots-init : goal.slots-init
slots-init g c = record { dict = refl; passed = passed_init _ _ _ _ }

pub slots-preserved : goal.slots-preserved
slots-preserved g c =
    let i = c.slots.invariant in
    let more = rw i.dict at c.in-Some.ensures.passes.1 in
    let slot = rw (i.dict, c.in-Ok.is, c.in-Empty.is) at c.in-Some.ensures.slot in
    record {
      dict = c.next.ensures.dict ∙ i.dict;
      passed = rw c.in-Some.ensures.passes.0 (passed_more i.passed more _ (omega (arith, c.in-Some.ensures.passes)) (fields_short slot));
    }

pub returns-in-Entry-clause-steps : goal.returns-in-Entry-clause-steps
returns-in-Entry-clause-steps g c =
    let i = c.slots.invariant in
    let more = rw i.dict at c.in-Some.ensures.passes.1 in
    let slot = rw (i.dict, c.in-Ok.is, c.in-Entry.is) at c.in-Some.ensures.slot in
    record {
      dict = c.next.ensures.dict ∙ i.dict;
      reading = rw c.in-Some.ensures.passes.0 (passed_last (Ok (c.in-Entry.key, c.in-Entry.value)) i.passed more _ (omega (arith, c.in-Some.ensures.passes)) (fields_short slot));
      memory = λ e. absurd (cc);
    }

pub returns-in-Err-clause-steps : goal.returns-in-Err-clause-steps
returns-in-Err-clause-steps g c =
    let i = c.slots.invariant in
    let more = rw i.dict at c.in-Some.ensures.passes.1 in
    let slot = rw (i.dict, c.in-Err.is) at c.in-Some.ensures.slot in
    let lost : ◌≡◌ {A = Result (ℕ × ℕ) ObjectError} (Err c.in-Err.error) (Err OutOfMemory) → c.in-Err.error ≡ OutOfMemory = λ e. cc in
    record {
      dict = c.next.ensures.dict ∙ i.dict;
      reading = rw c.in-Some.ensures.passes.0 (passed_last (Err c.in-Err.error) i.passed more _ (omega (arith, c.in-Some.ensures.passes)) (fields_short slot));
      memory = λ e. rw i.passed.reading.memory at (c.in-Some.ensures.memory (c.in-Err.is ∙ ap Err (lost e)));
    }

pub returns-in-None-clause-steps : goal.returns-in-None-clause-steps
returns-in-None-clause-steps g c =
    let i = c.slots.invariant in
    let over = rw i.dict at c.in-None.ensures.passes.1 in
    record {
      dict = c.next.ensures.dict ∙ i.dict;
      reading = rw c.in-None.ensures.passes.0 (passed_end i.passed over _ (omega (arith, c.in-None.ensures.passes.0)) (fields_short c.in-None.ensures.slot));
      memory = tt;
    }
