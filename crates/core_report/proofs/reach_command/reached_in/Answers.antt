use Rattle.std.proofs.Common.{◌∙◌, Err, Ok, ap, inl, inr, refl, sym}
use Rattle.std.proofs.lemmas.Result.{err_from_is_err_and}
use Rattle.process_memory.specs.Seen.{Seen}
use Rattle.process_memory.proofs.Reading.{reading_here}
use Rattle.py_stacks.specs.Threads.{trace_of}
use Rattle.core_report.specs.Stacked.{reach_text}
use Rattle.core_report.proofs.Leading.{leads, thread_at}
use Rattle.core_report.proofs.reach_command.reached_in.Goals as goal

pub returns-in_err-objects : goal.returns-in_err-objects
returns-in_err-objects c =
    let p = err_from_is_err_and c.from_residual-in_err-objects.result c.from_residual-in_err-objects.ensures.1 in
    let s = c.args.stacks.now in
    let pieces = ap (λ (s : Seen). s.pieces) c.memory-memory.ensures in
    let right = leads s.process.pieces s.process.finding.layout _ _ _ _ (Err c.in_err-objects.field-0.0) pieces c.layout.ensures.same
    (c.deref-2.ensures.value ∙ c.in_ok-roots.ensures) (reading_here c.in_err-objects.ensures.right) in
    rw (p.1, p.2) (λ ne. inr (trace_of c.in-Some.trace.now, thread_at s.traces.items c.deref.result.now c.args.index c.in-Some.trace.now c.deref.ensures.value (sym c.in-Some.ensures.lookup.0) c.in-Some.ensures.lookup.1, inl (c.in_err-objects.field-0.0, refl, right)))

pub returns : goal.returns
returns c =
    let s = c.args.stacks.now in
    let pieces = ap (λ (s : Seen). s.pieces) c.memory-memory.ensures in
    let right = leads s.process.pieces s.process.finding.layout _ _ _ _ (Ok c.in_ok-objects.objects.items) pieces c.layout.ensures.same
    (c.deref-2.ensures.value ∙ c.in_ok-roots.ensures) (reading_here c.in_ok-objects.ensures.right) in
    inr (
      trace_of c.in-Some.trace.now,
      thread_at s.traces.items c.deref.result.now c.args.index c.in-Some.trace.now c.deref.ensures.value (sym c.in-Some.ensures.lookup.0) c.in-Some.ensures.lookup.1,
      inr (c.in_ok-objects.objects.items, right, ap (λ t. Ok t) (c.in_ok-reach_text.ensures ∙ ap reach_text c.deref-3.ensures.value)),
    )
