use Rattle.std.proofs.Common.{◌∙◌, ap, arith, inl, inr, length, map, refl, sym}
use Rattle.std.proofs.lemmas.Bool.{ltb-false}
use Rattle.std.proofs.lemmas.List.{length-map}
use Rattle.std.proofs.lemmas.Option.{slice_get_past}
use Rattle.std.proofs.lemmas.Result.{err_from_is_err_and}
use Rattle.py_stacks.specs.Threads.{trace_of}
use Rattle.core_texts.specs.Text.{frames_text}
use Rattle.native_merge.specs.PythonFrames.{calls}
use Rattle.core_report.proofs.Leading.{thread_at}
use Rattle.core_report.proofs.Threads.{merged_fails, merged_goes}
use Rattle.core_report.proofs.merge_command.merged_in.Goals as goal

pub returns-in_default : goal.returns-in_default
returns-in_default c =
    let traces = c.args.threads.traces.items in
    let past = ltb-false c.args.index (length c.deref.result.now) (sym c.in_default.ensures.lookup.0) in
    λ ne. inl (
      slice_get_past (map trace_of traces) c.args.index (omega (arith, past, length-map traces trace_of, ap length c.deref.ensures.value)),
      refl,
    )

pub returns-in_err-frames : goal.returns-in_err-frames
returns-in_err-frames c =
    let p = err_from_is_err_and c.from_residual.result c.from_residual.ensures.1 in
    let t = c.args.threads in
    rw (p.1, p.2) (λ ne. inr (
      trace_of c.in-Some.trace.now,
      thread_at t.traces.items c.deref.result.now c.args.index c.in-Some.trace.now c.deref.ensures.value (sym c.in-Some.ensures.lookup.0) c.in-Some.ensures.lookup.1,
      merged_fails t.process.core c.args.images.now c.args.addresses.now (trace_of c.in-Some.trace.now) t.binaries.program t.binaries.library
          c.requires.binaries c.core.result.now c.deref-2.result.now c.core.ensures (ap calls c.deref-2.ensures.value)
          c.in_err-frames.field-0.0 c.in_err-frames.ensures.right ne,
    ))

pub returns : goal.returns
returns c =
    let t = c.args.threads in
    inr (
      trace_of c.in-Some.trace.now,
      thread_at t.traces.items c.deref.result.now c.args.index c.in-Some.trace.now c.deref.ensures.value (sym c.in-Some.ensures.lookup.0) c.in-Some.ensures.lookup.1,
      merged_goes t.process.core c.args.images.now c.args.addresses.now (trace_of c.in-Some.trace.now) t.binaries.program t.binaries.library
          c.requires.binaries c.core.result.now c.deref-2.result.now c.core.ensures (ap calls c.deref-2.ensures.value)
          c.in_ok-frames.frames c.into_bytes.result.items c.in_ok-frames.ensures.right
          (ap (λ bytes. bytes.items) c.into_bytes.ensures.value ∙ c.in_ok-frames_text.ensures ∙ ap frames_text c.deref-3.ensures.value),
    )
