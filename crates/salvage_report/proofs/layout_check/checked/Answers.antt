use Rattle.std.proofs.Common.{◌≡◌, ◌∙◌, ℕ, List, ap, subst}
use Rattle.elf64_core.specs.Header.{machine_of}
use Rattle.salvage_report.specs.Pointers.{pointers_of}
use Rattle.image_memory.specs.Backed.{regions_of}
use Rattle.process_memory.specs.Seen.{AnswerIs, Seen, read_fault}
use Rattle.core_stacks.proofs.Stacks.{over_this}
use Rattle.py_selftest.specs.Checking.{check_result}
use Rattle.salvage_report.specs.LayoutChecked.{CheckTold, process_checked}
use Rattle.salvage_report.proofs.layout_check.checked.Goals as goal

pub returns-in-Ok : goal.returns-in-Ok
returns-in-Ok c =
    let pointers = c.in_ok-pointers.ensures in
    let here = over_this (regions_of c.args.process.now.dump)
    (ap (λ (s : Seen). s.pieces) (c.new-view.ensures ∙ c.view.ensures)) c.check_layout.ensures.right in
    let is = rw (
      c.types_of-types.ensures,
      c.symbol_of-runtime.ensures,
      c.release_of-release.ensures,
      c.deref.ensures.value,
      pointers.says,
      c.deref-2.ensures.value,
      c.in_ok-threads.ensures,
    ) at here.is in
    let core = c.core.ensures.same in
    let told : List ℕ = pointers_of (machine_of c.core.result.now) pointers.notes in
    let right = subst (λ r. AnswerIs read_fault (process_checked c.args.process.now c.args.interpreters.now told)
    (check_result r)) c.in-Ok.is is in
    let at_core : CheckTold c.core.result.now (process_checked c.args.process.now c.args.interpreters.now) c.in-Ok.check
    = record { notes = pointers.notes; are = pointers.are; is = right } in
    subst (λ bytes. CheckTold bytes (process_checked c.args.process.now c.args.interpreters.now) c.in-Ok.check) core
    at_core
