use Rattle.std.proofs.Common.{◌∙◌, sym, ap}
use Rattle.std.specs.List.{find}
use Rattle.elf64_core.specs.declared.section.Section.{Section}
use Rattle.py_process.specs.Ranges.{is_runtime}
use Rattle.py_process.proofs.Finds.{found_at, none_past, passed_at}
use Rattle.py_process.proofs.ranges.runtime_section.Goals as goal

abbrev no_section : Section
no_section = record { name = 0; kind = 0; addr = 0; offset = 0; size = 0; link = 0 }

pub returns-then-is_runtime : goal.returns-then-is_runtime
returns-then-is_runtime c =
    let test = is_runtime c.args.elf.now in
    sym (ap (find test) (sym c.requires.whole) ∙ c.loop-section.invariant
    ∙ found_at test c.args.sections.now c.loop-section.section-index no_section c.loop-section-test.true (sym c.is_runtime.ensures ∙ c.if-is_runtime.true))

pub loop-section-preserved : goal.loop-section-preserved
loop-section-preserved c =
    c.loop-section.invariant
    ∙ passed_at (is_runtime c.args.elf.now) c.args.sections.now c.loop-section.section-index no_section c.loop-section-test.true (sym c.is_runtime.ensures ∙ c.if-is_runtime.false)

pub returns : goal.returns
returns c =
    let test = is_runtime c.args.elf.now in
    sym (ap (find test) (sym c.requires.whole) ∙ c.loop-section.invariant
    ∙ none_past test c.args.sections.now c.loop-section.section-index c.loop-section-test.false)
