use Rattle.std.proofs.Common.{◌∙◌, [], ◌∷◌, ◌++◌, sym, subst, take, get_or}
use Rattle.std.specs.Prelude.{Some}
use Rattle.std.proofs.lemmas.List.{take_more}
use Rattle.elf64_core.specs.declared.section.Section.{Section}
use Rattle.py_process.specs.Ranges.{BssIs}
use Rattle.py_process.proofs.Bss.{bss_added, bss_passed}
use Rattle.py_process.proofs.ranges.bss_section.Goals as goal
use Rattle.py_process.proofs.ranges.bss_section.Goals.{then-may_be_bss, else-may_be_bss}

abbrev no_section : Section
no_section = record { name = 0; kind = 0; addr = 0; offset = 0; size = 0; link = 0 }

pub loop-section-preserved : goal.loop-section-preserved
loop-section-preserved c =
    let i = c.loop-section.section-index in
    let xs = c.args.sections.now in
    let bytes = c.args.elf.now in
    let x = get_or xs i no_section in
    let more = take_more xs i no_section c.loop-section-test.true in
    elim c.if-may_be_bss.branch [
      | then-may_be_bss w ↦
          subst (λ l. BssIs bytes l c.if-may_be_bss.bss) (sym more) (subst (λ best. BssIs bytes (take i xs ++ x ∷ []) best) (sym w.bss-is)
          (subst (λ best. BssIs bytes (take i xs ++ x ∷ []) (Some best)) (sym w.larger.ensures)
          (bss_added bytes (take i xs) c.loop-section.bss x c.loop-section.invariant (sym c.may_be_bss.ensures ∙ w.if-may_be_bss.true))))
      | else-may_be_bss w ↦
          subst (λ l. BssIs bytes l c.if-may_be_bss.bss) (sym more) (subst (λ best. BssIs bytes (take i xs ++ x ∷ []) best) (sym w.bss-is)
          (bss_passed bytes (take i xs) c.loop-section.bss x c.loop-section.invariant (sym c.may_be_bss.ensures ∙ w.if-may_be_bss.false)))
    ]
