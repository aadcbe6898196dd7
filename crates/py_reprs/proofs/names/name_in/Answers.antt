use Rattle.std.proofs.Common.{◌∙◌, ap, sym}
use Rattle.std.specs.Prelude.{Some}
use Rattle.std.specs.Str.{chars}
use Rattle.py_reprs.specs.Names.{text_if}
use Rattle.py_reprs.proofs.Utf.{text_bad, text_ok}
use Rattle.py_reprs.proofs.names.name_in.Goals as goal

pub returns-in_ok-of-in-Ok : goal.returns-in_ok-of-in-Ok
returns-in_ok-of-in-Ok c =
    let bytes = rw c.in-Some.is at c.until_nul.ensures in
    ap Some (c.in_ok-of-in-Ok.ensures ∙ ap chars c.in-Ok.ensures.cases.0) ∙ sym (text_ok _ c.in-Ok.ensures.cases.1)
    ∙ ap (λ o. text_if o) bytes

pub returns-in-Err : goal.returns-in-Err
returns-in-Err c =
    let bytes = rw c.in-Some.is at c.until_nul.ensures in
    sym (text_bad _ c.in-Err.ensures.cases.0) ∙ ap (λ o. text_if o) bytes
