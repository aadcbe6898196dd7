use Rattle.std.proofs.Common.{◌≡◌, ◌∙◌, ap, subst}
use Rattle.std.specs.Prelude.{IfOk}
use Rattle.std.specs.Str.{chars}
use Rattle.std.proofs.lemmas.Str.{IsUtf8-from_ascii, chars-IsAscii}
use Rattle.py_fields.proofs.scan.ascii_text.Goals as goal

pub unreachable-requires : goal.unreachable-requires
unreachable-requires c = c.in-Err.ensures.cases.0 (IsUtf8-from_ascii c.args.bytes.now c.requires)

pub returns : goal.returns
returns c =
    let same : chars c.in-Ok.text.now ≡ c.args.bytes.now = ap chars c.in-Ok.ensures.cases.0 ∙ chars-IsAscii c.args.bytes.now c.requires in
    subst (λ cs. IfOk c.of.result (λ text. text ≡ cs)) same c.of.ensures
