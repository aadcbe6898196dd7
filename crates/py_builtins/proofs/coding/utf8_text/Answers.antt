use Rattle.std.proofs.Common.{◌≡◌, ap, string_bytes}
use Rattle.std.specs.Str.{chars, IsUtf8}
use Rattle.std.proofs.lemmas.Str.{IsUtf8-string_bytes}
use Rattle.py_builtins.specs.declared.coding.TextKind.TheVariants.{Utf8}
use Rattle.py_builtins.proofs.Codings.{answers_coding, answers_none, utf8_coding, utf8_none}
use Rattle.py_builtins.proofs.coding.utf8_text.Goals as goal

pub returns-in-Ok : goal.returns-in-Ok
returns-in-Ok c =
    let same : string_bytes c.in-Ok.text ≡ c.args.bytes.items = ap (λ v. v.items) c.in-Ok.ensures.ok in
    let utf8 : IsUtf8 c.args.bytes.items = rw (← same) (IsUtf8-string_bytes c.in-Ok.text) in
    rw (c.in_ok-shared-in-Ok.ensures, same) (answers_coding Utf8 (chars c.args.bytes.items) c.args.bytes.items (utf8_coding c.args.bytes.items utf8))

pub returns : goal.returns
returns c = answers_none Utf8 c.args.bytes.items (utf8_none c.args.bytes.items (λ h. let k = c.in-Err.ensures.succeeds h in cc))
