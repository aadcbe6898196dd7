use Rattle.std.proofs.Common.{◌≡◌, ◌∙◌, ap, sym, map, rules}
use Rattle.std.specs.Int.{w16, from_le_bytes}
use Rattle.std.proofs.lemmas.Str.{IsUtf8-string_bytes}
use Rattle.py_builtins.specs.TextKind.{numbers_of}
use Rattle.py_builtins.proofs.Codings.{answers_utf16, no_utf16}
use Rattle.py_builtins.proofs.coding.utf16_text.Goals as goal

pub returns-in-Ok : goal.returns-in-Ok
returns-in-Ok c =
    let read : c.deref.result.now ≡ numbers_of w16 2 c.args.bytes.now = c.deref.ensures.value ∙ c.in_ok-units.ensures ∙ ap (λ xs. map (from_le_bytes w16) xs) c.as_chunks.ensures.front in
    answers_utf16 c.args.bytes.now c.deref.result.now read _ _ c.in_ok-shared-in-Ok.ensures (IsUtf8-string_bytes c.in-Ok.text) (rw c.in-Ok.is at c.in_ok-text.ensures.ok) c.requires (search rules)

pub returns : goal.returns
returns c =
    let read : c.deref.result.now ≡ numbers_of w16 2 c.args.bytes.now = c.deref.ensures.value ∙ c.in_ok-units.ensures ∙ ap (λ xs. map (from_le_bytes w16) xs) c.as_chunks.ensures.front in
    no_utf16 c.args.bytes.now c.deref.result.now read (sym (rw c.in-Err.is at c.in_ok-text.ensures.unpaired))
