use Rattle.std.proofs.Common.{◌≡◌, List, ℕ, subst, sym}
use Rattle.std.specs.Prelude.{IfOk}
use Rattle.py_builtins.specs.TextKind.{coded}
use Rattle.object_builder.specs.Texts.{Suits}
use Rattle.object_builder.proofs.Coding.{latin_is, utf16_is, utf32_is}
use Rattle.object_builder.proofs.texts.coded.Goals as goal

pub returns-in-Utf8 : goal.returns-in-Utf8
unfolding coded
returns-in-Utf8 c = subst (λ k. IfOk c.utf8_bytes.result (λ bytes. bytes.items ≡ coded k c.args.text.now))
    (sym c.in-Utf8.is) c.utf8_bytes.ensures

pub returns-in-Latin1 : goal.returns-in-Latin1
returns-in-Latin1 c =
    let text = c.args.text.now in
    let suits = subst (λ k. Suits k text) c.in-Latin1.is c.requires in
    subst (λ k. IfOk c.code_bytes.result (λ bytes. bytes.items ≡ coded k text)) (sym c.in-Latin1.is)
    (subst (λ (xs : List ℕ). IfOk c.code_bytes.result (λ bytes. bytes.items ≡ xs))
    (latin_is text suits) c.code_bytes.ensures)

pub returns-in-Utf16 : goal.returns-in-Utf16
returns-in-Utf16 c =
    let text = c.args.text.now in
    let suits = subst (λ k. Suits k text) c.in-Utf16.is c.requires in
    subst (λ k. IfOk c.code_bytes-in-Utf16.result (λ bytes. bytes.items ≡ coded k text)) (sym c.in-Utf16.is)
    (subst (λ (xs : List ℕ). IfOk c.code_bytes-in-Utf16.result (λ bytes. bytes.items ≡ xs))
    (utf16_is text suits) c.code_bytes-in-Utf16.ensures)

pub returns-in-Utf32 : goal.returns-in-Utf32
returns-in-Utf32 c =
    let text = c.args.text.now in
    subst (λ k. IfOk c.code_bytes-in-Utf32.result (λ bytes. bytes.items ≡ coded k text)) (sym c.in-Utf32.is)
    (subst (λ (xs : List ℕ). IfOk c.code_bytes-in-Utf32.result (λ bytes. bytes.items ≡ xs))
    (utf32_is text) c.code_bytes-in-Utf32.ensures)
