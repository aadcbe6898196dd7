use Rattle.std.proofs.Common.{◌≡◌, ap, sym, subst, ◌∙◌, map, None, Some, refl}
use Rattle.std.proofs.lemmas.Result.{err_from_is_err_and}
use Rattle.elf64_core.specs.Header.{IsInside}
use Rattle.elf64_core.specs.Sections.{contents_of, strings_of}
use Rattle.elf64_core.specs.Symbols.{symbol_entry_of, entries_in, first_section, symbol_section}
use Rattle.elf64_core.proofs.Symbols.{HasSymbols-none, HasSymbols-some, HasSymbols-inside, symbols_of-none}
use Rattle.elf64_core.proofs.Symbols.{symbols_of-some}
use Rattle.elf64_core.proofs.header.Elf64.symbols.Goals as goal

pub returns-in_default-clause-bad : goal.returns-in_default-clause-bad
returns-in_default-clause-bad c =
    let none : symbol_section c.args.self.now c.args.kind ≡ None =
    ap (first_section c.args.kind) (sym c.in_ok-sections.ensures.sections) ∙ sym c.first_of_kind.ensures ∙ c.in_default.is in
    (λ is h. cc, λ no. absurd (no (HasSymbols-none c.args.self.now c.args.kind c.in_ok-sections.ensures.held none)))

pub returns-in_default-clause-symbols : goal.returns-in_default-clause-symbols
returns-in_default-clause-symbols c =
    let none : symbol_section c.args.self.now c.args.kind ≡ None =
    ap (first_section c.args.kind) (sym c.in_ok-sections.ensures.sections) ∙ sym c.first_of_kind.ensures ∙ c.in_default.is in
    ap (map symbol_entry_of) c.new.ensures.items ∙ sym (symbols_of-none c.args.self.now c.args.kind none)

pub returns-in_default-contents-clause-bad : goal.returns-in_default-contents-clause-bad
returns-in_default-contents-clause-bad c =
    let section = c.in-Some.section in
    let found : symbol_section c.args.self.now c.args.kind ≡ Some section =
    ap (first_section c.args.kind) (sym c.in_ok-sections.ensures.sections) ∙ sym c.first_of_kind.ensures ∙ c.in-Some.is in (
      λ is h.
          let inside = HasSymbols-inside c.args.self.now c.args.kind section h found in
          let some = c.in_default-contents.ensures.inside.1 (subst (λ bs. IsInside bs section.offset section.size) (sym c.bytes-bytes.ensures.same) inside) in
          cc,
      λ no. refl,
    )

pub returns-in_err-symbols-clause-bad : goal.returns-in_err-symbols-clause-bad
returns-in_err-symbols-clause-bad c =
    let section = c.in-Some.section in
    let found : symbol_section c.args.self.now c.args.kind ≡ Some section =
    ap (first_section c.args.kind) (sym c.in_ok-sections.ensures.sections) ∙ sym c.first_of_kind.ensures ∙ c.in-Some.is in
    let inside : IsInside c.args.self.now section.offset section.size = subst (λ bs. IsInside bs section.offset section.size) c.bytes-bytes.ensures.same (c.in-Some-contents.ensures.inside.0 refl) in
    let p = err_from_is_err_and c.from_residual-in_err-symbols.result c.from_residual-in_err-symbols.ensures.1 in
    let error = p.1 in
    let which = p.2 in (
      λ is h. cc,
      λ no. absurd (no (HasSymbols-some c.args.self.now c.args.kind section c.in_ok-sections.ensures.held found inside)),
    )

pub returns-in_err-strings-clause-bad : goal.returns-in_err-strings-clause-bad
returns-in_err-strings-clause-bad c =
    let section = c.in-Some.section in
    let found : symbol_section c.args.self.now c.args.kind ≡ Some section =
    ap (first_section c.args.kind) (sym c.in_ok-sections.ensures.sections) ∙ sym c.first_of_kind.ensures ∙ c.in-Some.is in
    let inside : IsInside c.args.self.now section.offset section.size = subst (λ bs. IsInside bs section.offset section.size) c.bytes-bytes.ensures.same (c.in-Some-contents.ensures.inside.0 refl) in
    let p = err_from_is_err_and c.from_residual-in_err-strings.result c.from_residual-in_err-strings.ensures.1 in
    let error = p.1 in
    let which = p.2 in (
      λ is h. cc,
      λ no. absurd (no (HasSymbols-some c.args.self.now c.args.kind section c.in_ok-sections.ensures.held found inside)),
    )

pub returns-clause-bad : goal.returns-clause-bad
returns-clause-bad c =
    let section = c.in-Some.section in
    let found : symbol_section c.args.self.now c.args.kind ≡ Some section =
    ap (first_section c.args.kind) (sym c.in_ok-sections.ensures.sections) ∙ sym c.first_of_kind.ensures ∙ c.in-Some.is in
    let inside : IsInside c.args.self.now section.offset section.size = subst (λ bs. IsInside bs section.offset section.size) c.bytes-bytes.ensures.same (c.in-Some-contents.ensures.inside.0 refl) in
    (λ is h. cc, λ no. absurd (no (HasSymbols-some c.args.self.now c.args.kind section c.in_ok-sections.ensures.held found inside)))

pub returns-clause-symbols : goal.returns-clause-symbols
returns-clause-symbols c =
    let section = c.in-Some.section in
    let found : symbol_section c.args.self.now c.args.kind ≡ Some section =
    ap (first_section c.args.kind) (sym c.in_ok-sections.ensures.sections) ∙ sym c.first_of_kind.ensures ∙ c.in-Some.is in
    let contents : contents_of c.args.self.now section ≡ Some c.in-Some-contents.table.now =
    sym (c.in-Some-contents.ensures.value ∙ ap (λ bs. contents_of bs section) c.bytes-bytes.ensures.same) in
    let strings = c.in_ok-strings.ensures ∙ c.strings_of.ensures ∙ ap (λ bs. strings_of bs section.link) c.bytes-bytes.ensures.same in
    c.in_ok-symbols.ensures ∙ ap (λ names. entries_in names c.in-Some-contents.table.now) strings
    ∙ sym (symbols_of-some c.args.self.now c.in-Some-contents.table.now c.args.kind section found contents)
