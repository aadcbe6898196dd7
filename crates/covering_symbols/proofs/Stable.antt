-- What isn't refuted of a file's tables holds, as it can be decided.
use Rattle.std.proofs.Common.{◌≡◌, ℕ, ◌+◌, List, length, refl, subst, inl, inr, ⊎_elim, arith}
use Rattle.std.specs.Prelude.{Option, Some, None, MatchOption, ⊤}
use Rattle.std.proofs.lemmas.Bool.{cases_eq, cases_lt}
use Rattle.elf64_core.specs.Header.{IsInside}
use Rattle.elf64_core.specs.Sections.{HasSections, section_count, section_entry_size}
use Rattle.elf64_core.specs.Symbols.{HasSymbols, symbol_section}
use Rattle.elf64_core.specs.declared.section.Section.{Section}
use Rattle.elf64_core.specs.declared.symbol.SymbolKind.{SymbolKind}

inside_held : (bytes : List ℕ) (start size : ℕ) → ¬ (¬ IsInside bytes start size) → IsInside bytes start size
inside_held bytes start size nn =
    ⊎_elim (λ e. inl e) (λ ne. inr (⊎_elim (λ lt. absurd (nn (⊎_elim (λ e. ne e) (λ le. omega (arith, lt, le))))) (λ le. le) (cases_lt (length bytes) (start + size)))) (cases_eq size 0)

sections_held : (bytes : List ℕ) → ¬ (¬ HasSections bytes) → HasSections bytes
sections_held bytes nn = record {
  sized = ⊎_elim (λ e. inl e) (λ ne. inr (⊎_elim (λ e. e) (λ no. absurd (nn (λ h. ⊎_elim (λ e. ne e) (λ e. no e) h.sized))) (cases_eq (section_entry_size bytes) 64))) (cases_eq (section_count bytes) 0);
  inside = inside_held bytes _ _ (λ no. nn (λ h. no h.inside));
}

pub symbols_held : (bytes : List ℕ) (kind : SymbolKind) → ¬ (¬ HasSymbols bytes kind) → HasSymbols bytes kind
symbols_held bytes kind nn = record {
  sections = sections_held bytes (λ no. nn (λ h. no h.sections));
  inside = by (symbol_section bytes kind) refl;
}
  where
    IsHeld : Option Section → Type 0
    IsHeld r = MatchOption r ⊤ (λ section. IsInside bytes section.offset section.size)

    by : (r : Option Section) → symbol_section bytes kind ≡ r → IsHeld r
    by None is = tt
    by (Some section) is = inside_held bytes section.offset section.size (λ no. nn (λ h. no (subst IsHeld is h.inside)))
