use Rattle.std.proofs.Common.{ℕ, ◌*◌, ◌++◌, ◌∷◌, [], map, sym, ap, ◌∙◌, arith}
use Rattle.std.proofs.lemmas.List.{map-append}
use Rattle.std.proofs.lemmas.List.FromFn.{map-range_with_len_more}
use Rattle.std.specs.List.{range_with_len}
use Rattle.elf64_core.specs.Symbols.{SymbolEntry, symbol_entry_of, symbol_entry_in}
use Rattle.elf64_core.proofs.symbol.symbols_in.Goals as goal

pub loop-number-preserved : goal.loop-number-preserved
loop-number-preserved c =
    let entry : ℕ → SymbolEntry = λ k. symbol_entry_in c.args.strings.now c.args.table.now (24 * k) in
    let n = c.loop-number.number in
    let items = c.loop-number.symbols.items in
    ap (map symbol_entry_of) c.in_ok-push.ensures.items
    ∙ map-append symbol_entry_of items (c.symbol_in.result ∷ [])
    ∙ ap (λ es. es ++ symbol_entry_of c.symbol_in.result ∷ []) c.loop-number.invariant
    ∙ ap (λ e. map entry (range_with_len 0 n) ++ e ∷ []) c.symbol_in.ensures
    ∙ sym (map-range_with_len_more entry 0 n n (omega arith))
