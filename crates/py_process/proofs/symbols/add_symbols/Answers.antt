use Rattle.std.proofs.Common.{◌≡◌, ◌∙◌, Bool, true, false, [], ◌∷◌, ◌++◌, ap, sym, subst, take, map, get_or, refl}
use Rattle.std.specs.Prelude.{None, option_copied, ◌&&◌}
use Rattle.elf64_core.specs.Symbols.{symbol_entry_of}
use Rattle.elf64_core.specs.declared.symbol.Symbol.{Symbol}
use Rattle.py_process.specs.Ranges.{is_section_named}
use Rattle.py_process.specs.SymbolMap.{is_kept}
use Rattle.py_process.proofs.SymbolMaps.{Says, skipped, stored, taken}
use Rattle.py_process.proofs.symbols.add_symbols.Goals as goal
use Rattle.py_process.proofs.symbols.add_symbols.Goals.{in-Some+then-is_kept+in_ok-copy_within+in_ok-insert}
use Rattle.py_process.proofs.symbols.add_symbols.Goals.{in-Some+else-is_kept, in_default}

abbrev no_symbol : Symbol
no_symbol = record { name = None; info = 0; section = 0; value = 0; size = 0 }

and_false : (b : Bool) → (b && false) ≡ false
and_false true = refl
and_false false = refl

pub loop-symbol-preserved : goal.loop-symbol-preserved
loop-symbol-preserved c =
    let i = c.loop-symbol.symbol-index in
    let xs = c.args.symbols.now in
    let place = c.args.place.now in
    let base = c.args.kept.now in
    let es = map symbol_entry_of (take i xs) in
    let x = symbol_entry_of (get_or xs i no_symbol) in
    let more = taken xs i no_symbol c.loop-symbol-test.true in
    elim c.match-symbol.branch [
      | in-Some+then-is_kept+in_ok-copy_within+in_ok-insert w ↦
          subst (λ l. Says place l base c.match-symbol.kept) (sym more) (subst (λ kept. Says place (es ++ x ∷ []) base kept) (sym w.kept-is)
          (stored place es x base c.loop-symbol.kept w.insert.new.self w.in_ok-copy_within.field-0 w.in-Some.name.now
          (ap option_copied w.in-Some.is) w.in_ok-copy_within.ensures (sym w.is_kept.ensures ∙ w.if-is_kept.true) w.in_ok-insert.ensures.updates c.loop-symbol.invariant))
      | in-Some+else-is_kept w ↦
          subst (λ l. Says place l base c.match-symbol.kept) (sym more) (subst (λ kept. Says place (es ++ x ∷ []) base kept) (sym w.kept-is)
          (skipped place es x base c.loop-symbol.kept (λ name. ap (λ b. b && is_section_named name x.name) (sym w.is_kept.ensures ∙ w.if-is_kept.false)) c.loop-symbol.invariant))
      | in_default w ↦
          subst (λ l. Says place l base c.match-symbol.kept) (sym more) (subst (λ kept. Says place (es ++ x ∷ []) base kept) (sym w.kept-is)
          (skipped place es x base c.loop-symbol.kept (λ name. ap (λ n. is_kept place x && is_section_named name (option_copied n)) w.in_default.is ∙ and_false (is_kept place x)) c.loop-symbol.invariant))
    ]
