use Rattle.std.proofs.Common.{◌≡◌, ◌∙◌, arith, ap, length, map}
use Rattle.std.proofs.lemmas.Result.{err_from_is_err_and}
use Rattle.process_memory.proofs.Reading.{reading_gives, reading_then}
use Rattle.py_process.specs.Facts.{known_of}
use Rattle.repr_types.specs.Found.{class_named, type_named}
use Rattle.repr_types.specs.Symbols.{repr_types_at, type_symbols, types_by, value_symbols}
use Rattle.repr_types.proofs.symbols.find_repr_types.Goals as goal

pub returns-in_err-types : goal.returns-in_err-types
returns-in_err-types g c =
    let p = err_from_is_err_and c.from_residual-in_err-types.result c.from_residual-in_err-types.ensures.1 in
    let values : length c.value_symbols-values.result ≡ 3 = ap length c.value_symbols-values.ensures in
    let symbols : length c.type_symbols-symbols.result ≡ 16 = ap length c.type_symbols-symbols.ensures in
    rw p.1 (reading_gives _ _ (reading_then _ c.in_ok-classes.ensures c.in_err-types.ensures (λ m a b. b))
    (omega (arith, values, symbols)) (λ m h. tt))

pub returns : goal.returns
unfolding repr_types_at
returns g c =
    let values : length c.value_symbols-values.result ≡ 3 = ap length c.value_symbols-values.ensures in
    let symbols : length c.type_symbols-symbols.result ≡ 16 = ap length c.type_symbols-symbols.ensures in
    reading_gives _ _
    (reading_then (λ m. c.types_by.result ≡ repr_types_at (known_of c.args.info.now) c.args.layout.now m)
    c.in_ok-classes.ensures c.in_ok-types.ensures (λ m a b.
    c.types_by.ensures
    ∙ ap (λ found. types_by found c.deref-2.result.now) (c.deref.ensures.value ∙ a
    ∙ ap (map (class_named c.args.layout.now m)) c.value_symbols-values.ensures)
    ∙ ap (types_by (map (class_named c.args.layout.now m) (value_symbols (known_of c.args.info.now))))
    (c.deref-2.ensures.value ∙ b ∙ ap (map (type_named c.args.layout.now m)) c.type_symbols-symbols.ensures)))
    (omega (arith, values, symbols)) (λ m h. h)
