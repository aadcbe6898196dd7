use Rattle.std.proofs.Common.{ap, sym, arith, refl, ◌∙◌}
use Rattle.std.proofs.lemmas.Result.{err_from_is_err_and}
use Rattle.process_memory.proofs.Reading.{reads_next, reads_halt, reads_end, reads_same}
use Rattle.py_builtins.specs.Consulted.IsWidth.{TypeName}
use Rattle.py_builtins.proofs.Consulted.{consults_field, consults_fields}
use Rattle.type_places.specs.Holders.{has_shape_if, is_known_class_at, is_named}
use Rattle.type_places.proofs.holders.is_known_class.Goals as goal

pub returns-in_err-chars : goal.returns-in_err-chars
unfolding is_known_class_at
returns-in_err-chars g c =
    let p = err_from_is_err_and c.from_residual.result c.from_residual.ensures.1 in
    rw p.1 (reads_halt 4 p.0 _ (consults_field c.args.layout.now TypeName c.in_err-chars.ensures.answer) p.2
    (omega arith))

pub returns-then-has_name : goal.returns-then-has_name
unfolding is_known_class_at
returns-then-has_name g c =
    let chars = ap (λ bytes. is_named bytes c.args.name.now) (sym c.deref.ensures.value) in
    let named = chars ∙ sym c.is_named-has_name.ensures ∙ c.if-has_name.true in
    reads_next {k = 3} 4 _ (consults_field c.args.layout.now TypeName c.in_ok-chars.ensures.answer)
    (reads_same _ _ (λ m. ap (has_shape_if c.args.layout.now c.args.fields.now m c.args.class.at c.args.basic_size)
    named)
    (consults_fields c.args.layout.now c.has_shape.ensures)) (omega arith)

pub returns : goal.returns
unfolding is_known_class_at
returns g c =
    let chars = ap (λ bytes. is_named bytes c.args.name.now) (sym c.deref.ensures.value) in
    let named = chars ∙ sym c.is_named-has_name.ensures ∙ c.if-has_name.false in
    reads_next {k = 3} 4 _ (consults_field c.args.layout.now TypeName c.in_ok-chars.ensures.answer)
    (reads_same _ _ (λ m. ap (has_shape_if c.args.layout.now c.args.fields.now m c.args.class.at c.args.basic_size)
    named)
    (reads_end 3 refl)) (omega arith)
