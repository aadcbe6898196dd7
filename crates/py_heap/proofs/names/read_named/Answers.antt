use Rattle.std.proofs.Common.{◌∙◌, ap, arith, ◌++◌, map, take}
use Rattle.std.proofs.lemmas.Result.{err_from_is_err_and}
use Rattle.process_memory.proofs.Reading.{reading_gives}
use Rattle.py_heap.specs.Names.{most_names, named_at, unnamed}
use Rattle.py_heap.proofs.names.read_named.Goals as goal

pub returns-in_err-named : goal.returns-in_err-named
returns-in_err-named g c =
    let p = err_from_is_err_and c.from_residual.result c.from_residual.ensures.1 in
    rw p.1 (reading_gives _ _ c.in_err-named.ensures (omega (arith, c.first_of.ensures.few)) (λ m h. tt))

pub returns-in_err-push_unnamed : goal.returns-in_err-push_unnamed
returns-in_err-push_unnamed g c =
    let p = err_from_is_err_and c.from_residual-in_err-push_unnamed.result c.from_residual-in_err-push_unnamed.ensures.1 in
    rw p.1 (reading_gives _ _ c.in_ok-named.ensures (omega (arith, c.first_of.ensures.few)) (λ m h. tt))

pub returns : goal.returns
returns g c =
    reading_gives _ _ c.in_ok-named.ensures (omega (arith, c.first_of.ensures.few))
    (λ m h. c.in_ok-push_unnamed.ensures
    ∙ ap (λ xs. xs ++ map unnamed c.rest_of.result.now) (h ∙ ap (map (named_at c.args.layout.now c.args.places.now m)) c.first_of.ensures.is)
    ∙ ap (λ ys. map (named_at c.args.layout.now c.args.places.now m) (take most_names c.args.classes.now) ++ map unnamed ys) c.rest_of.ensures)
