use Rattle.std.proofs.Common.{◌≡◌, ◌+◌, ◌∙◌, ap, arith}
use Rattle.std.proofs.lemmas.Result.{err_from_is_err_and}
use Rattle.process_memory.proofs.Reading.{reading_gives, reading_then}
use Rattle.process_memory.specs.Memory.{word_at}
use Rattle.py_census.specs.Bases.{known, set_class_at}
use Rattle.py_census.specs.Sizes.{class_size_at, class_size_by}
use Rattle.py_census.proofs.sizes.read_class_size.Goals as goal

pub returns-in_err-item : goal.returns-in_err-item
returns-in_err-item g c =
    let p = err_from_is_err_and c.from_residual-in_err-item.result c.from_residual-in_err-item.ensures.1 in
    rw p.1 (reading_gives 19 _ (reading_then (λ m. Unit {0}) c.in_ok-basic.ensures c.in_err-item.ensures
    (λ m a b. tt)) (omega arith) (λ m h. tt))

pub returns-in_err-flags : goal.returns-in_err-flags
returns-in_err-flags g c =
    let p = err_from_is_err_and c.from_residual-in_err-flags.result c.from_residual-in_err-flags.ensures.1 in
    rw p.1 (reading_gives 19 _ (reading_then (λ m. Unit {0}) (reading_then
    (λ m. Unit {0}) c.in_ok-basic.ensures c.in_ok-item.ensures (λ m a b. tt))
    c.in_err-flags.ensures (λ m a b. tt)) (omega arith) (λ m h. tt))

pub returns-in_err-of_sets : goal.returns-in_err-of_sets
returns-in_err-of_sets g c =
    let p = err_from_is_err_and c.from_residual-in_err-of_sets.result c.from_residual-in_err-of_sets.ensures.1 in
    rw p.1 (reading_gives 19 _ (reading_then (λ m. Unit {0}) (reading_then (λ m. Unit {0}) (reading_then
    (λ m. Unit {0}) c.in_ok-basic.ensures c.in_ok-item.ensures (λ m a b. tt))
    c.in_ok-flags.ensures (λ m a b. tt)) c.in_err-of_sets.ensures (λ m a b. tt)) (omega arith) (λ m h. tt))

pub returns : goal.returns
returns g c =
    let l = c.args.layout.now in
    let p = c.args.places.now in
    let class = c.args.class in
    let b = c.in_ok-basic.basic in
    let i = c.in_ok-item.item in
    let f = c.in_ok-flags.flags in
    reading_gives 19 _
    (reading_then (λ m. c.class_size_by.result ≡ class_size_at l p m class)
    (reading_then (λ m. class_size_by b i f (set_class_at p m class) ≡ class_size_at l p m class)
    (reading_then (λ m. class_size_by b i (known (word_at m (class + l.klass.flags))) (set_class_at p m class)
    ≡ class_size_at l p m class)
    c.in_ok-basic.ensures c.in_ok-item.ensures
    (λ m d e. ap (λ x. class_size_by x i (known (word_at m (class + l.klass.flags))) (set_class_at p m class)) d
    ∙ ap (λ x. class_size_by (known (word_at m (class + p.basic_size))) x (known (word_at m
    (class + l.klass.flags))) (set_class_at p m class)) e))
    c.in_ok-flags.ensures
    (λ m d e. ap (λ x. class_size_by b i x (set_class_at p m class)) e ∙ d))
    c.in_ok-of_sets.ensures
    (λ m d e. c.class_size_by.ensures ∙ ap (λ x. class_size_by b i f x) e ∙ d))
    (omega arith) (λ m h. h)
