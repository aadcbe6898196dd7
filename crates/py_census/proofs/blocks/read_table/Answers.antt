use Rattle.std.proofs.Common.{◌≡◌, ◌+◌, ◌∙◌, ap, arith}
use Rattle.std.proofs.lemmas.Result.{err_from_is_err_and}
use Rattle.process_memory.specs.Memory.{word_at}
use Rattle.process_memory.proofs.Reading.{reading_gives, reading_then}
use Rattle.py_census.specs.Bases.{known}
use Rattle.py_census.specs.Blocks.{table_at, table_by}
use Rattle.py_census.proofs.blocks.read_table.Goals as goal

pub returns-in_err-mask : goal.returns-in_err-mask
returns-in_err-mask g c =
    let p = err_from_is_err_and c.from_residual-in_err-mask.result c.from_residual-in_err-mask.ensures.1 in
    rw p.1 (reading_gives 2 _ (reading_then (λ m. Unit {0}) c.in_ok-table.ensures c.in_err-mask.ensures
    (λ m a b. tt)) (omega arith) (λ m h. tt))

pub returns : goal.returns
returns g c =
    let p = c.args.places.now in
    let object = c.args.object in
    reading_gives 2 _
    (reading_then (λ m. c.table_by.result ≡ table_at p m object) c.in_ok-table.ensures c.in_ok-mask.ensures
    (λ m a b. c.table_by.ensures ∙ ap (λ t. table_by object p.own_table t c.in_ok-mask.mask) a
    ∙ ap (λ k. table_by object p.own_table (known (word_at m (object + p.table))) k) b))
    (omega arith) (λ m h. h)
