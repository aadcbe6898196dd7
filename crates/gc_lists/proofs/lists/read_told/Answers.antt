use Rattle.std.proofs.Common.{◌≡◌, ◌∙◌, sym, arith}
use Rattle.std.specs.Prelude.{None}
use Rattle.std.proofs.lemmas.Result.{err_from_is_err_and}
use Rattle.process_memory.proofs.Reading.{reading_gives, reading_then}
use Rattle.gc_lists.specs.Lists.{four_of, told_at, told_by}
use Rattle.gc_lists.proofs.ListLaws.{told_here, told_none}
use Rattle.gc_lists.proofs.lists.read_told.Goals as goal

pub returns-in_err-missing : goal.returns-in_err-missing
returns-in_err-missing g c =
    let p = err_from_is_err_and c.from_residual.result c.from_residual.ensures.1 in
    rw p.1 (reading_gives _ _ c.in_err-missing.ensures (omega arith) (λ m a. tt))

pub returns-in-Some : goal.returns-in-Some
returns-in-Some g c = reading_gives _ _ c.in_ok-missing.ensures (omega arith)
    (λ m a. told_none c.args.places.now c.args.bases.now m c.args.base c.in-Some.head c.heads_at-own.result c.heads_at-own.ensures (sym c.in-Some.is ∙ a))

pub returns-in_err-lists-in-None : goal.returns-in_err-lists-in-None
returns-in_err-lists-in-None g c =
    let p = err_from_is_err_and c.from_residual-in_err-lists-in-None.result c.from_residual-in_err-lists-in-None.ensures.1 in
    rw p.1 (reading_gives _ _ (reading_then (λ m. Unit {0}) c.in_ok-missing.ensures c.in_err-lists-in-None.ensures (λ m a b. tt)) (omega arith) (λ m h. tt))

pub returns-in_ok-lists-in-None : goal.returns-in_ok-lists-in-None
returns-in_ok-lists-in-None g c =
    let p = c.args.places.now in
    reading_gives _ _ (reading_then (λ m. told_by None (four_of c.in_ok-lists-in-None.lists) ≡ told_at p c.args.bases.now m c.args.base) c.in_ok-missing.ensures c.in_ok-lists-in-None.ensures
    (λ m a b. told_here p c.args.bases.now m c.args.base (four_of c.in_ok-lists-in-None.lists) c.heads_at-own.result c.heads_at-own.ensures (sym c.in-None.is ∙ a) b))
    (omega arith) (λ m h. h)
