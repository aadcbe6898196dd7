use Rattle.std.proofs.Common.{◌≡◌, ◌∙◌, ap, arith}
use Rattle.std.specs.Prelude.{Some}
use Rattle.std.proofs.lemmas.Result.{err_from_is_err_and}
use Rattle.process_memory.proofs.Reading.{reading_gives, reading_then}
use Rattle.gc_lists.specs.Heads.{held_by, is_named}
use Rattle.gc_lists.specs.Links.{links_at}
use Rattle.gc_lists.proofs.standing.held_by.Goals as goal

pub returns-in_err-before : goal.returns-in_err-before
returns-in_err-before g c =
    let p = err_from_is_err_and c.from_residual-in_err-before.result c.from_residual-in_err-before.ensures.1 in
    rw p.1 (reading_gives 2 _ (reading_then (λ m. Unit {0}) c.in_ok-after.ensures c.in_err-before.ensures (λ m a b. tt)) (omega arith) (λ m h. tt))

pub returns : goal.returns
returns g c = reading_gives 2 _
    (reading_then (λ m. c.is_named.result ≡ held_by (Some c.args.own) (links_at c.args.mask m) c.args.head) c.in_ok-after.ensures c.in_ok-before.ensures
    (λ m a b. c.is_named.ensures ∙ ap (λ l. is_named l c.in_ok-before.before c.args.head) a
    ∙ ap (λ l. is_named (links_at c.args.mask m c.args.own.next) l c.args.head) b)) (omega arith) (λ m h. h)
