use Rattle.std.proofs.Common.{ap, arith, refl, sym, ◌∙◌}
use Rattle.std.proofs.lemmas.Result.{err_from_is_err_and}
use Rattle.process_memory.proofs.Reading.{reads_end, reads_halt, reads_next, reads_same}
use Rattle.process_memory.specs.Seen.{read_fault}
use Rattle.py_coroutines.specs.Holders.{not_future_at, other_at}
use Rattle.py_coroutines.proofs.holders.read_other.Goals as goal

pub returns-then-is : goal.returns-then-is
unfolding other_at
returns-then-is g c = reads_same _ _
    (λ m. ap (not_future_at c.args.places.now m c.args.at c.args.class) (sym c.is_future-is.ensures ∙ c.if-is.true)) (reads_end 6 refl)

pub returns-in_err-holder : goal.returns-in_err-holder
unfolding other_at
returns-in_err-holder g c =
    let p = err_from_is_err_and c.from_residual.result c.from_residual.ensures.1 in
    rw p.1 (reads_same _ _
    (λ m. ap (not_future_at c.args.places.now m c.args.at c.args.class) (sym c.is_future-is.ensures ∙ c.if-is.false))
    (reads_halt 6 p.0 _ c.in_err-holder.ensures (ap read_fault p.2) (omega arith)))

pub returns : goal.returns
unfolding other_at
returns g c = reads_same _ _
    (λ m. ap (not_future_at c.args.places.now m c.args.at c.args.class) (sym c.is_future-is.ensures ∙ c.if-is.false))
    (reads_next 6 _ c.in_ok-holder.ensures c.read_held.ensures (omega arith))
