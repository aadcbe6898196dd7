use Rattle.std.proofs.Common.{◌≡◌, arith, ap, length}
use Rattle.std.specs.Prelude.{Ok}
use Rattle.std.proofs.lemmas.Result.{err_from_is_err_and}
use Rattle.process_memory.proofs.Reading.{reading_gives, reading_here}
use Rattle.py_builtins.specs.ObjectError.{object_fault}
use Rattle.py_reprs.proofs.Shares.{row_is, share_fits, places_count}
use Rattle.py_reprs.proofs.levels.read_row.Goals as goal

pub returns-in_err-places-clause-answer : goal.returns-in_err-places-clause-answer
returns-in_err-places-clause-answer g c =
    let p = err_from_is_err_and c.from_residual.result c.from_residual.ensures.1 in
    rw p.1 (reading_gives _ _ c.in_err-places.ensures (omega (arith, c.shown_count-shown.ensures.few))
    (λ m h. record { is = rw (ap object_fault p.2) tt }))

pub returns-clause-answer : goal.returns-clause-answer
returns-clause-answer g c =
    reading_gives _ _ c.in_ok-places.ensures (omega (arith, c.shown_count-shown.ensures.few))
    (λ m h. record {
      is = ap Ok (row_is c.args.limits.now m c.args.form c.args.nodes c.args.count c.args.base
          c.shown_count-shown.result _ _ c.shown_count-shown.ensures.value h c.share.ensures);
    })

pub returns-clause-few : goal.returns-clause-few
returns-clause-few g c =
    let many : length c.in_ok-places.places.items ≡ c.shown_count-shown.result =
    places_count _ c.args.base c.shown_count-shown.result _ (reading_here c.in_ok-places.ensures) in
    rw (many, c.share.ensures) (share_fits c.args.nodes c.shown_count-shown.result c.shown_count-shown.ensures.within)
