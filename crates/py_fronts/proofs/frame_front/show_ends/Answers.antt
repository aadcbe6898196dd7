use Rattle.std.proofs.Common.{refl, ap, ◌∙◌}
use Rattle.std.proofs.lemmas.Result.{err_from_is_err_and}
use Rattle.process_memory.proofs.Reading.{reading_gives, reading_then}
use Rattle.py_fronts.specs.FrameFronts.{frames_front, number_between, shown_first, shown_last}
use Rattle.py_fronts.specs.Members.{chained}
use Rattle.py_fronts.proofs.EndsShown.{ends_few, ends_shown, first_few}
use Rattle.py_fronts.proofs.Steps.{lost_first, lost_then}
use Rattle.py_fronts.proofs.frame_front.show_ends.Goals as goal

pub returns-in_err-first : goal.returns-in_err-first
returns-in_err-first g c =
    let p = err_from_is_err_and c.from_residual.result c.from_residual.ensures.1 in
    let first = c.ends_of-ends.ensures.first ∙ ap (shown_first c.args.limit) c.deref.ensures.value in
    rw p.1 (lost_first _ c.in_err-first.ensures p.2 (first_few c.args.asked c.args.limit c.args.chain.now.kept.items c.ends_of-ends.result.first.now first))

pub returns-in_err-last : goal.returns-in_err-last
returns-in_err-last g c =
    let p = err_from_is_err_and c.from_residual-in_err-last.result c.from_residual-in_err-last.ensures.1 in
    let first = c.ends_of-ends.ensures.first ∙ ap (shown_first c.args.limit) c.deref.ensures.value in
    let last = c.ends_of-ends.ensures.last ∙ ap (shown_last c.args.limit) c.deref.ensures.value in
    rw p.1 (lost_then _ c.in_ok-first.ensures c.in_err-last.ensures p.2 (ends_few c.args.asked c.args.limit c.args.chain.now.kept.items c.ends_of-ends.result.first.now c.ends_of-ends.result.last.now first last))

pub returns : goal.returns
returns g c =
    let first = c.ends_of-ends.ensures.first ∙ ap (shown_first c.args.limit) c.deref.ensures.value in
    let between = c.ends_of-ends.ensures.between ∙ ap (number_between c.args.limit) c.deref.ensures.value in
    let last = c.ends_of-ends.ensures.last ∙ ap (shown_last c.args.limit) c.deref.ensures.value in
    let few = ends_few c.args.asked c.args.limit c.args.chain.now.kept.items c.ends_of-ends.result.first.now c.ends_of-ends.result.last.now first last in
    reading_gives _ _ (reading_then _ c.in_ok-first.ensures c.in_ok-last.ensures (λ m a b.
    ends_shown c.args.asked c.args.layout.now m c.args.limit (chained c.args.chain.now) c.ends_of-ends.result.first.now c.ends_of-ends.result.last.now c.ends_of-ends.result.between
    (frames_front (record { first = c.in_ok-first.first; between = c.ends_of-ends.result.between; last = c.in_ok-last.last; met = c.args.chain.now.met; end = c.args.chain.now.end }))
    first between last a b refl refl refl)) few (λ m h. h)
