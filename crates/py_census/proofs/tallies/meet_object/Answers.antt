use Rattle.std.proofs.Common.{◌∙◌, sym, ap, arith, false}
use Rattle.std.specs.Prelude.{is_none}
use Rattle.std.specs.BTreeMap.{get}
use Rattle.std.specs.Ordering.{nat_cmp}
use Rattle.std.proofs.lemmas.Result.{err_from_is_err_and}
use Rattle.process_memory.proofs.Reading.{reading_gives, reading_then}
use Rattle.py_census.specs.Tallies.{IsMet, tally_after}
use Rattle.py_census.proofs.tallies.meet_object.Goals as goal

pub returns-in_err-add_object-in-Some : goal.returns-in_err-add_object-in-Some
returns-in_err-add_object-in-Some g c =
    let p = err_from_is_err_and c.from_residual-in_err-add_object-in-Some.result
    c.from_residual-in_err-add_object-in-Some.ensures.1 in
    rw p.1 (reading_gives 24 _ (reading_then (λ m. Unit {0}) c.in_ok-its.ensures c.in_err-add_object-in-Some.ensures
    (λ m a b. tt)) (omega arith) (λ m h. tt))

pub returns-in_ok-add_object-in-Some : goal.returns-in_ok-add_object-in-Some
returns-in_ok-add_object-in-Some g c =
    let l = c.args.layout.now in
    let p = c.args.places.now in
    let object = c.args.object in
    let old = c.args.tallies.now in
    let new = c.add_object.new.tallies in
    reading_gives 24 _
    (reading_then (λ m. IsMet l p m object old new false) c.in_ok-its.ensures c.in_ok-add_object-in-Some.ensures
    (λ m a b. record {
      classes = λ class. b class ∙ ap (λ o. tally_after l p m object o (get nat_cmp old) class) (sym c.in-Some.is ∙ a);
      lost_is = ap (λ o. is_none o) (sym c.in-Some.is ∙ a);
    }))
    (omega arith) (λ m h. h)
