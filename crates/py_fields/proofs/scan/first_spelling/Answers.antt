use Rattle.std.proofs.Common.{◌≡◌, ◌∙◌, None, [], refl, ap, ⊎_elim, arith, length}
use Rattle.std.proofs.Math.ListN.{drop_of_length-le}
use Rattle.std.proofs.lemmas.Bool.{cases_lt}
use Rattle.py_fields.specs.Fronts.{spelled}
use Rattle.py_fields.proofs.scan.first_spelling.Goals as goal

-- where no byte is left no version stands
nothing : spelled [] ≡ None
unfolding spelled
nothing = refl

pub returns : goal.returns
returns c = λ k. ⊎_elim (λ lt. c.loop-place.invariant k (omega (arith, lt, c.loop-place-test.false, c.loop-place.auto.place-end)))
    (λ past. ap spelled (drop_of_length-le c.args.bytes.now past) ∙ nothing) (cases_lt k (length c.args.bytes.now))
