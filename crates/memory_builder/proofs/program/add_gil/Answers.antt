use Rattle.std.proofs.Common.{◌≡◌, ◌++◌, ℕ, [], ◌∷◌, append-nil, subst, sym}
use Rattle.std.specs.Prelude.{IfOk}
use Rattle.py_fields.specs.Places.{gil_places}
use Rattle.py_fields.specs.Sound.{IsRecord}
use Rattle.py_fields.proofs.Fields.{some_is}
use Rattle.memory_builder.specs.Laid.{laid_gil}
use Rattle.object_builder.specs.Objects.{aligned, object}
use Rattle.object_builder.specs.Objects.Value.{U32, U64}
use Rattle.memory_builder.proofs.program.add_gil.Goals as goal

pub returns-in_default : goal.returns-in_default
unfolding laid_gil
returns-in_default c = subst (λ o. c.args.out.now.items ≡ c.args.out.now.items
    ++ laid_gil o c.args.holder) (sym c.in_default.is) (sym (append-nil c.args.out.now.items))

pub add_object-requires-clause-inside : goal.add_object-requires-clause-inside
unfolding gil_places
add_object-requires-clause-inside c = (some_is c.args.gil (λ g. IsRecord g.size (gil_places g)) c.in-Some.at c.requires
    c.in-Some.is).group.inside

pub returns : goal.returns
unfolding laid_gil
returns c =
    let at = c.in-Some.at in
    subst (λ o. IfOk c.add_object.result (λ _. c.add_object.new.out.items ≡ c.args.out.now.items
    ++ laid_gil o c.args.holder)) (sym c.in-Some.is)
    (subst (λ (n : ℕ). IfOk c.add_object.result (λ _. c.add_object.new.out.items ≡ c.args.out.now.items
    ++ aligned (object at.size (record { at = at.locked; value = U32 n }
    ∷ record { at = at.holder; value = U64 c.args.holder } ∷ [])))) c.is_held.ensures c.add_object.ensures)
