use Rattle.std.proofs.Common.{◌≡◌, ◌<◌, ◌++◌, ◌∷◌, ◌+◌, ℕ, List, [], length, map, take, get_or, ap, sym, ◌∙◌}
use Rattle.std.proofs.lemmas.Grind.{flat_map-append}
use Rattle.std.proofs.lemmas.List.{append-nil, take_all, take_more}
use Rattle.py_fronts.specs.declared.salvaged.SalvagedInterpreter.{SalvagedInterpreter}
use Rattle.salvage_report.specs.LayoutChecked.{places_of, thread_place, thread_places}
use Rattle.salvage_report.proofs.layout_check.thread_places.Goals as goal

-- the threads of one interpreter more
one_more : (is : List SalvagedInterpreter) (i : ℕ) (x d : SalvagedInterpreter) → i < length is → x ≡ get_or is i d
    → thread_places (take i is) ++ places_of x ≡ thread_places (take (i + 1) is)
one_more is i x d less at =
    ap (λ own. thread_places (take i is) ++ own) (ap places_of at ∙ sym (append-nil (places_of (get_or is i d))))
    ∙ sym (flat_map-append places_of (take i is) (get_or is i d ∷ []))
    ∙ ap thread_places (sym (take_more is i d less))

pub loop-interpreter-init : goal.loop-interpreter-init
loop-interpreter-init c = c.new-places.ensures.items

pub loop-interpreter-preserved : goal.loop-interpreter-preserved
loop-interpreter-preserved c =
    c.in_ok-add_places.ensures
    ∙ ap (λ own. c.loop-interpreter.places.items ++ map (thread_place c.interpreter-item.result.front.address) own) c.deref.ensures.value
    ∙ ap (λ before. before ++ places_of c.interpreter-item.result) c.loop-interpreter.invariant
    ∙ one_more c.args.interpreters.now c.loop-interpreter.interpreter-index c.interpreter-item.result
    c.interpreter-item.result
    c.loop-interpreter-test.true c.interpreter-item.is

pub returns : goal.returns
returns c = c.loop-interpreter.invariant
    ∙ ap thread_places (take_all c.loop-interpreter.interpreter-index c.args.interpreters.now
    c.loop-interpreter-test.false)
