use Rattle.std.proofs.Common.{◌≡◌, ◌<◌, ◌++◌, ◌∷◌, ◌+◌, ℕ, List, [], length, map, take, get_or, ap, sym, ◌∙◌}
use Rattle.std.proofs.lemmas.Grind.{flat_map-append}
use Rattle.std.proofs.lemmas.List.{append-nil, take_all, take_more}
use Rattle.py_fronts.specs.declared.salvaged.SalvagedInterpreter.{SalvagedInterpreter}
use Rattle.paired_stacks.specs.Walked.{walked_of, walked_threads, walked_in}
use Rattle.paired_stacks.proofs.walked.walked_threads.Goals as goal

-- the threads of one interpreter more
one_more : (is : List SalvagedInterpreter) (i : ℕ) (x d : SalvagedInterpreter) → i < length is → x ≡ get_or is i d
    → walked_threads (take i is) ++ walked_in x ≡ walked_threads (take (i + 1) is)
one_more is i x d less at =
    ap (λ own. walked_threads (take i is) ++ own) (ap walked_in at ∙ sym (append-nil (walked_in (get_or is i d))))
    ∙ sym (flat_map-append walked_in (take i is) (get_or is i d ∷ []))
    ∙ ap walked_threads (sym (take_more is i d less))

pub loop-interpreter-init : goal.loop-interpreter-init
loop-interpreter-init c = c.new-walked.ensures.items

pub loop-interpreter-preserved : goal.loop-interpreter-preserved
loop-interpreter-preserved c =
    c.in_ok-extend_from_slice.ensures.items
    ∙ ap (λ own. c.loop-interpreter.walked.items ++ own) (c.deref-in-loop-interpreter.ensures.value
    ∙ c.in_ok-own.ensures ∙ ap (map walked_of) c.deref.ensures.value)
    ∙ ap (λ before. before ++ walked_in c.interpreter-item.result) c.loop-interpreter.invariant
    ∙ one_more c.args.interpreters.now c.loop-interpreter.interpreter-index c.interpreter-item.result
    c.interpreter-item.result
    c.loop-interpreter-test.true c.interpreter-item.is

pub returns : goal.returns
returns c = c.loop-interpreter.invariant
    ∙ ap walked_threads (take_all c.loop-interpreter.interpreter-index c.args.interpreters.now
    c.loop-interpreter-test.false)
