use Rattle.std.proofs.Common.{◌≡◌, ◌<◌, ◌++◌, ◌∷◌, ◌+◌, ℕ, List, [], length, map, take, get_or, ap, sym, ◌∙◌}
use Rattle.std.proofs.lemmas.Grind.{flat_map-append}
use Rattle.std.proofs.lemmas.List.{append-nil, take_all, take_more}
use Rattle.py_fronts.specs.declared.salvaged.SalvagedInterpreter.{SalvagedInterpreter}
use Rattle.memory_sections.specs.Pythons.{python_thread, python_threads, threads_of}
use Rattle.memory_sections.proofs.pythons.python_threads.Goals as goal

-- the threads of one interpreter more
one_more : (is : List SalvagedInterpreter) (i : ℕ) (x d : SalvagedInterpreter) → i < length is → x ≡ get_or is i d
    → python_threads (take i is) ++ threads_of x ≡ python_threads (take (i + 1) is)
one_more is i x d less at =
    ap (λ own. python_threads (take i is) ++ own) (ap threads_of at ∙ sym (append-nil (threads_of (get_or is i d))))
    ∙ sym (flat_map-append threads_of (take i is) (get_or is i d ∷ []))
    ∙ ap python_threads (sym (take_more is i d less))

pub loop-interpreter-init : goal.loop-interpreter-init
loop-interpreter-init c = c.new-threads.ensures.items

pub loop-interpreter-preserved : goal.loop-interpreter-preserved
loop-interpreter-preserved c =
    c.in_ok-extend_from_slice.ensures.items
    ∙ ap (λ own. c.loop-interpreter.threads.items ++ own) (c.deref-in-loop-interpreter.ensures.value
    ∙ c.in_ok-own.ensures ∙ ap (map python_thread) c.deref.ensures.value)
    ∙ ap (λ before. before ++ threads_of c.interpreter-item.result) c.loop-interpreter.invariant
    ∙ one_more c.args.interpreters.now c.loop-interpreter.interpreter-index c.interpreter-item.result
    c.interpreter-item.result
    c.loop-interpreter-test.true c.interpreter-item.is

pub returns : goal.returns
returns c = c.loop-interpreter.invariant
    ∙ ap python_threads (take_all c.loop-interpreter.interpreter-index c.args.interpreters.now
    c.loop-interpreter-test.false)
