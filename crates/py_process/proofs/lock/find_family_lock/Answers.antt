use Rattle.std.proofs.Common.{◌∙◌, ap, sym, subst}
use Rattle.std.proofs.Math.Nat.{le_refl}
use Rattle.std.specs.Prelude.{Ok, codes, option_map}
use Rattle.process_memory.proofs.Reading.{reading_gives, reading_none}
use Rattle.py_process.specs.Facts.{known_of, symbol_known}
use Rattle.py_process.specs.Lock.{FoundIs, in_runtime}
use Rattle.py_process.proofs.Locks.{by_gil, by_runtime, by_symbol, symbol_found}
use Rattle.py_process.proofs.lock.find_family_lock.Goals as goal

pub returns-in-Gil-Some-clause-answer : goal.returns-in-Gil-Some-clause-answer
returns-in-Gil-Some-clause-answer g c =
    reading_gives _ _ c.read_lock.ensures.answer (le_refl _)
    (λ m h. subst (λ found. FoundIs found c.read_lock.result)
    (sym (by_gil c.args.machine (known_of c.args.info.now) c.args.version.now c.args.layout.now m c.args.interpreter _ c.in-Gil-Some.is-0 c.in-Gil-Some.is-1)) h)

pub returns-in-Runtime-default-clause-answer : goal.returns-in-Runtime-default-clause-answer
returns-in-Runtime-default-clause-answer g c =
    reading_none _ _ _ (λ m. subst (λ found. FoundIs found c.in_runtime.result)
    (ap (λ symbol. in_runtime symbol c.get_tstate_current_offset-offset.result) c.symbol.ensures
    ∙ ap (λ offset. in_runtime (symbol_known (known_of c.args.info.now) (codes "_PyRuntime")) offset) c.get_tstate_current_offset-offset.ensures
    ∙ sym (by_runtime c.args.machine (known_of c.args.info.now) c.args.version.now c.args.layout.now m c.args.interpreter c.in-Runtime-default.is-0))
    c.in_runtime.ensures.answer)

pub returns-in-Symbol-default-clause-answer : goal.returns-in-Symbol-default-clause-answer
returns-in-Symbol-default-clause-answer g c =
    reading_none _ _ _ (λ m. subst (λ found. FoundIs found (Ok c.symbol-in-Symbol-default.result))
    (ap (λ symbol. option_map (λ addr. Ok addr) symbol) c.symbol-in-Symbol-default.ensures
    ∙ sym (by_symbol c.args.machine (known_of c.args.info.now) c.args.version.now c.args.layout.now m c.args.interpreter c.in-Symbol-default.is-0))
    (symbol_found c.symbol-in-Symbol-default.result))
