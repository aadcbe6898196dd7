use Rattle.std.proofs.Common.{◌∙◌}
use Rattle.std.proofs.Math.Nat.{le_refl}
use Rattle.std.proofs.lemmas.Result.{err_from_is_err_and}
use Rattle.process_memory.proofs.Reading.{reading_gives}
use Rattle.py_process.specs.Candidates.{head_by}
use Rattle.py_process.specs.Facts.{known_of}
use Rattle.py_process.proofs.Searches.{one_failed, one_found, one_lost}
use Rattle.py_process.proofs.head.first_of_head.Goals as goal

pub returns-in_err-is_interpreter_in : goal.returns-in_err-is_interpreter_in
returns-in_err-is_interpreter_in g c =
    let p = err_from_is_err_and c.from_residual-in_err-is_interpreter_in.result c.from_residual-in_err-is_interpreter_in.ensures.1 in
    let info = c.args.info.now in
    let l = c.args.layout.now in
    rw p.1 (one_lost (g.M.ContainsAddr.contains info.maps) l 2 (head_by l.head (known_of info) c.args.version.now l) c.in_ok-addr.field-0 c.in-Some.addr c.in_err-is_interpreter_in.field-0.0 p.0 p.2 c.in-Some.is c.in_ok-addr.ensures c.in_err-is_interpreter_in.ensures)

pub returns-then-branch : goal.returns-then-branch
returns-then-branch g c =
    let info = c.args.info.now in
    let l = c.args.layout.now in
    one_found (g.M.ContainsAddr.contains info.maps) l 2 (head_by l.head (known_of info) c.args.version.now l) c.in_ok-addr.field-0 c.in-Some.addr c.in-Some.is c.in_ok-addr.ensures
    (reading_gives _ _ c.in_ok-is_interpreter_in.ensures (le_refl _) (λ m e. e ∙ c.if-branch.true))

pub returns : goal.returns
returns g c =
    let info = c.args.info.now in
    let l = c.args.layout.now in
    one_failed (g.M.ContainsAddr.contains info.maps) l 2 (head_by l.head (known_of info) c.args.version.now l) c.in_ok-addr.field-0 c.in-Some.addr c.in-Some.is c.in_ok-addr.ensures
    (reading_gives _ _ c.in_ok-is_interpreter_in.ensures (le_refl _) (λ m e. e ∙ c.if-branch.false))
