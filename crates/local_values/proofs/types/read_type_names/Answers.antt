use Rattle.std.proofs.Common.{ap, arith}
use Rattle.std.specs.BTreeMap.{is_at}
use Rattle.std.specs.Map.{lookup}
use Rattle.std.specs.Ordering.{nat_cmp}
use Rattle.std.proofs.lemmas.Result.{err_from_is_err_and}
use Rattle.process_memory.proofs.Reading.{reading_gives}
use Rattle.local_values.specs.Types.{known_name}
use Rattle.local_values.proofs.Named.{naming_end, naming_lost, naming_more, naming_none}
use Rattle.local_values.proofs.types.read_type_names.Goals as goal

pub loop-number-init : goal.loop-number-init
loop-number-init g c =
    naming_none _ _ _ _ _ (λ a. ap (λ es. known_name (lookup (is_at (nat_cmp a)) es)) c.new-names.ensures.empty)

pub loop-number-preserved : goal.loop-number-preserved
loop-number-preserved g c =
    naming_more c.loop-number.invariant c.loop-number-test.true c.in_ok-name.ensures c.in_ok-keep_name.ensures

pub returns-in_err-name : goal.returns-in_err-name
returns-in_err-name g c =
    let p = err_from_is_err_and c.from_residual.result c.from_residual.ensures.1 in
    rw p.1 (reading_gives _ _ (naming_lost c.loop-number.invariant c.loop-number-test.true c.in_err-name.ensures)
    (omega arith) (λ m h. tt))

pub returns-in_err-keep_name : goal.returns-in_err-keep_name
returns-in_err-keep_name g c =
    let p = err_from_is_err_and c.from_residual-in_err-keep_name.result c.from_residual-in_err-keep_name.ensures.1 in
    rw p.1 (reading_gives _ _ (naming_lost c.loop-number.invariant c.loop-number-test.true c.in_ok-name.ensures)
    (omega arith) (λ m h. tt))

pub returns : goal.returns
returns g c = naming_end c.loop-number.invariant c.loop-number-test.false
