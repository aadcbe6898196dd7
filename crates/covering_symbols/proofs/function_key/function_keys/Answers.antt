use Rattle.covering_symbols.proofs.Keys.{keys_more, fit_more, fit_done}
use Rattle.covering_symbols.proofs.function_key.function_keys.Goals as goal

pub loop-number-preserved : goal.loop-number-preserved
loop-number-preserved c = record {
  keys = keys_more _ c.args.symbols.now c.loop-number.number _ c.loop-number.keys.items c.add_key.new.keys.items c.loop-number-test.true
      c.loop-number.invariant.keys c.in_ok-add_key.ensures.added;
  fit = fit_more _ c.args.symbols.now c.loop-number.number c.loop-number-test.true c.add_key.ensures.fit c.loop-number.invariant.fit;
}

pub returns-clause-fit : goal.returns-clause-fit
returns-clause-fit c = fit_done c.args.symbols.now c.loop-number.number c.loop-number-test.false c.loop-number.invariant.fit
