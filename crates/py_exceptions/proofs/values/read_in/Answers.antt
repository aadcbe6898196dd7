use Rattle.std.proofs.Common.{◌-◌, ◌∙◌, ap, arith}
use Rattle.process_memory.proofs.Reading.{reading_gives}
use Rattle.py_exceptions.specs.ValueLists.{first_values, values_in, values_with}
use Rattle.py_exceptions.proofs.values.read_in.Goals as goal

pub returns : goal.returns
unfolding values_in
returns g c = reading_gives 96 _ c.in_ok-values.ensures (omega (arith, c.told_count-count.ensures.few))
    (λ m h. ap (λ xs. values_with xs (c.args.items.now.count - c.told_count-count.result)) h
    ∙ ap (λ n. values_with (first_values c.args.layout.now m c.args.items.now n) (c.args.items.now.count - n))
    c.told_count-count.ensures.value)
