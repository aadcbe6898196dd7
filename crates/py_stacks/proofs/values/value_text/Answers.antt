use Rattle.std.proofs.Common.{ap, arith, rules}
use Rattle.std.specs.Prelude.{pos}
use Rattle.std.specs.Int.{w64}
use Rattle.std.proofs.lemmas.Int.{to_z-of_z}
use Rattle.py_objects.specs.Shows.{width_of}
use Rattle.py_stacks.proofs.ValueSteps.{value_told}
use Rattle.py_stacks.proofs.values.value_text.Goals as goal

pub returns : goal.returns
returns g c =
    let wide = ap width_of (to_z-of_z w64 (pos c.args.width) (search (rules, c.requires.narrow))) in
    value_told c.args.layout.now c.args.width c.args.addr c.format_variable-shown.new.visits c.format_variable-shown.result c.text_or_mark.result
    c.format_variable-shown.ensures.characters c.text_or_mark.ensures (omega arith) (rw wide at c.format_variable-shown.ensures.shown)
