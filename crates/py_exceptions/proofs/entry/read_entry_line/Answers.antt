use Rattle.std.proofs.Common.{◌≡◌, false, of_z, rules, sym, to_z, true, ◌∙◌}
use Rattle.std.specs.Int.{w32}
use Rattle.std.proofs.lemmas.Int.{to_z-of_z}
use Rattle.process_memory.proofs.Reading.{reads_end}
use Rattle.py_exceptions.specs.Frames.{is_lazy, line_found_at}
use Rattle.py_exceptions.proofs.entry.read_entry_line.Goals as goal

pub returns-then-lazy : goal.returns-then-lazy
unfolding line_found_at
returns-then-lazy g c =
    let is : is_lazy c.args.point.now ≡ true = sym c.is_lazy-lazy.ensures ∙ c.if-lazy.true in
    rw is c.read_lazy_line.ensures

pub returns : goal.returns
unfolding line_found_at
returns g c =
    let not : is_lazy c.args.point.now ≡ false = sym c.is_lazy-lazy.ensures ∙ c.if-lazy.false in
    let id : to_z w32 (of_z w32 c.args.point.now.line) ≡ c.args.point.now.line = to_z-of_z w32 _ (search rules) in
    rw not (reads_end 2 (sym id))
