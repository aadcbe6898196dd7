use Rattle.shown_values.proofs.Keeping.{on_ok}
use Rattle.shown_values.proofs.shown.keep_one.Goals as goal

pub returns : goal.returns
returns c =
    on_ok c.keep_type.result
    (λ k. record { between = c.keep_found.new.shown; found = c.in_ok-keep_found.ensures; named = k })
    c.keep_type.ensures
