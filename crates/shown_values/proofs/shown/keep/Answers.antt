use Rattle.std.proofs.Common.{sym, subst}
use Rattle.py_reprs.specs.Trees.{tree_of}
use Rattle.shown_values.specs.Values.{Keeps}
use Rattle.shown_values.proofs.Keeping.{keeps_both, keeps_text, on_ok}
use Rattle.shown_values.proofs.shown.keep.Goals as goal

pub returns-then-json : goal.returns-then-json
returns-then-json c =
    on_ok c.keep_json.result
    (λ k. subst (λ json. Keeps json c.args.addr (tree_of c.args.value.now) c.args.shown.now c.keep_json.new.self)
    (sym c.if-json.true)
    (keeps_both c.args.addr (tree_of c.args.value.now) c.args.shown.now c.keep_text.new.self c.keep_json.new.self
    c.in_ok-keep_text.ensures k)) c.keep_json.ensures

pub returns : goal.returns
returns c =
    subst (λ json. Keeps json c.args.addr (tree_of c.args.value.now) c.args.shown.now c.keep_text.new.self)
    (sym c.if-json.false)
    (keeps_text c.args.addr (tree_of c.args.value.now) c.args.shown.now c.keep_text.new.self c.in_ok-keep_text.ensures)
