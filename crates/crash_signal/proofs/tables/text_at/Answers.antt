use Rattle.std.proofs.Common.{◌≡◌, ◌∙◌, Option, Some, None, sym, ap, rules}
use Rattle.std.specs.Prelude.{find, option_map}
use Rattle.std.specs.Ordering.{int_eq}
use Rattle.crash_signal.specs.declared.tables.Word as code
use Rattle.crash_signal.proofs.Found.{words}
use Rattle.crash_signal.proofs.tables.text_at.Goals as goal

pub returns-in-Some : goal.returns-in-Some
returns-in-Some c =
    let here : Some c.in-Some.word.now ≡ find (λ w. int_eq w.number c.args.number) c.args.words.now = search rules in
    ap (option_map (λ (w : code.Word). w.text.now)) here ∙ sym (words c.args.words.now c.args.number)

pub returns-in-None : goal.returns-in-None
returns-in-None c =
    let here : ◌≡◌ {A = Option code.Word} None (find (λ w. int_eq w.number c.args.number) c.args.words.now)
    = search rules in
    ap (option_map (λ (w : code.Word). w.text.now)) here ∙ sym (words c.args.words.now c.args.number)
