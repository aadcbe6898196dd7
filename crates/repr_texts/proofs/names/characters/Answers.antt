use Rattle.std.proofs.Common.{◌≡◌, List, ℕ, subst, sym, rules}
use Rattle.std.specs.Prelude.{IfOk}
use Rattle.std.specs.Str.{chars}
use Rattle.std.proofs.lemmas.Str.{chars_from_encodes}
use Rattle.repr_texts.proofs.names.characters.Goals as goal

pub returns : goal.returns
returns c =
    let here : IfOk c.collect.result (λ found. found.items ≡ chars c.as_str.result.now) = search
    (rules, chars_from_encodes) in
    subst (λ (cs : List ℕ). IfOk c.collect.result (λ found. found.items ≡ cs))
    (sym (chars_from_encodes c.args.text.now c.as_str.result.now c.as_str.utf8 (sym c.as_str.ensures))) here
