use Rattle.std.proofs.Common.{ap, sym, ◌∙◌}
use Rattle.std.specs.Prelude.{bytes_eq, option_copied}
use Rattle.py_selftest.specs.Members.{is_named, is_text}
use Rattle.py_selftest.proofs.members.is_named.Goals as goal

pub returns-in-Some : goal.returns-in-Some
unfolding is_named
returns-in-Some c =
    c.eq.ensures ∙ ap (bytes_eq c.in-Some.text.now) c.as_bytes.ensures.value
    ∙ ap (is_text c.args.name.now) (ap option_copied (sym c.in-Some.is) ∙ c.until_nul.ensures)

pub returns-in-None : goal.returns-in-None
unfolding is_named
returns-in-None c = ap (is_text c.args.name.now) (ap option_copied (sym c.in-None.is) ∙ c.until_nul.ensures)
