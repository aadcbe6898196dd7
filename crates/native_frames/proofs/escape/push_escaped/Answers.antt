use Rattle.native_frames.proofs.Escapes.{no_quote, one_line}
use Rattle.native_frames.proofs.escape.push_escaped.Goals as goal

pub returns-in_err-chars-clause-one_line : goal.returns-in_err-chars-clause-one_line
returns-in_err-chars-clause-one_line c = one_line c.args.is_name c.args.shown.now

pub returns-in_err-chars-clause-no_quote : goal.returns-in_err-chars-clause-no_quote
returns-in_err-chars-clause-no_quote c = no_quote c.args.is_name c.args.shown.now

pub returns-in_err-push_character-clause-one_line : goal.returns-in_err-push_character-clause-one_line
returns-in_err-push_character-clause-one_line c = one_line c.args.is_name c.args.shown.now

pub returns-in_err-push_character-clause-no_quote : goal.returns-in_err-push_character-clause-no_quote
returns-in_err-push_character-clause-no_quote c = no_quote c.args.is_name c.args.shown.now

pub returns-clause-one_line : goal.returns-clause-one_line
returns-clause-one_line c = one_line c.args.is_name c.args.shown.now

pub returns-clause-no_quote : goal.returns-clause-no_quote
returns-clause-no_quote c = no_quote c.args.is_name c.args.shown.now
