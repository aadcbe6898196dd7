use Rattle.std.proofs.Common.{◌∙◌, ap, arith, codes, sym}
use Rattle.std.specs.Prelude.{string_bytes}
use Rattle.std.specs.Str.{chars}
use Rattle.std.proofs.lemmas.Str.{chars-IsAscii}
use Rattle.std.proofs.lemmas.Str.Ascii.{IsAscii-nil}
use Rattle.py_process.specs.Sources.{flags_of}
use Rattle.py_process.proofs.Flags.{a_ascii, b_ascii, other_level, rc_ascii, written}
use Rattle.py_process.proofs.python_version.flags_of.Goals as goal
use Rattle.py_process.proofs.python_version.flags_of.Goals.{in-10+in_ok-text-in-10, in-11+in_ok-text-in-11}
use Rattle.py_process.proofs.python_version.flags_of.Goals.{in-12+in_ok-text-in-12, in_default}

pub returns : goal.returns
returns c = elim c.match-level.branch [
  | in-10+in_ok-text-in-10 w ↦ c.in_ok-shared.ensures ∙ ap (λ t. chars (string_bytes t)) w.text-is ∙ written _ (codes "a") c.args.serial a_ascii c.requires w.in_ok-text-in-10.ensures.ok ∙ ap (λ l. flags_of l c.args.serial) (sym w.in-10.is)
  | in-11+in_ok-text-in-11 w ↦ c.in_ok-shared.ensures ∙ ap (λ t. chars (string_bytes t)) w.text-is ∙ written _ (codes "b") c.args.serial b_ascii c.requires w.in_ok-text-in-11.ensures.ok ∙ ap (λ l. flags_of l c.args.serial) (sym w.in-11.is)
  | in-12+in_ok-text-in-12 w ↦ c.in_ok-shared.ensures ∙ ap (λ t. chars (string_bytes t)) w.text-is ∙ written _ (codes "rc") c.args.serial rc_ascii c.requires w.in_ok-text-in-12.ensures.ok ∙ ap (λ l. flags_of l c.args.serial) (sym w.in-12.is)
  | in_default w ↦ c.in_ok-shared.ensures ∙ ap (λ t. chars (string_bytes t)) w.text-is ∙ ap chars w.new-text.ensures.bytes ∙ chars-IsAscii _ IsAscii-nil ∙ other_level c.args.level c.args.serial (omega arith) (omega arith) (omega arith)
]
