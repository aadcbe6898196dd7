-- What an exception says: the rule by which it is told as a text, and its arguments (`args`, a tuple:
-- `PyBaseExceptionObject`, Include/cpython/pyerrors.h).
use Rattle.std.specs.Prelude.{ℕ, Option}
use Rattle.process_memory.specs.Memory.{Memory}
use Rattle.py_fields.specs.declared.layout.Layout.{Layout}
use Rattle.py_builtins.specs.declared.items.Sequence.TheVariants.{Tuple}
use Rattle.thread_exceptions.specs.declared.exception.Parts.{Parts}
use Rattle.py_exceptions.specs.declared.name.ClassPlaces.{ClassPlaces}
use Rattle.py_exceptions.specs.declared.rule.FieldPlaces.{FieldPlaces}
use Rattle.py_exceptions.specs.declared.rule.Rule.{Rule}
use Rattle.py_exceptions.specs.declared.said.Said.{Said}
use Rattle.py_exceptions.specs.Rules.{rule_at}
use Rattle.py_exceptions.specs.ValueLists.{ValuesShown, shown_if, values_at}

-- what an exception says: the rule by which it is told as a text, and its arguments
pub record SaidShown : Type 0 where
  pub rule : Rule
  pub arguments : Option ValuesShown

-- what an exception says, as the code has it
abbrev pub said_shown : Said → SaidShown
said_shown s = record { rule = s.rule; arguments = shown_if s.arguments }

-- what an exception says, from its parts
abbrev pub said_with : Rule → Option ValuesShown → SaidShown
said_with rule arguments = record { rule = rule; arguments = arguments }

-- what the exception at an address says, of which this is the record
unfoldable pub said_at : Layout → ClassPlaces → FieldPlaces → Memory → Parts → ℕ → SaidShown
said_at l classes p m parts at =
    said_with (rule_at l classes p m parts.class at) (values_at l m Tuple parts.args)
