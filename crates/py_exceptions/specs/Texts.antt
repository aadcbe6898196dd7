-- Texts, where there are some.
use Rattle.std.specs.Prelude.{ℕ, Option, List, Ok}
use Rattle.process_memory.specs.Memory.{Found, Memory}
use Rattle.py_fields.specs.declared.layout.Layout.{Layout}
use Rattle.py_builtins.specs.Texts.{text_at}
use Rattle.py_exceptions.specs.Faults.{known}

-- the text at an address, none where there is none
unfoldable pub text_or_none_at : Layout → Memory → ℕ → Found (Option (List ℕ))
text_or_none_at l m a = Ok (known (text_at l m a))
