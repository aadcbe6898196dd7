-- Names of types, functions and files within a value's text. That a name which could be taken for more than a name
-- stands in quotes is this project's rule.
use Rattle.std.specs.Prelude.{ℕ, ◌==◌, nat_eq, ◌&&◌, ◌||◌, not, Bool, false, Option, Some, None, if◌then◌else◌, List}
use Rattle.std.specs.Prelude.{[], ◌++◌, codes, length}
use Rattle.std.specs.Prelude.{encode_utf8_all}
use Rattle.std.specs.Fmt.{digits}
use Rattle.std.specs.List.{list_all}
use Rattle.python_literals.specs.Quotes.{is_printable, quoted}
use Rattle.python_literals.specs.declared.quotes.Style.TheVariants.{Printable}

-- a character that can't end a name: it can be printed, and is no blank and no quote
abbrev pub is_name_character : ℕ → Bool
is_name_character c = is_printable c && not (c == 32 || (c == 34 || c == 39))

-- whether a name can't be taken for more than a name: it has characters, and each can't end it
abbrev pub is_name : List ℕ → Bool
is_name name = not (length name == 0) && list_all is_name_character name

-- a name as it is, or in quotes where it could be taken for more
abbrev pub name_known : List ℕ → List ℕ
name_known name = if is_name name then encode_utf8_all name else quoted Printable name

-- a name, or a question mark where it isn't known
abbrev pub name_text : Option (List ℕ) → List ℕ
name_text None = codes "?"
name_text (Some name) = name_known name

-- a name in quotes
abbrev pub quoted_name : Option (List ℕ) → List ℕ
quoted_name None = codes "?"
quoted_name (Some name) = quoted Printable name

-- an address behind ` at 0x`, in lower-case hexadecimal digits
abbrev pub address_text : ℕ → List ℕ
address_text addr = codes " at 0x" ++ digits 16 false addr
