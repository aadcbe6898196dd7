-- The names of attributes within a value's text: an identifier stands as it is, and any other name as the text of its
-- value, so that nothing is forged. Which bytes an identifier has is this project's rule, and wider than Python's behind
-- ASCII: what can't be printed is escaped by then.
use Rattle.std.specs.Prelude.{ℕ, ◌-◌, ◌==◌, ◌&&◌, ◌||◌, nat_le, not, Bool, if◌then◌else◌, List, drop, get_or, length, take}
use Rattle.std.specs.List.{list_all}
use Rattle.std.specs.Str.{is_utf8}

-- whether a byte is a decimal digit of ASCII
abbrev pub is_digit : ℕ → Bool
is_digit b = nat_le 48 b && nat_le b 57

-- a letter, a digit or the underscore of ASCII, or a byte of a character behind ASCII
unfoldable pub is_word_byte : ℕ → Bool
is_word_byte b = is_digit b || ((nat_le 65 b && nat_le b 90) || ((nat_le 97 b && nat_le b 122) || (b == 95 || nat_le 128 b)))

-- none of them but such bytes, and the first is there and no digit
unfoldable pub is_identifier : List ℕ → Bool
is_identifier bytes = not (is_digit (get_or bytes 0 48)) && list_all is_word_byte bytes

-- what stands between the first byte and the last
unfoldable pub inner : List ℕ → List ℕ
inner bytes = take (length (drop 1 bytes) - 1) (drop 1 bytes)

-- whether a text is an identifier in single quotes
unfoldable pub is_quoted_identifier : List ℕ → Bool
is_quoted_identifier bytes =
    get_or bytes 0 0 == 39 && (get_or bytes (length bytes - 1) 0 == 39 && is_identifier (inner bytes))

-- the first bytes where they are UTF-8, and else the others
unfoldable pub utf8_or : List ℕ → List ℕ → List ℕ
utf8_or bytes other = if is_utf8 bytes then bytes else other

-- the name of an attribute by its text
unfoldable pub attribute_name : List ℕ → List ℕ
attribute_name text = if is_quoted_identifier text then utf8_or (inner text) text else text
