-- Texts and bytes in quotes, as CPython's `repr` writes them: `unicode_repr` (Objects/unicodeobject.c) and
-- `PyBytes_Repr` (Objects/bytesobject.c); of Python 2.7 `PyString_Repr` (Objects/stringobject.c) and
-- `unicodeescape_string`. Which characters can be printed is Unicode's to say; a version's own Unicode may lack the
-- newest.
use Rattle.std.specs.Prelude.{ℕ, ◌-◌, ◌&&◌, ◌||◌, ◌==◌, ◌++◌, not, nat_eq, nat_le, nat_lt, Bool, true, false, Option}
use Rattle.std.specs.Prelude.{Some, None}
use Rattle.std.specs.Prelude.{List, [], ◌∷◌, length, replicate, codes, if◌then◌else◌, encode_utf8}
use Rattle.std.specs.Fmt.{digits}
use Rattle.std.specs.List.{flat_map, list_any}
use lib.Utf8.{scalar}
use Rattle.ucd_category.specs.GeneralCategory.{general_category}
use Rattle.ucd_category.specs.GeneralCategoryGroup.{in_group}
use Rattle.ucd_category.specs.declared.GeneralCategoryGroup.TheVariants.{Other, Separator}
use Rattle.python_literals.specs.declared.quotes.Style.{Style}
use Rattle.python_literals.specs.declared.quotes.Style.TheVariants.{Printable, Ascii, ByteArray}

-- a character can be printed (`str.isprintable`): it is the blank, or of neither of the groups
abbrev pub is_printable : ℕ → Bool
is_printable c = c == 32 || not (in_group Other (general_category c) || in_group Separator (general_category c))

-- a code point stands for itself; a surrogate is no character
abbrev pub stands_plain : Style → ℕ → Bool
stands_plain Printable c = scalar c && is_printable c
stands_plain Ascii c = nat_le 32 c && nat_lt c 127
stands_plain ByteArray c = nat_le 32 c && nat_lt c 127

-- an apostrophe is escaped within double quotes too: in a bytearray (Objects/bytearrayobject.c, `bytearray_repr`)
abbrev pub escapes_apostrophe : Style → Bool
escapes_apostrophe Printable = false
escapes_apostrophe Ascii = false
escapes_apostrophe ByteArray = true

-- what stands behind a backslash for a code point that has a short form: the quote and the backslash itself, and t, n,
-- r for the tab, the line feed and the carriage return
abbrev pub short_of : Style → ℕ → ℕ → Option ℕ
short_of style quote c =
    if c == quote || c == 92 then Some c
    else if escapes_apostrophe style && c == 39 then Some c
    else if c == 9 then Some 116
    else if c == 10 then Some 110
    else if c == 13 then Some 114
    else None

-- a number in so many hexadecimal digits at least
unfoldable pub hex_of : ℕ → ℕ → List ℕ
hex_of n x = replicate (n - length (digits 16 false x)) 48 ++ digits 16 false x

-- a code point by its number, in two, four or eight hexadecimal digits
abbrev pub hex_text : ℕ → List ℕ
hex_text c =
    if nat_lt c 0x100 then codes "\\x" ++ hex_of 2 c
    else if nat_lt c 0x1_0000 then codes "\\u" ++ hex_of 4 c
    else codes "\\U" ++ hex_of 8 c

-- a character as it is, where it is shown plain, else by its number (`\x`, `\u`, `\U`)
abbrev pub long_text : Style → ℕ → List ℕ
long_text style c = if stands_plain style c then encode_utf8 c else hex_text c

-- a character, or its short escape behind `\`
abbrev pub text_by : Style → ℕ → Option ℕ → List ℕ
text_by style c None = long_text style c
text_by style c (Some short) = 92 ∷ encode_utf8 short

-- the bytes of a code point in such quotes
unfoldable pub point_text : Style → ℕ → ℕ → List ℕ
point_text style quote c = text_by style c (short_of style quote c)

-- whether a text has this character
abbrev pub has : ℕ → List ℕ → Bool
has c points = list_any (λ p. nat_eq p c) points

-- the quote: an apostrophe, unless the text has one and no double quote
abbrev pub quote_of : List ℕ → ℕ
quote_of points = if has 39 points && not (has 34 points) then 34 else 39

-- the bytes of code points within quotes
unfoldable pub points_text : Style → ℕ → List ℕ → List ℕ
points_text style quote points = flat_map (point_text style quote) points

-- code points in quotes
unfoldable pub quoted : Style → List ℕ → List ℕ
quoted style points = quote_of points ∷ (points_text style (quote_of points) points ++ quote_of points ∷ [])
