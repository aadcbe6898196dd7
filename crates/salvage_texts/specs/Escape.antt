-- Names and values within a line: what could end the line, or be taken for a quote, is escaped as Rust's literals have
-- it. Control characters are Unicode's category Cc; ends of
-- lines and paragraphs (Zl, Zp) are escaped too.
use Rattle.std.specs.Prelude.{ℕ, nat_eq, nat_le, nat_lt, not, ◌&&◌, ◌||◌, ◌++◌, Bool, false, if◌then◌else◌, List, codes}
use Rattle.std.specs.Prelude.{encode_utf8}
use Rattle.std.specs.Fmt.{digits}
use Rattle.std.specs.List.{flat_map}

-- whether a character is a control (Unicode's Cc), or separates lines or paragraphs (U+2028, U+2029)
abbrev pub is_control : ℕ → Bool
is_control c = nat_lt c 32 || (nat_le 127 c && nat_lt c 160) || nat_eq c 0x2028 || nat_eq c 0x2029

-- a character stands for itself; in a name neither a quote nor a backslash does
abbrev pub stands_plain : Bool → ℕ → Bool
stands_plain is_name c = if is_control c then false else not (is_name && (nat_eq c 34 || nat_eq c 92))

-- a character in UTF-8, or its escape: `\u{..}` with lower-case hexadecimal digits
abbrev pub escaped_character : Bool → ℕ → List ℕ
escaped_character is_name c =
    if stands_plain is_name c then encode_utf8 c else codes "\\u{" ++ (digits 16 false c ++ codes "}")

-- the bytes of a name or a value
unfoldable pub escaped : Bool → List ℕ → List ℕ
escaped is_name text = flat_map (escaped_character is_name) text
