-- How many bytes a text's object takes. It is as long as its record, or as its characters behind that.
use Rattle.std.specs.Prelude.{ℕ, ◌+◌, ◌*◌, ◌/◌, max, nat_lt, Bool, true, List, length, if◌then◌else◌, unwrap_or}
use Rattle.std.specs.Prelude.{encode_utf8_all}
use Rattle.std.specs.List.{list_all}
use Rattle.py_fields.specs.declared.layout.Layout.{Layout}
use Rattle.py_fields.specs.declared.layout.Strings.{Strings}
use Rattle.py_fields.specs.declared.layout.Strings.TheVariants.{State, Bytes}

-- the next multiple of 16
abbrev pub rounded : ℕ → ℕ
rounded n = (n + 15) / 16 * 16

-- whether all characters are below a limit
abbrev pub all_under : ℕ → List ℕ → Bool
all_under limit cs = list_all (λ c. nat_lt c limit) cs

-- a text whose characters are written in UTF-8, behind the shorter head: an ASCII text, or one without a state
abbrev pub is_short_headed : Strings → List ℕ → Bool
is_short_headed State cs = all_under 0x80 cs
is_short_headed Bytes cs = true

-- how many bytes each character of another text takes: as few as serve for all of them
abbrev pub least_width : List ℕ → ℕ
least_width cs = if all_under 0x100 cs then 1 else (if all_under 0x1_0000 cs then 2 else 4)

-- where the characters begin in the object
abbrev pub characters_start : Layout → List ℕ → ℕ
characters_start l cs = if is_short_headed l.strings cs then l.string.short_at else unwrap_or l.string.long_at 0

-- how many bytes they take
abbrev pub characters_len : Layout → List ℕ → ℕ
characters_len l cs =
    if is_short_headed l.strings cs then length (encode_utf8_all cs) else least_width cs * length cs

-- the bytes of a text's object: its record, or up to the end of its characters
unfoldable pub text_len : Layout → List ℕ → ℕ
text_len l cs = max (max l.string.size l.object.size) (characters_start l cs + characters_len l cs)
