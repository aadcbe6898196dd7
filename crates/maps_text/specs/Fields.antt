-- The fields of a line.
use Rattle.std.specs.Prelude.{ℕ, ◌==◌, ◌&&◌, Bool, nat_lt, nat_le, List, length, take, drop, ◌-◌}
use Rattle.std.specs.List.{list_all, before_first, after_first, position_or_len, prefix_len, suffix_len}
use Rattle.std.specs.Char.{digit_value, is_ascii_whitespace}

-- some byte passes the test
abbrev pub has_any : (ℕ → Bool) → List ℕ → Bool
has_any p s = nat_lt (position_or_len p s) (length s)

-- there is ASCII white space
abbrev pub has_white : List ℕ → Bool
has_white = has_any is_ascii_whitespace

-- what stands before the first white space
abbrev pub field : List ℕ → List ℕ
field = before_first is_ascii_whitespace

-- what stands behind the first white space
abbrev pub behind : List ℕ → List ℕ
behind = after_first is_ascii_whitespace

-- whether a byte is `-`
abbrev pub is_dash : ℕ → Bool
is_dash byte = byte == 45

-- whether a field has a `-`
abbrev pub has_dash : List ℕ → Bool
has_dash = has_any is_dash

-- what stands before the first `-`
abbrev pub before_dash : List ℕ → List ℕ
before_dash = before_first is_dash

-- what stands behind the first `-`
abbrev pub after_dash : List ℕ → List ℕ
after_dash = after_first is_dash

-- a hexadecimal digit of either case
abbrev pub is_hex : ℕ → Bool
is_hex byte = nat_lt (digit_value byte) 16

-- 1 to 16 hexadecimal digits
abbrev pub is_number : List ℕ → Bool
is_number digits = nat_lt 0 (length digits) && (nat_le (length digits) 16 && list_all is_hex digits)

-- without the ASCII white space at its start and its end
abbrev pub trimmed : List ℕ → List ℕ
trimmed s =
    let t = drop (prefix_len is_ascii_whitespace s) s in
    take (length t - suffix_len is_ascii_whitespace t) t
