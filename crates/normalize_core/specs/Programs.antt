-- The names of BPF programs, as a kernel shows them among its symbols.
use Rattle.std.specs.Prelude.{ℕ, ◌==◌, Bool, if◌then◌else◌, List, length, take, drop, codes, Option, None, option_map}
use Rattle.std.specs.List.{before_first}
use Rattle.std.specs.Str.{bytes_eq}
use Rattle.normalize_core.specs.Tags.{tag_of}

-- what the names begin with
abbrev pub prefix : List ℕ
prefix = codes "bpf_prog_"

-- whether a byte is `_`
abbrev pub is_underscore : ℕ → Bool
is_underscore byte = byte == 95

-- the tag in a name: behind the prefix, up to the next `_` or the end
abbrev pub named_tag : List ℕ → Option (List ℕ)
named_tag name =
    if bytes_eq (take (length prefix) name) prefix
    then tag_of (before_first is_underscore (drop (length prefix) name)) else None

-- a program: its address, the bytes of its name, and those of its tag
pub record Prog : Type 0 where
  pub addr : ℕ
  pub name : List ℕ
  pub tag : List ℕ

-- the program of a name
abbrev pub prog_of : List ℕ → ℕ → Option Prog
prog_of name addr = option_map (λ tag. record { addr = addr; name = name; tag = tag }) (named_tag name)
