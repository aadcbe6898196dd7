-- Names in BPF's type information.
use Rattle.std.specs.Prelude.{ℕ, ◌+◌, nat_le, if◌then◌else◌, List, length, slice_range, Option, Some, None}
use Rattle.elf64_core.specs.Sections.{string_in}
use Rattle.normalize_core.specs.declared.btf.btf_header.{btf_header}

-- where the strings begin and end
abbrev pub strings_start : btf_header → ℕ
strings_start header = header.hdr_len + header.str_off

-- where the strings of a BTF section end, in bytes (Linux, Documentation/bpf/btf.rst)
abbrev pub strings_end : btf_header → ℕ
strings_end header = strings_start header + header.str_len

-- the strings, where they lie in the bytes
abbrev pub strings_in : btf_header → List ℕ → Option (List ℕ)
strings_in header bytes = if nat_le (strings_end header) (length bytes)
    then Some (slice_range bytes (strings_start header) (strings_end header)) else None

-- the name at an offset of the strings: up to the next nul
abbrev pub btf_name_in : btf_header → List ℕ → ℕ → Option (List ℕ)
btf_name_in header bytes offset = string_in (strings_in header bytes) offset
