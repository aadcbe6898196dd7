-- Texts of parts.
use Rattle.std.specs.Prelude.{ℕ, ◌++◌, false, List, map, codes, decimal}
use Rattle.std.specs.Fmt.{digits, signed_decimal}
use Rattle.std.specs.List.{concat}
use Rattle.core_texts.specs.declared.part.Part.{Part}
use Rattle.core_texts.specs.declared.part.Part.TheVariants.{Text, Bytes, Address, Decimal, Signed}

-- an address, as in 0x1f
abbrev pub address_text : ℕ → List ℕ
address_text n = codes "0x" ++ digits 16 false n

-- the bytes of a part
abbrev pub part_bytes : Part → List ℕ
part_bytes (Text text) = text.now
part_bytes (Bytes bytes) = bytes.now
part_bytes (Address n) = address_text n
part_bytes (Decimal n) = decimal n
part_bytes (Signed n) = signed_decimal n

-- the bytes of parts, one after another
abbrev pub said : List Part → List ℕ
said parts = concat (map (λ part. part_bytes part) parts)
