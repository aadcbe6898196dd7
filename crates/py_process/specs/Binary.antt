-- What the image of a binary says of the process that mapped it.
use Rattle.std.specs.Prelude.{◌≡◌, ℕ, List, Option, Some, None}
use Rattle.std.specs.Option.{option_or}
use Rattle.elf64_core.specs.Header.{IsAccepted}
use Rattle.py_process.specs.declared.binary.BinaryInfo.{BinaryInfo}
use Rattle.py_process.specs.declared.ranges.Ranges.{Ranges}
use Rattle.py_process.specs.declared.symbols.Place.{Place}
use Rattle.py_process.specs.Facts.{Facts, facts_of}
use Rattle.py_process.specs.Ranges.{AreRanges}
use Rattle.py_process.specs.Refusals.{HasBoth, HasRanges}
use Rattle.py_process.specs.SymbolMap.{AreAddresses, address_in}

-- where an image is mapped, how far it was moved, and where its bss ends
abbrev pub place_of : (addr size : ℕ) → Ranges → Place
place_of addr size ranges = record {
  addr = addr;
  size = size;
  offset = ranges.offset;
  bss_end = ranges.bss.end;
}

-- this is what an image says that is mapped at an address with a size
pub record SaysFacts (bytes : List ℕ) (addr size : ℕ) (facts : Facts) : Type 0 where
  pub accepted : IsAccepted bytes
  pub both : HasBoth bytes
  pub ranges : Ranges
  pub are_ranges : AreRanges bytes addr ranges
  pub bss_addr : facts.bss_addr ≡ ranges.bss.addr
  pub bss_size : facts.bss_size ≡ ranges.bss.size
  pub pyruntime_addr : facts.pyruntime_addr ≡ ranges.runtime_addr
  pub pyruntime_size : facts.pyruntime_size ≡ ranges.runtime_size
  pub addr_is : facts.addr ≡ addr
  pub size_is : facts.size ≡ size
  pub symbols : AreAddresses bytes (place_of addr size ranges) facts.symbols

-- the same of the struct that has it
abbrev pub IsInfo : List ℕ → (addr size : ℕ) → BinaryInfo → Type 0
IsInfo bytes addr size info = SaysFacts bytes addr size (facts_of info)

-- two say the same: the same numbers, and the same address for each name
pub record SaySame (one other : BinaryInfo) : Type 0 where
  pub bss_addr : one.bss_addr ≡ other.bss_addr
  pub bss_size : one.bss_size ≡ other.bss_size
  pub pyruntime_addr : one.pyruntime_addr ≡ other.pyruntime_addr
  pub pyruntime_size : one.pyruntime_size ≡ other.pyruntime_size
  pub addr : one.addr ≡ other.addr
  pub size : one.size ≡ other.size
  pub symbols : (name : List ℕ) → address_in one.symbols name ≡ address_in other.symbols name

-- an image that says something
pub record HasInfo (bytes : List ℕ) (addr : ℕ) : Type 0 where
  pub accepted : IsAccepted bytes
  pub ranges : HasRanges bytes addr
  pub both : HasBoth bytes

-- the address of a symbol of a binary, where there is one
abbrev pub symbol_of_binary : Option BinaryInfo → List ℕ → Option ℕ
symbol_of_binary None symbol = None
symbol_of_binary (Some binary) symbol = address_in binary.symbols symbol

-- the program's, where it has one, else the library's
abbrev pub symbol_at : Option BinaryInfo → Option BinaryInfo → List ℕ → Option ℕ
symbol_at program library symbol = option_or (symbol_of_binary program symbol) (symbol_of_binary library symbol)
