-- The function that covers an address, as a greatest element of a list.
use Rattle.std.specs.Prelude.{◌≡◌, ◌⊎◌, ℕ, ◌+◌, ◌<◌, ◌≤◌, ◌-◌, nat_eq, nat_le, nat_lt, ◌&&◌, Bool, List, ◌++◌, []}
use Rattle.std.specs.Prelude.{Contains, Option, Some, None, option_map, option_and_then, slice_get}
use Rattle.std.specs.List.{enumerate_from, filter, find}
use Rattle.elf64_core.specs.Header.{load_kind}
use Rattle.elf64_core.specs.Symbols.{HasSymbols, SymbolEntry, symbols_of}
use Rattle.elf64_core.specs.declared.segment.Segment.{Segment}
use Rattle.elf64_core.specs.declared.symbol.SymbolKind.{SymbolKind}
use Rattle.elf64_core.specs.declared.symbol.SymbolKind.TheVariants.{Plain, Dynamic}
use Rattle.covering_symbols.specs.FunctionKeys.{is_function_info}

-- ---- the symbols of a file

-- the symbols of a kind, in table order; none where they can't be read
abbrev pub AreSymbolsOf : List ℕ → SymbolKind → List SymbolEntry → Type 0
AreSymbolsOf bytes kind symbols = (HasSymbols bytes kind × (symbols ≡ symbols_of bytes kind))
    ⊎ ((HasSymbols bytes kind → ⊥) × (symbols ≡ []))

-- the plain symbols of a file, and behind them the dynamic ones
pub record AreImageSymbols (bytes : List ℕ) (symbols : List SymbolEntry) : Type 0 where
  pub plain : List SymbolEntry
  pub dynamic : List SymbolEntry
  pub plain_are : AreSymbolsOf bytes Plain plain
  pub dynamic_are : AreSymbolsOf bytes Dynamic dynamic
  pub all : symbols ≡ plain ++ dynamic

-- ---- the one that covers an address

-- whether a symbol is one of a function (`STT_FUNC`, gABI)
abbrev pub is_function : ℕ × SymbolEntry → Bool
is_function n = is_function_info n.1.info

-- the functions among symbols, each with its number in the list, from 0 on
abbrev pub functions_in : List SymbolEntry → List (ℕ × SymbolEntry)
functions_in symbols = filter is_function (enumerate_from 0 symbols)

-- a symbol's addresses go from its value on, as many as its size; the sum is exact
abbrev pub CoversAddr : ℕ → ℕ × SymbolEntry → Type 0
CoversAddr addr n = (n.1.value ≤ addr) × (addr < n.1.value + n.1.size)

-- one is nearer than another: of a greater value, or of the same value and a smaller size, or of both the same and
-- stands first
abbrev pub IsNearer : ℕ × SymbolEntry → ℕ × SymbolEntry → Type 0
IsNearer n m = (m.1.value < n.1.value)
    ⊎ ((n.1.value ≡ m.1.value) × ((n.1.size < m.1.size) ⊎ ((n.1.size ≡ m.1.size) × (n.0 < m.0))))

-- the function of a number covers an address, and is nearer than each other one that does
pub record IsNearest (symbols : List SymbolEntry) (addr number : ℕ) : Type 0 where
  pub symbol : SymbolEntry
  pub among : Contains (functions_in symbols) (number, symbol)
  pub covers : CoversAddr addr (number, symbol)
  pub nearest : (m : ℕ × SymbolEntry) → Contains (functions_in symbols) m → CoversAddr addr m
      → (m.0 ≡ number) ⊎ IsNearer (number, symbol) m

-- the number of the function that covers an address, or none does
abbrev pub Covering : List SymbolEntry → ℕ → Option ℕ → Type 0
Covering symbols addr None = (m : ℕ × SymbolEntry) → Contains (functions_in symbols) m → CoversAddr addr m → ⊥
Covering symbols addr (Some number) = IsNearest symbols addr number

-- the name of the symbol of a number
abbrev pub symbol_name_at : List SymbolEntry → Option ℕ → Option (List ℕ)
symbol_name_at symbols found =
    option_and_then (λ (s : SymbolEntry). s.name) (option_and_then (λ number. slice_get symbols number) found)

-- ---- the address of a place in the file

-- a load segment's bytes hold a place
abbrev pub holds_place : ℕ → Segment → Bool
holds_place place segment =
    nat_eq segment.kind load_kind && (nat_le segment.offset place && nat_lt place (segment.offset + segment.file_size))

-- the address of a place of a file, by the segment that has it (`p_vaddr`, `p_offset`, gABI)
abbrev pub address_by : ℕ → Segment → ℕ
address_by place segment = segment.addr + (place - segment.offset)

-- the address of a place by the first load segment whose file bytes hold it; the sum is exact
abbrev pub address_of_place : List Segment → ℕ → Option ℕ
address_of_place segments place = option_map (address_by place) (find (holds_place place) segments)
