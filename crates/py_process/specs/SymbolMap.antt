-- Which symbols of an image have an address in the process, and which address a name has. What the fields of
-- a symbol are is the System V gABI's; which are left out is this project's own rule, after py-spy.
use Rattle.std.specs.Prelude.{◌≡◌, ℕ, ◌+◌, ◌/◌, ◌%◌, nat_eq, nat_lt, nat_le, ◌&&◌, ◌||◌, Bool, not, List, ◌++◌, reverse}
use Rattle.std.specs.Prelude.{Option, option_map}
use Rattle.std.specs.List.{find}
use Rattle.std.specs.Ordering.{nat_cmp}
use Rattle.std.specs.Cmp.Lexicographic.{slice_cmp}
use Rattle.std.specs.BTreeMap.{BTreeMap, get_by}
use Rattle.std.specs.declared.vec.Vec.{Vec}
use Rattle.std.specs.declared.alloc.Global.{Global}
use Rattle.elf64_core.specs.Symbols.{SymbolEntry, symbols_of}
use Rattle.elf64_core.specs.declared.symbol.SymbolKind.TheVariants.{Plain, Dynamic}
use Rattle.py_process.specs.declared.symbols.Place.{Place}
use Rattle.py_process.specs.Ranges.{is_section_named, last_address}

-- whether a range lies in another, by the test that `IsSubrange` states
abbrev pub is_within : (start size sub_start sub_size : ℕ) → Bool
is_within start size sub_start sub_size =
    nat_lt 0 size && nat_lt 0 sub_size && nat_le (start + size) last_address
    && nat_le (sub_start + sub_size) last_address && nat_le start sub_start
    && nat_le (sub_start + sub_size) (start + size)

-- the type and the binding of a symbol: 2 is a function; 1 is global, 2 weak
abbrev pub symbol_type_of : SymbolEntry → ℕ
symbol_type_of symbol = symbol.info % 16

-- the binding of a symbol: 1 is global, 2 is weak (gABI, "Symbol Table")
abbrev pub binding_of : SymbolEntry → ℕ
binding_of symbol = symbol.info / 16

-- whether a symbol isn't defined here, or is global or weak with the value 0
abbrev pub is_undefined : SymbolEntry → Bool
is_undefined symbol = nat_eq symbol.section 0
    || ((nat_eq (binding_of symbol) 1 || nat_eq (binding_of symbol) 2) && nat_eq symbol.value 0)

-- it has a size, and doesn't lie below the end of the bss, where there is one
abbrev pub is_past_bss : Place → SymbolEntry → Bool
is_past_bss place symbol = not (nat_eq place.bss_end 0) && not (nat_eq symbol.size 0)
    && not (is_within 0 place.bss_end symbol.value symbol.size)

-- it is a function, and doesn't lie in the map
abbrev pub is_stray : Place → SymbolEntry → Bool
is_stray place symbol = nat_eq (symbol_type_of symbol) 2
    && not (is_within place.addr place.size (symbol.value + place.offset) symbol.size)

-- it has an address in the process
abbrev pub is_kept : Place → SymbolEntry → Bool
is_kept place symbol = not (is_undefined symbol) && not (is_past_bss place symbol)
    && nat_le (symbol.value + place.offset) last_address && not (is_stray place symbol)

-- the address of the last symbol of a name that is kept
abbrev pub address_of : Place → List ℕ → List SymbolEntry → Option ℕ
address_of place name symbols = option_map (λ symbol. symbol.value + place.offset)
    (find (λ symbol. is_kept place symbol && is_section_named name symbol.name) (reverse symbols))

-- the address that a map has for a name
abbrev pub address_in : BTreeMap (Vec ℕ Global) ℕ → List ℕ → Option ℕ
address_in symbols name = get_by (λ key. slice_cmp nat_cmp name key.items) symbols

-- each name has the address of the last symbol that is kept, the dynamic ones after the plain ones
abbrev pub AreAddresses : List ℕ → Place → (List ℕ → Option ℕ) → Type 0
AreAddresses bytes place symbols = (name : List ℕ) →
    symbols name ≡ address_of place name (symbols_of bytes Plain ++ symbols_of bytes Dynamic)

-- so it is in a map
abbrev pub HasAddresses : List ℕ → Place → BTreeMap (Vec ℕ Global) ℕ → Type 0
HasAddresses bytes place symbols = AreAddresses bytes place (address_in symbols)
