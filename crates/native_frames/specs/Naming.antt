-- The functions of frames: of the symbols of a frame's file the one that covers the address, and is the nearest.
use Rattle.std.specs.Prelude.{◌≡◌, ℕ, ◌+◌, ◌-◌, ◌%◌, ◌^◌, if◌then◌else◌, List, [], ◌∷◌, Option, Some, None}
use Rattle.std.specs.Prelude.{option_copied}
use Rattle.std.specs.Prelude.{option_and_then, option_map, slice_get}
use Rattle.elf64_core.specs.Symbols.{SymbolEntry}
use Rattle.covering_symbols.specs.Covering.{AreImageSymbols, Covering}
use Rattle.core_unwind.specs.declared.frame.Frame.{Frame}
use Rattle.core_unwind.specs.declared.place.CodePlace.{CodePlace}
use Rattle.core_unwind.specs.declared.place.Mapping.{Mapping}
use Rattle.core_unwind.specs.Places.{IsOpened}
use Rattle.native_frames.specs.declared.stacks.Function.{Function}
use Rattle.native_frames.specs.declared.stacks.NativeFrame.{NativeFrame}

-- how far behind a symbol's value an address stands, and so many bytes more
abbrev pub offset_in : (address more : ℕ) → SymbolEntry → ℕ
offset_in address more s = ((address - s.value) + more) % 2 ^ 64

-- the function of a symbol that has a name, and how far into it the address is, in bytes
abbrev pub function_of : (address more : ℕ) → SymbolEntry → Option Function
function_of address more s = option_map (λ name. record { name = name; offset = offset_in address more s }) s.name

-- the same by a symbol's number among the symbols, where one covers the address
abbrev pub function_by : List SymbolEntry → (address more : ℕ) → Option ℕ → Option Function
function_by symbols address more found =
    option_and_then (function_of address more) (option_and_then (λ number. slice_get symbols number) found)

-- the function among symbols that covers an address
pub record IsFunctionAmong (symbols : List SymbolEntry) (address more : ℕ) (function : Option Function) : Type 0 where
  pub found : Option ℕ
  pub covers : Covering symbols address found
  pub is : function ≡ function_by symbols address more found

-- the function in an ELF file; none where it is no such file
abbrev pub IsFunctionBy : Option (List ℕ) → (address more : ℕ) → Option Function → Type 0
IsFunctionBy None address more function = function ≡ None
IsFunctionBy (Some file) address more function =
    (symbols : List SymbolEntry) × AreImageSymbols file symbols × IsFunctionAmong symbols address more function

-- the function in a file; none where the file is not at hand
abbrev pub IsFunctionIn : Option (List ℕ) → (address more : ℕ) → Option Function → Type 0
IsFunctionIn None address more function = function ≡ None
IsFunctionIn (Some bytes) address more function =
    (elf : Option (List ℕ)) × IsOpened bytes elf × IsFunctionBy elf address more function

-- the bytes of the file of a number, if it is at hand
abbrev pub bytes_of : List Mapping → ℕ → Option (List ℕ)
bytes_of mappings file =
    option_and_then (λ (m : Mapping). option_copied m.bytes) (slice_get mappings file)

-- a return address stands one byte behind the place by which it is looked up
abbrev pub bytes_behind : Frame → ℕ
bytes_behind f = if f.is_exact then 0 else 1

-- the function of a frame by the place where it stands; none where that is in no file
abbrev pub IsFunctionAt : List Mapping → Frame → Option CodePlace → Option Function → Type 0
IsFunctionAt mappings f None function = function ≡ None
IsFunctionAt mappings f (Some place) function =
    IsFunctionIn (bytes_of mappings place.file) place.address (bytes_behind f) function

-- a frame with its function
pub record IsNamed (mappings : List Mapping) (f : Frame) (named : NativeFrame) : Type 0 where
  pub frame : named.frame ≡ f
  pub function : IsFunctionAt mappings f f.place named.function

-- the elements of two lists are related one by one
unfoldable pub Each : {X Y : Type 0} → (X → Y → Type 0) → List X → List Y → Type 0
Each R [] ys = ys ≡ []
Each {X} {Y} R (x ∷ xs) ys = (y : Y) × (rest : List Y) × (ys ≡ y ∷ rest) × R x y × Each R xs rest

-- frames with their functions
abbrev pub AreNamed : List Mapping → List Frame → List NativeFrame → Type 0
AreNamed mappings frames named = Each (IsNamed mappings) frames named

-- ---- as it is read

-- the symbols of the file of a number
pub record IsKept (mappings : List Mapping) (file : ℕ) (symbols : List SymbolEntry) : Type 0 where
  pub bytes : List ℕ
  pub are : bytes_of mappings file ≡ Some bytes
  pub opened : IsOpened bytes (Some bytes)
  pub symbols_of : AreImageSymbols bytes symbols
