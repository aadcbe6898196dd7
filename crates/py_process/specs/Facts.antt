-- What is known of a process, as values: of each image the address of each symbol, and where the bss and the section
-- of the runtime are.
use Rattle.std.specs.Prelude.{ℕ, List, Option, Some, None, option_map}
use Rattle.std.specs.Option.{option_or}
use Rattle.py_process.specs.declared.binary.BinaryInfo.{BinaryInfo}
use Rattle.py_process.specs.declared.process_info.PythonProcessInfo.{PythonProcessInfo}
use Rattle.py_process.specs.SymbolMap.{address_in}

-- what an image says of the process: the addresses of its symbols, and where its sections and itself are mapped
pub record Facts : Type 0 where
  -- the address of each symbol, by its name
  pub symbols : List ℕ → Option ℕ
  pub bss_addr : ℕ
  pub bss_size : ℕ
  pub pyruntime_addr : ℕ
  pub pyruntime_size : ℕ
  pub addr : ℕ
  pub size : ℕ

-- the facts of a binary, in plain terms
abbrev pub facts_of : BinaryInfo → Facts
facts_of info = record {
  symbols = address_in info.symbols;
  bss_addr = info.bss_addr;
  bss_size = info.bss_size;
  pyruntime_addr = info.pyruntime_addr;
  pyruntime_size = info.pyruntime_size;
  addr = info.addr;
  size = info.size;
}

-- what is known of a process, but for its maps
pub record Known : Type 0 where
  -- the facts of the program's image, and of the library's, where they are there
  pub program : Option Facts
  pub library : Option Facts
  -- the path of the program
  pub path : List ℕ

-- what an opened process has of its images, in plain terms
abbrev pub known_of : {M : Type 0} → PythonProcessInfo M → Known
known_of info = record {
  program = option_map facts_of info.python_binary;
  library = option_map facts_of info.libpython_binary;
  path = info.python_filename;
}

-- the address of a symbol of an image that may be missing
abbrev pub symbol_of : Option Facts → List ℕ → Option ℕ
symbol_of None symbol = None
symbol_of (Some facts) symbol = facts.symbols symbol

-- the address of a symbol: the program's, where it has one, else the library's
abbrev pub symbol_known : Known → List ℕ → Option ℕ
symbol_known k symbol = option_or (symbol_of k.program symbol) (symbol_of k.library symbol)
