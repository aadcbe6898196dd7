-- Infos that say the same are the same facts.
use Rattle.std.proofs.Common.{◌≡◌, ℕ, List, Option, Some, None, refl}
use Rattle.std.specs.Prelude.{option_map}
use Rattle.py_process.specs.Binary.{SaySame, symbol_at}
use Rattle.py_process.specs.Facts.{facts_of, known_of, symbol_known}
use Rattle.py_process.specs.declared.binary.BinaryInfo.{BinaryInfo}
use Rattle.py_process.specs.declared.process_info.PythonProcessInfo.{PythonProcessInfo}

pub facts_same : (one other : BinaryInfo) → SaySame one other → facts_of one ≡ facts_of other
facts_same one other same = λ i. record {
  symbols = λ name. same.symbols name i;
  bss_addr = same.bss_addr i;
  bss_size = same.bss_size i;
  pyruntime_addr = same.pyruntime_addr i;
  pyruntime_size = same.pyruntime_size i;
  addr = same.addr i;
  size = same.size i;
}

by_cases : {M : Type 0} (info : PythonProcessInfo M) (symbol : List ℕ) (program library : Option BinaryInfo) → info.python_binary ≡ program → info.libpython_binary ≡ library
    → symbol_at program library symbol ≡ symbol_known (record { program = option_map facts_of program; library = option_map facts_of library; path = info.python_filename }) symbol
by_cases info symbol None None p l = refl
by_cases info symbol None (Some x) p l = refl
by_cases info symbol (Some x) None p l = refl
by_cases info symbol (Some x) (Some y) p l = refl

pub symbol_same : {M : Type 0} (info : PythonProcessInfo M) (symbol : List ℕ) → symbol_at info.python_binary info.libpython_binary symbol ≡ symbol_known (known_of info) symbol
symbol_same info symbol = by_cases info symbol info.python_binary info.libpython_binary refl refl
