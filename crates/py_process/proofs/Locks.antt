-- Where the lock is found, family by family.
use Rattle.std.proofs.Common.{◌≡◌, ℕ, ap, ◌∙◌, refl}
use Rattle.std.specs.Prelude.{Option, Some, None, Ok, option_map, codes}
use Rattle.elf64_core.specs.declared.header.Machine.{Machine}
use Rattle.process_memory.specs.Memory.{Memory}
use Rattle.py_fields.specs.Offsets.{tstate_current_offset}
use Rattle.py_fields.specs.declared.version.Version.{Version}
use Rattle.py_fields.specs.declared.layout.Layout.{Layout}
use Rattle.py_fields.specs.declared.layout.Lock.TheVariants.{Symbol, Runtime, Gil}
use Rattle.py_process.specs.Facts.{Known, symbol_known}
use Rattle.py_process.specs.Lock.{FoundIs, in_runtime, lock_by, lock_found, lock_word}

module _ (machine : Machine) (k : Known) (v : Version) (l : Layout) (m : Memory) (a : ℕ) where
  pub by_gil : (gil : Option ℕ) → l.lock ≡ Gil → l.interpreter.gil ≡ gil → lock_found machine k v l m a ≡ lock_word m a gil
  unfolding lock_found
  by_gil gil family at = ap (λ f. lock_by f machine k v l m a) family ∙ ap (λ g. lock_word m a g) at

  pub by_runtime : l.lock ≡ Runtime
      → lock_found machine k v l m a ≡ in_runtime (symbol_known k (codes "_PyRuntime")) (tstate_current_offset machine v)
  unfolding lock_found
  by_runtime family = ap (λ f. lock_by f machine k v l m a) family

  pub by_symbol : l.lock ≡ Symbol
      → lock_found machine k v l m a ≡ option_map (λ addr. Ok addr) (symbol_known k (codes "_PyThreadState_Current"))
  unfolding lock_found
  by_symbol family = ap (λ f. lock_by f machine k v l m a) family

-- a symbol's address is one that was found
pub symbol_found : (addr : Option ℕ) → FoundIs (option_map (λ a. Ok a) addr) (Ok addr)
symbol_found None = refl
symbol_found (Some addr) = refl
