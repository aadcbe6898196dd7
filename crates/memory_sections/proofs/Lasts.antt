-- The last exception, as it was read.
use Rattle.std.proofs.Common.{◌≡◌, ℕ}
use Rattle.std.specs.Prelude.{Ok, Err, Result, IfOk}
use Rattle.process_memory.specs.Memory.{Memory}
use Rattle.py_fields.specs.declared.layout.Layout.{Layout}
use Rattle.py_exceptions.specs.declared.described.Described.{Described}
use Rattle.py_exceptions.specs.declared.last.LastException.{LastException}
use Rattle.py_exceptions.specs.Last.{IsLast, last_shown}

pub last_as_read : {E F : Type 0} (l : Layout) (d : Described) (m : Memory) (a : ℕ) (read : Result LastException E)
    (r : Result LastException F)
    → IfOk read (λ told. IsLast l d m a (last_shown told)) → IfOk r (λ told. read ≡ Ok told)
    → IfOk r (λ told. IsLast l d m a (last_shown told))
last_as_read l d m a read (Ok told) h e = rw e at h
last_as_read l d m a read (Err e') h e = tt
