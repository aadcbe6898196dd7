-- What a weak reference leads to, by what was read; and how many attributes there are.
use Rattle.std.proofs.Common.{ℕ, refl}
use Rattle.std.specs.Prelude.{Result, Ok, Err}
use Rattle.process_memory.specs.Memory.{Found}
use Rattle.process_memory.specs.declared.memory.ReadFault.{ReadFault}
use Rattle.process_memory.specs.declared.memory.ReadFault.TheVariants.{Unreadable, OutOfMemory}
use Rattle.process_memory.specs.Seen.{Answers, read_fault}
use Rattle.py_names.specs.NamesError.{names_fault}
use Rattle.py_names.specs.declared.names_error.NamesError.{NamesError}
use Rattle.task_sets.specs.Sets.{IsUnread, referent_or}

pub unread_known : (reference : ℕ) (d : Found ℕ) (e : ReadFault) (r : Result ℕ NamesError)
    → Answers {T = ℕ} read_fault d (Err e) → IsUnread reference e r → Answers names_fault (Ok (referent_or
    reference d)) r
unread_known reference d (Unreadable addr len) r p h = rw (h, p.is) (record { is = refl })
unread_known reference d OutOfMemory r p h = rw h (record { is = tt })
