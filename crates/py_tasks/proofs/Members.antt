-- A member of a chain, as one of those that are gathered.
use Rattle.std.proofs.Common.{ℕ, refl, arith}
use Rattle.std.specs.Prelude.{Option, Some, Ok, Err}
use Rattle.process_memory.specs.Seen.{Reads, Seen}
use Rattle.process_memory.proofs.Reading.{reads_end, reads_halt, reads_next}
use Rattle.py_coroutines.specs.declared.places.Places.{Places}
use Rattle.py_fields.specs.declared.layout.Layout.{Layout}
use Rattle.py_names.specs.NamesError.{names_fault}
use Rattle.py_names.specs.declared.names_error.NamesError.{NamesError}
use Rattle.py_tasks.specs.declared.task.Member.{Member}
use Rattle.py_tasks.specs.Chains.{member_at, some_member_at}

pub some_member : (l : Layout) (p : Places) (a : ℕ) {s0 s1 : Seen} {x : Member}
    → Reads names_fault 10 s0 s1 (λ m. member_at l p m a) (Ok x)
    → Reads {E = NamesError} names_fault 10 s0 s1 (λ m. some_member_at l p m a) (Ok (Some x))
unfolding some_member_at
some_member l p a r = reads_next {k = 0} 10 _ r (reads_end 0 refl) (omega arith)

pub some_member_stop : (l : Layout) (p : Places) (a : ℕ) {s0 s1 : Seen} (e : NamesError)
    → Reads {T = Member} names_fault 10 s0 s1 (λ m. member_at l p m a) (Err e)
    → Reads {T = Option Member} names_fault 10 s0 s1 (λ m. some_member_at l p m a) (Err e)
unfolding some_member_at
some_member_stop l p a e r = reads_halt 10 e _ r refl (omega arith)
