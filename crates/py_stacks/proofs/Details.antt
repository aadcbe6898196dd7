-- What the walk knows of a detail: its first fault is that of its list; and where nothing is asked for it is
-- none, at no read.
use Rattle.std.proofs.Common.{◌≡◌, ◌∙◌, ◌+◌, ◌++◌, ℕ, zero, suc, Bool, true, false, refl}
use Rattle.std.specs.Prelude.{None, Some, Ok, Err, pos}
use Rattle.process_memory.specs.Memory.{Memory, Found, ◌>>=◌, record_at}
use Rattle.process_memory.specs.Walk.{first_fault, fault_in}
use Rattle.py_fields.specs.declared.layout.Layout.{Layout}
use Rattle.py_stacks.specs.declared.asked.Asked.{Asked}
use Rattle.py_stacks.specs.Asking.{nothing}
use Rattle.py_stacks.specs.Detail.{detail_at, detail_cost, detail_faults, detail_with}
use Rattle.py_stacks.specs.Member.{MemberAt}
use Rattle.py_stacks.specs.Lines.{line_at, line_by}
use Rattle.py_stacks.specs.Locals.{asked_faults, asked_locals, count_of, each_faults, kept_local, local_at, locals_at}
use Rattle.py_stacks.specs.Locals.{locals_cost, locals_faults, locals_from, names_tuple_of}
use Rattle.process_memory.proofs.Walks.{then_same}

from_inner : {T U : Type 0} (d : Found T) (f : T → U) → fault_in d ≡ fault_in (d >>= (λ x. Ok (f x)))
from_inner (Ok x) f = refl
from_inner (Err e) f = refl

each_same : (l : Layout) (m : Memory) (r : MemberAt) (index n : ℕ)
    → first_fault (each_faults l m r index n) ≡ fault_in (locals_from l m r index n)
unfolding each_faults locals_from
each_same l m r index zero = refl
each_same l m r index (suc n) = then_same (local_at l m r index) _ _ (λ local. each_same l m r (index + 1) n ∙ from_inner (locals_from l m r (index + 1) n) (λ rest. kept_local local ++ rest))

locals_same : (l : Layout) (m : Memory) (r : MemberAt) → first_fault (locals_faults l m r) ≡ fault_in (locals_at l m r)
unfolding locals_faults locals_at
locals_same l m r = then_same (count_of l r) _ _ (λ count. then_same (record_at m (names_tuple_of l r) l.tuple.size) _ _ (λ names. each_same l m r 0 count))

asked_same : (asked : Bool) (l : Layout) (m : Memory) (r : MemberAt)
    → first_fault (asked_faults asked l m r) ≡ fault_in (asked_locals asked l m r)
asked_same false l m r = refl
asked_same true l m r = locals_same l m r ∙ from_inner (locals_at l m r) Some

pub detail_same : (q : Asked) (l : Layout) (m : Memory) (r : MemberAt)
    → first_fault (detail_faults q l m r) ≡ fault_in (detail_at q l m r)
unfolding detail_at detail_faults line_at
detail_same q l m r = asked_same q.locals l m r ∙ from_inner (asked_locals q.locals l m r) (detail_with (line_by q.lineno l m r))

pub nothing_costs : (l : Layout) (m : Memory) (r : MemberAt) → detail_cost nothing l m r ≡ 0
unfolding detail_cost locals_cost
nothing_costs l m r = refl

pub nothing_found : (l : Layout) (m : Memory) (r : MemberAt)
    → detail_at nothing l m r ≡ Ok (record { line = pos 0; locals = None })
unfolding detail_at line_at line_by
nothing_found l m r = refl
