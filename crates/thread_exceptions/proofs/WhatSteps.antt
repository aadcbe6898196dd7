-- What stands at an address, by what was read there.
use Rattle.std.proofs.Common.{◌≡◌, ℕ, List, refl, sym, ap, ◌∙◌}
use Rattle.std.specs.Prelude.{Ok, Err, Result, IfOk, Option, Some, None}
use Rattle.process_memory.specs.Memory.{Found, Memory}
use Rattle.process_memory.specs.declared.memory.ReadFault.{ReadFault}
use Rattle.process_memory.specs.Seen.{Answers, read_fault}
use Rattle.thread_exceptions.specs.declared.error.ExceptionsError.{ExceptionsError}
use Rattle.thread_exceptions.specs.declared.exception.Parts.{Parts}
use Rattle.thread_exceptions.specs.declared.exception.What as read
use Rattle.thread_exceptions.specs.declared.groups.Members as members
use Rattle.thread_exceptions.specs.declared.groups.Row.{Row}
use Rattle.thread_exceptions.specs.declared.links.Lost.{Lost}
use Rattle.thread_exceptions.specs.declared.places.GroupPlaces.{GroupPlaces}
use Rattle.thread_exceptions.specs.declared.places.Places.{Places}
use Rattle.thread_exceptions.specs.Exceptions.{What, parts_at, what_at, what_by, what_of}
use Rattle.thread_exceptions.specs.Groups.{Members, group_by, is_group_at, members_at, members_by, members_if}
use Rattle.thread_exceptions.specs.Groups.{members_of, told_members}
use Rattle.thread_exceptions.specs.Turns.{IsLost}
use Rattle.thread_exceptions.proofs.Steps.{fault_of, is_lost}

module _ (p : Places) (m : Memory) (a : ℕ) where
  pub what_read : (parts : Option Parts) (r : Result read.What ExceptionsError)
      → Answers {E = ReadFault} read_fault (parts_at p m a) (Ok parts)
      → IfOk r (λ what. what_of what ≡ what_by p m a (Ok parts)) → IfOk r (λ what. what_of what ≡ what_at p m a)
  unfolding what_at
  what_read parts (Ok what) h e = e ∙ sym (ap (what_by p m a) h.is)
  what_read parts (Err error) h e = tt

  pub what_lost : (e : ReadFault) (l : Lost) → Answers {T = Option Parts} read_fault (parts_at p m a) (Err e)
      → IsLost e (Ok l)
      → What.Lost (fault_of l) ≡ what_at p m a
  unfolding what_at
  what_lost e l h is = sym (ap (what_by p m a) (is_lost (parts_at p m a) e l h is))

-- the members of a group
pub group_read : (d : Found (List ℕ)) (count : ℕ) (bytes : List ℕ) (r : Result members.Members ExceptionsError)
    → Answers {E = ReadFault} read_fault d (Ok bytes)
    → IfOk r (λ x. members_of x ≡ group_by count (Ok bytes)) → IfOk r (λ x. members_of x ≡ group_by count d)
group_read d count bytes (Ok x) h e = e ∙ sym (ap (group_by count) h.is)
group_read d count bytes (Err error) h e = tt

pub group_lost : (d : Found (List ℕ)) (count : ℕ) (e : ReadFault) (l : Lost)
    → Answers {T = List ℕ} read_fault d (Err e) → IsLost e (Ok l)
    → Members.Lost (fault_of l) ≡ group_by count d
group_lost d count e l h is = sym (ap (group_by count) (is_lost d e l h is))

pub told_read : (d : Found Row) (m : Memory) (row : Row) (r : Result members.Members ExceptionsError)
    → Answers {E = ReadFault} read_fault d (Ok row)
    → IfOk r (λ x. members_of x ≡ told_members (Ok row) m) → IfOk r (λ x. members_of x ≡ told_members d m)
told_read d m row (Ok x) h e = e ∙ sym (ap (λ f. told_members f m) h.is)
told_read d m row (Err error) h e = tt

pub told_lost : (d : Found Row) (m : Memory) (e : ReadFault) (l : Lost) → Answers {T = Row} read_fault d (Err e)
    → IsLost e (Ok l)
    → Members.Lost (fault_of l) ≡ told_members d m
told_lost d m e l h is = sym (ap (λ f. told_members f m) (is_lost d e l h is))

-- the members of an exception, where a version has groups, and where it has none
pub members_some : (p : Places) (m : Memory) (a class : ℕ) (group : GroupPlaces)
    (r : Result members.Members ExceptionsError) → p.group ≡ Some group
    → IfOk r (λ x. members_of x ≡ members_if group (is_group_at p m class) m a)
    → IfOk r (λ x. members_of x ≡ members_at p m a class)
unfolding members_at
members_some p m a class group (Ok x) e h = h ∙ sym (ap (λ o. members_by o (is_group_at p m class) m a) e)
members_some p m a class group (Err error) e h = tt

pub members_none : (p : Places) (m : Memory) (a class : ℕ) → p.group ≡ None → Members.NoGroup ≡ members_at p m a class
unfolding members_at
members_none p m a class e = sym (ap (λ o. members_by o (is_group_at p m class) m a) e)
