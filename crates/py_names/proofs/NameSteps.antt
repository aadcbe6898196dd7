-- The names of threads, slot by slot.
use Rattle.std.proofs.Common.{◌≡◌, ℕ, suc, ◌+◌, ◌*◌, ◌-◌, ◌<◌, ◌≤◌, List, [], ◌∷◌, ◌++◌, refl, ◌∙◌, ap, arith}
use Rattle.std.proofs.Common.{append-nil}
use Rattle.std.proofs.Math.Nat.{sub-zero}
use Rattle.std.specs.Prelude.{Bool, true, false, cond, nat_eq, option_map, reverse, Option, Some, None, Ok, Err, ⊤}
use Rattle.std.specs.List.{find}
use Rattle.std.proofs.lemmas.List.{reverse-append}
use Rattle.process_memory.specs.Memory.{Memory, Found, Fault, byte_at, ◌>>=◌}
use Rattle.process_memory.specs.Memory.Fault.{Entries}
use Rattle.process_memory.specs.Seen.{Seen, FaultIs, Answers}
use Rattle.py_builtins.specs.Consulted.{Consulting, ConsultsBy}
use Rattle.process_memory.specs.Walk.{after_all}
use Rattle.process_memory.proofs.Reading.{reading_here, reading_then, reading_gives, reading_none}
use Rattle.py_fields.specs.declared.layout.Layout.{Layout}
use Rattle.py_builtins.specs.declared.keys.Slots.{Slots}
use Rattle.py_names.specs.declared.names.Given.{Given}
use Rattle.py_names.specs.declared.names.Named.{Named}
use Rattle.py_names.specs.Names.{AnswersNames, HasNames, each_looked, kept_name, name_under, names_from, thread_at}
use Rattle.py_names.specs.Names.{thread_looked}
use Rattle.py_names.specs.Search.{looked_in}
use Rattle.py_names.specs.NamesError.{names_fault}
use Rattle.py_names.specs.declared.names_error.NamesError.{NamesError}
use Rattle.std.specs.BTreeMap.{BTreeMap}
use Rattle.process_memory.proofs.Walks.{after_all_none, after_all_twice}

module _ (l : Layout) (m : Memory) (s : Slots) (number n left : ℕ) where
  names_step : (j k : ℕ) (g : Given) → n ≡ suc j → left ≡ suc k → thread_at l m s number k ≡ Ok g
      → names_from l m s n number left ≡ after_all (kept_name g.named) (names_from l m s j (number + 1) g.left)
  unfolding names_from
  names_step j k g n_is left_is e = rw (n_is, left_is, e) (elim (names_from l m s j (number + 1) g.left) as (λ d. (d >>= (λ rest. Ok (kept_name g.named ++ rest))) ≡ after_all (kept_name g.named) d) [ Ok rest ↦ refl | Err f ↦ refl ])

  each_step : (j k : ℕ) → n ≡ suc j → left ≡ suc k → each_looked l m s n number left
      ≡ 1 + (thread_looked l m s number k + looked_in (thread_at l m s number k) (λ thread. each_looked l m s j (number + 1) thread.left))
  unfolding each_looked
  each_step j k n_is left_is = rw (n_is, left_is) refl

  each_more : (j k : ℕ) (g : Given) → n ≡ suc j → left ≡ suc k → thread_at l m s number k ≡ Ok g
      → each_looked l m s n number left ≡ 1 + (thread_looked l m s number k + each_looked l m s j (number + 1) g.left)
  each_more j k g n_is left_is e = each_step j k n_is left_is ∙ rw e refl

  -- the slot itself, and what is looked at for its thread
  each_one : (j k : ℕ) → n ≡ suc j → left ≡ suc k → 1 + thread_looked l m s number k ≤ each_looked l m s n number left
  each_one j k n_is left_is = omega (arith, each_step j k n_is left_is)

  names_stop : (j k : ℕ) (f : Fault) → n ≡ suc j → left ≡ suc k → thread_at l m s number k ≡ Err f
      → names_from l m s n number left ≡ Err f
  unfolding names_from
  names_stop j k f n_is left_is e = rw (n_is, left_is, e) refl

  names_over : (j : ℕ) → n ≡ suc j → left ≡ 0 → names_from l m s n number left ≡ Err Entries
  unfolding names_from
  names_over j n_is left_is = rw (n_is, left_is) refl

  names_end : n ≡ 0 → names_from l m s n number left ≡ Ok []
  unfolding names_from
  names_end n_is = rw n_is refl

-- these names were read of the slots before a number, and so many may still be looked at
pub record Naming (l : Layout) (s : Slots) (s0 s1 : Seen) (limit number left : ℕ) (names : List Named) : Type 0 where
  pub spent : ℕ
  pub counted : each_looked l (byte_at s0.pieces) s s.count 0 limit ≡ spent + each_looked l (byte_at s0.pieces) s (s.count - number) number left
  pub reading : Consulting l (12 * spent) s0 s1
      (λ m. names_from l m s s.count 0 limit ≡ after_all names (names_from l m s (s.count - number) number left))

pub naming_init : (l : Layout) (s : Slots) (seen : Seen) (limit : ℕ) → Naming l s seen seen limit 0 limit []
naming_init l s seen limit = record { spent = 0; counted = rw sub-zero (omega arith); reading = reading_none _ seen _ (λ m. rw sub-zero (after_all_none (names_from l m s s.count 0 limit))) }

module _ {l : Layout} {s : Slots} {s0 s1 : Seen} {limit number left : ℕ} {names : List Named} where
  -- a thread more is counted
  one_more : (t : Naming l s s0 s1 limit number left names) → number < s.count → 0 < left
      → t.spent + (1 + thread_looked l (byte_at s1.pieces) s number (left - 1)) ≤ each_looked l (byte_at s0.pieces) s s.count 0 limit
  one_more t some room =
      let one = each_one l (byte_at s0.pieces) s number (s.count - number) left (s.count - (number + 1)) (left - 1) (omega arith) (omega arith) in
      rw t.reading.pieces (omega (arith, t.counted, one))

  pub naming_more : {E : Type 0} {fault : E → Option Fault} {s2 : Seen} (g : Given) → Naming l s s0 s1 limit number left names
      → number < s.count → 0 < left
      → ConsultsBy {E = E} l fault (λ m. 12 + 4 * thread_looked l m s number (left - 1)) s1 s2 (λ m. thread_at l m s number (left - 1)) (Ok g)
      → Naming l s s0 s2 limit (number + 1) g.left (names ++ kept_name g.named)
  naming_more g t some room a =
      let n_is : s.count - number ≡ suc (s.count - (number + 1)) = omega arith in
      let left_is : left ≡ suc (left - 1) = omega arith in
      let here = rw t.reading.pieces at (reading_here a).is in
      let more = each_more l (byte_at s0.pieces) s number (s.count - number) left (s.count - (number + 1)) (left - 1) g n_is left_is here in
      record {
        spent = t.spent + (1 + thread_looked l (byte_at s1.pieces) s number (left - 1));
        counted = rw t.reading.pieces (omega (arith, t.counted, more));
        reading = reading_gives _ _
            (reading_then (λ m. names_from l m s s.count 0 limit ≡ after_all (names ++ kept_name g.named) (names_from l m s (s.count - (number + 1)) (number + 1) g.left)) t.reading a
            (λ m e x. e ∙ ap (after_all names) (names_step l m s number (s.count - number) left (s.count - (number + 1)) (left - 1) g n_is left_is x.is) ∙ after_all_twice names (kept_name g.named) (names_from l m s (s.count - (number + 1)) (number + 1) g.left)))
            (omega arith) (λ m e. e);
      }

  pub naming_done : {E : Type 0} {fault : E → Option Fault} → Naming l s s0 s1 limit number left names → s.count ≤ number
      → ConsultsBy {E = E} l fault (λ m. 12 * each_looked l m s s.count 0 limit) s0 s1 (λ m. names_from l m s s.count 0 limit) (Ok names)
  naming_done t all = reading_gives _ _ t.reading (omega (arith, t.counted))
      (λ m e. record { is = e ∙ ap (after_all names) (names_end l m s number (s.count - number) left (omega arith)) ∙ ap Ok (append-nil names) })

  pub naming_over : {E : Type 0} {fault : E → Option Fault} (e : E) → Naming l s s0 s1 limit number left names
      → number < s.count → left ≡ 0 → fault e ≡ Some Entries
      → ConsultsBy {T = List Named} l fault (λ m. 12 * each_looked l m s s.count 0 limit) s0 s1 (λ m. names_from l m s s.count 0 limit) (Err e)
  naming_over e t some none is = reading_gives _ _ t.reading (omega (arith, t.counted))
      (λ m d. record { is = rw is (d ∙ ap (after_all names) (names_over l m s number (s.count - number) left (s.count - (number + 1)) (omega arith) none)) })

  pub naming_stop : {E E' : Type 0} {fault : E → Option Fault} {fault' : E' → Option Fault} {s2 : Seen} {e : E} (e' : E')
      → Naming l s s0 s1 limit number left names → number < s.count → 0 < left
      → ConsultsBy {T = Given} l fault (λ m. 12 + 4 * thread_looked l m s number (left - 1)) s1 s2 (λ m. thread_at l m s number (left - 1)) (Err e) → fault' e' ≡ fault e
      → ConsultsBy {T = List Named} l fault' (λ m. 12 * each_looked l m s s.count 0 limit) s0 s2 (λ m. names_from l m s s.count 0 limit) (Err e')
  naming_stop {fault = fault} {fault' = fault'} {e = e} e' t some room a same =
      let n_is : s.count - number ≡ suc (s.count - (number + 1)) = omega arith in
      let left_is : left ≡ suc (left - 1) = omega arith in
      reading_gives _ _
      (reading_then (λ m. FaultIs (names_from l m s s.count 0 limit) (fault e)) t.reading a
      (λ m d x. elim (fault e) as (λ o. FaultIs (thread_at l m s number (left - 1)) o → FaultIs (names_from l m s s.count 0 limit) o)
      [ None ↦ λ h. tt | Some f ↦ λ h. d ∙ ap (after_all names) (names_stop l m s number (s.count - number) left (s.count - (number + 1)) (left - 1) f n_is left_is h) ] x.is))
      (omega (arith, one_more t some room))
      (λ m h. record { is = rw same h })

  pub naming_lost : {E E' : Type 0} {fault : E → Option Fault} {fault' : E' → Option Fault} {s2 : Seen} {g : Given} (e' : E')
      → Naming l s s0 s1 limit number left names → number < s.count → 0 < left
      → ConsultsBy {E = E} l fault (λ m. 12 + 4 * thread_looked l m s number (left - 1)) s1 s2 (λ m. thread_at l m s number (left - 1)) (Ok g) → fault' e' ≡ None
      → ConsultsBy {T = List Named} l fault' (λ m. 12 * each_looked l m s s.count 0 limit) s0 s2 (λ m. names_from l m s s.count 0 limit) (Err e')
  naming_lost e' t some room a same = reading_gives _ _ (reading_then (λ m. ⊤) t.reading a (λ m d x. tt)) (omega (arith, one_more t some room)) (λ m h. record { is = rw same tt })

-- one name more
pub name_more : (names : List Named) (n : Named) (id : ℕ) → name_under (names ++ n ∷ []) id ≡ cond (nat_eq n.id id) (Some n.name) (name_under names id)
name_more names n id =
    ap (λ l. option_map (λ (x : Named). x.name) (find (λ x. nat_eq x.id id) l)) (reverse-append names (n ∷ []))
    ∙ by (nat_eq n.id id)
  where
    by : (t : Bool) → option_map (λ (x : Named). x.name) (cond t (Some n) (find (λ x. nat_eq x.id id) (reverse names))) ≡ cond t (Some n.name) (name_under names id)
    by true = refl
    by false = refl

-- ---- the map

pub map_fails : {E : Type 0} {fault : E → Option Fault} {d : Found (List Named)} {e : E} (e' : NamesError) → names_fault e' ≡ fault e
    → Answers {T = List Named} fault d (Err e) → AnswersNames d (Err e')
map_fails e' same a = record { is = rw same a.is }

pub map_lost : {d : Found (List Named)} (e' : NamesError) → names_fault e' ≡ None → AnswersNames d (Err e')
map_lost e' same = record { is = rw same tt }

pub map_answers : {E : Type 0} {fault : E → Option Fault} {d : Found (List Named)} {names : List Named} (found : BTreeMap ℕ (List ℕ))
    → HasNames found names → Answers {E = E} fault d (Ok names) → AnswersNames d (Ok found)
map_answers found has a = record { is = rw a.is has }
