-- The names of threads, one by one.
use Rattle.std.proofs.Common.{◌≡◌, ℕ, ◌+◌, ◌*◌, ◌<◌, ◌≤◌, ◌∙◌, List, [], ◌∷◌, ◌++◌, length, map, refl, sym, ap, arith}
use Rattle.std.proofs.Common.{length-append}
use Rattle.std.proofs.lemmas.List.{map-append}
use Rattle.std.specs.BTreeMap.{BTreeMap}
use Rattle.std.specs.Prelude.{IfOk, MatchOption, Option, Some, None, Result, Ok, Err}
use Rattle.std.specs.declared.alloc.AllocError.{AllocError}
use Rattle.process_memory.specs.Memory.{Fault, Found, Memory}
use Rattle.process_memory.specs.Seen.{FaultIs, Reading, Seen}
use Rattle.process_memory.proofs.Reading.{reading_gives, reading_none, reading_then}
use Rattle.py_fields.specs.declared.layout.Layout.{Layout}
use Rattle.py_builtins.specs.declared.keys.Slots.{Slots}
use Rattle.py_names.specs.NamesError.{names_fault}
use Rattle.py_names.specs.declared.names_error.NamesError.{NamesError}
use Rattle.thread_names.specs.declared.keys.Keyed.{Keyed}
use Rattle.thread_names.specs.declared.names.InterpreterNames.{InterpreterNames}
use Rattle.thread_names.specs.declared.names.ThreadName.{ThreadName}
use Rattle.thread_names.specs.declared.own.DictRule.{DictRule}
use Rattle.thread_names.specs.Keys.{HasThreads, KeysTold}
use Rattle.thread_names.specs.Told.{IsLost, name_in, name_told, name_under, names, names_by, names_by_keys, names_shown}
use Rattle.thread_names.specs.Told.{no_names, thread_shown}

-- the names that were read so far
pub record Naming (l : Layout) (rule : Option DictRule) (threads : BTreeMap ℕ ℕ) (s0 s1 : Seen) (ids : List ℕ)
    (told : List ThreadName) : Type 0 where
  pub reading : Reading (1035 * length ids) s0 s1 (λ m. map thread_shown told ≡ map (name_in l rule m threads) ids)

pub naming_init : (l : Layout) (rule : Option DictRule) (threads : BTreeMap ℕ ℕ) (seen : Seen)
    → Naming l rule threads seen seen [] []
naming_init l rule threads seen = record { reading = reading_none _ seen _ (λ m. refl) }

one_more : (ids : List ℕ) (id : ℕ) → 1035 * length ids + 1035 ≤ 1035 * length (ids ++ id ∷ [])
one_more ids id = omega (arith, length-append ids (id ∷ []))

module _ {l : Layout} {rule : Option DictRule} {threads : BTreeMap ℕ ℕ} {s0 s1 s2 : Seen} {ids : List ℕ}
    {told : List ThreadName} where
  pub naming_more : (id : ℕ) (t : ThreadName) → Naming l rule threads s0 s1 ids told
      → Reading 1035 s1 s2 (λ m. thread_shown t ≡ name_in l rule m threads id)
      → Naming l rule threads s0 s2 (ids ++ id ∷ []) (told ++ t ∷ [])
  naming_more id t n r = record {
    reading = reading_gives _ _ (reading_then
        (λ m. map thread_shown (told ++ t ∷ []) ≡ map (name_in l rule m threads) (ids ++ id ∷ [])) n.reading r
        (λ m e is. map-append thread_shown told (t ∷ [])
        ∙ ap (λ xs. xs ++ map thread_shown (t ∷ [])) e
        ∙ ap (λ x. map (name_in l rule m threads) ids ++ x ∷ []) is
        ∙ sym (map-append (name_in l rule m threads) ids (id ∷ []))))
        (one_more ids id) (λ m h. h);
  }

  pub naming_lost : {P : Memory → Type 0} (count : ℕ) → Naming l rule threads s0 s1 ids told → length ids < count
      → Reading 1035 s1 s2 P → Reading (1035 * count) s0 s2 (λ m. Unit {0})
  naming_lost count n below r =
      reading_gives _ _ (reading_then (λ m. Unit {0}) n.reading r (λ m e p. tt)) (omega (arith, below)) (λ m h. h)

names_same : (l : Layout) (rule : Option DictRule) (m : Memory) (threads : BTreeMap ℕ ℕ) (keys : List Keyed)
    → HasThreads threads keys → (ids : List ℕ)
    → map (name_in l rule m threads) ids ≡ map (name_under l rule m keys) ids
names_same l rule m threads keys has [] = refl
names_same l rule m threads keys has (id ∷ ids) =
    ap (λ (t : Option ℕ). name_told l rule m id t ∷ map (name_in l rule m threads) ids) (has id)
    ∙ ap (λ xs. name_under l rule m keys id ∷ xs) (names_same l rule m threads keys has ids)

-- by the entries of the dict
pub by_keys : (l : Layout) (rule : Option DictRule) (m : Memory) (interpreter : ℕ) (ids : List ℕ) (k told : KeysTold)
    (threads : BTreeMap ℕ ℕ) (list : List ThreadName) → k ≡ told → HasThreads threads k.list
    → map thread_shown list ≡ map (name_in l rule m threads) ids
    → names interpreter (map thread_shown list) k.unread None ≡ names_by_keys l rule m interpreter ids told
by_keys l rule m interpreter ids k told threads list e has same =
    ap (λ ts. names interpreter ts k.unread None) (same ∙ names_same l rule m threads k.list has ids)
    ∙ ap (names_by_keys l rule m interpreter ids) e

-- where the dict can't be read
pub lost_step : (l : Layout) (rule : Option DictRule) (m : Memory) (interpreter : ℕ) (ids : List ℕ)
    (d : Found (Option Slots)) (e : NamesError) (result : Result InterpreterNames AllocError)
    → FaultIs d (names_fault e) → IfOk result (IsLost interpreter ids e)
    → IfOk result (λ told. names_shown told ≡ names_by l rule m interpreter ids d)
lost_step l rule m interpreter ids d e (Err a) h lost = tt
lost_step l rule m interpreter ids d e (Ok told) h lost = by (names_fault e) h lost
  where
    by : (o : Option Fault) → FaultIs d o
        → MatchOption o ⊥ (λ f. names_shown told ≡ no_names interpreter ids (Some (Some f)))
        → names_shown told ≡ names_by l rule m interpreter ids d
    by None h lost = absurd lost
    by (Some f) h lost = lost ∙ ap (names_by l rule m interpreter ids) (sym h)
