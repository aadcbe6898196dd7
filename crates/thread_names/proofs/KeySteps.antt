-- The entries of the dict of threads, slot by slot.
use Rattle.std.proofs.Common.{◌≡◌, ℕ, suc, ◌+◌, ◌-◌, ◌*◌, ◌≤◌, ◌∙◌, List, [], ◌∷◌, ◌++◌, refl, sym, ap, arith, min}
use Rattle.std.specs.List.{find}
use Rattle.std.specs.Prelude.{MatchOption, Option, Some, None, Result, Ok, Err, Bool, true, false, cond, nat_eq}
use Rattle.std.specs.Prelude.{option_map, reverse}
use Rattle.std.proofs.lemmas.List.{reverse-append}
use Rattle.process_memory.specs.Memory.{Fault, Found, Memory}
use Rattle.process_memory.specs.Seen.{Answers, FaultIs, Reading, Reads, Seen}
use Rattle.process_memory.proofs.Reading.{reading_gives, reading_none, reading_then}
use Rattle.py_fields.specs.declared.layout.Layout.{Layout}
use Rattle.py_builtins.specs.declared.keys.Slots.{Slots}
use Rattle.py_names.specs.NamesError.{names_fault}
use Rattle.py_names.specs.declared.names_error.NamesError.{NamesError}
use Rattle.thread_names.specs.declared.keys.Keyed.{Keyed}
use Rattle.thread_names.specs.declared.keys.Keys.{Keys}
use Rattle.thread_names.specs.Keys.{KeyAdded, KeysTold, key_at, keys_below, keys_in, keys_of, thread_under, with_key}
use Rattle.thread_names.specs.Keys.{with_more}

-- what was read of a slot is what it has
key_step : (old new : Keys) (d : Found (Option Keyed)) (read : Result (Option Keyed) NamesError)
    → Answers names_fault d read → KeyAdded old new read → keys_of new ≡ with_key (keys_of old) d
key_step old new d (Ok x) a added = added ∙ ap (with_key (keys_of old)) (sym a.is)
key_step old new d (Err e) a added = by (names_fault e) a.is added
  where
    by : (o : Option Fault) → FaultIs d o
        → MatchOption o ⊥ (λ f. keys_of new ≡ with_key (keys_of old) (Err f))
        → keys_of new ≡ with_key (keys_of old) d
    by None h added = absurd added
    by (Some f) h added = added ∙ ap (with_key (keys_of old)) (sym h)

unread_of : KeysTold → ℕ
unread_of k = k.unread

few_with : (k : KeysTold) (d : Found (Option Keyed)) → (with_key k d).unread ≤ k.unread + 1
few_with k (Ok None) = omega arith
few_with k (Ok (Some x)) = omega arith
few_with k (Err f) = omega arith

few_step : (old new : Keys) (read : Result (Option Keyed) NamesError) → KeyAdded old new read
    → new.unread ≤ old.unread + 1
few_step old new (Ok x) added =
    omega (arith, ap (λ (k : KeysTold). k.unread) added, few_with (keys_of old) (Ok x))
few_step old new (Err e) added = by (names_fault e) added
  where
    by : (o : Option Fault) → MatchOption o ⊥ (λ f. keys_of new ≡ with_key (keys_of old) (Err f))
        → new.unread ≤ old.unread + 1
    by None added = absurd added
    by (Some f) added = omega (arith, ap (λ (k : KeysTold). k.unread) added, few_with (keys_of old) (Err f))

-- the entries of the slots before a number
pub record Keying (l : Layout) (s : Slots) (s0 s1 : Seen) (number : ℕ) (keys : KeysTold) : Type 0 where
  pub few : keys.unread ≤ number
  pub reading : Reading (4 * number) s0 s1 (λ m. keys ≡ keys_below l m s number)

pub keying_init : (l : Layout) (s : Slots) (seen : Seen) → Keying l s seen seen 0 (record { list = []; unread = 0 })
unfolding keys_below
keying_init l s seen = record { few = omega arith; reading = reading_none 0 seen _ (λ m. refl) }

below_more : (l : Layout) (m : Memory) (s : Slots) (number : ℕ) (k : KeysTold) (d : Found (Option Keyed))
    → k ≡ keys_below l m s number → d ≡ key_at l m s number → with_key k d ≡ keys_below l m s (number + 1)
unfolding keys_below
below_more l m s number k d e same =
    let next : suc number ≡ number + 1 = omega arith in
    rw (e, same) (ap (keys_below l m s) next)

module _ {l : Layout} {s : Slots} {s0 s1 s2 : Seen} {number : ℕ} (old new : Keys)
    (read : Result (Option Keyed) NamesError) where
  pub keying_more : Keying l s s0 s1 number (keys_of old) → Reads names_fault 4 s1 s2 (λ m. key_at l m s number) read
      → KeyAdded old new read → Keying l s s0 s2 (number + 1) (keys_of new)
  keying_more t r added = record {
    few = omega (arith, t.few, few_step old new read added);
    reading = reading_gives _ _ (reading_then (λ m. keys_of new ≡ keys_below l m s (number + 1)) t.reading r
        (λ m e a. key_step old new (key_at l m s number) read a added
        ∙ below_more l m s number (keys_of old) (key_at l m s number) e refl)) (omega arith) (λ m h. h);
  }

-- all that is told of a dict's slots
pub keys_all : (l : Layout) (m : Memory) (s : Slots) (count looked : ℕ) (keys : KeysTold)
    → keys ≡ keys_below l m s looked → looked ≡ min count 65536 → count ≡ s.count
    → with_more keys (count - looked) ≡ keys_in l m s
unfolding keys_in
keys_all l m s count looked keys e few all = rw (e, few, all) refl

-- one thread more
pub thread_more : (keys : List Keyed) (k : Keyed) (id : ℕ)
    → thread_under (keys ++ k ∷ []) id ≡ cond (nat_eq k.id id) (Some k.thread) (thread_under keys id)
thread_more keys k id =
    ap (λ l. option_map (λ (x : Keyed). x.thread) (find (λ x. nat_eq x.id id) l)) (reverse-append keys (k ∷ []))
    ∙ by (nat_eq k.id id)
  where
    by : (t : Bool) → option_map (λ (x : Keyed). x.thread) (cond t (Some k) (find (λ x. nat_eq x.id id) (reverse keys)))
        ≡ cond t (Some k.thread) (thread_under keys id)
    by true = refl
    by false = refl
