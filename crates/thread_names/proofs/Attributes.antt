-- The first of some attributes that has a name.
use Rattle.std.proofs.Common.{◌≡◌, ℕ, suc, ◌+◌, ◌*◌, ◌<◌, ◌≤◌, ◌∙◌, List, [], ◌∷◌, length, drop, get_or, refl, sym, ap, arith}
use Rattle.std.proofs.Common.{drop-cons, leb, length-take-le, min, take}
use Rattle.std.proofs.lemmas.Bool.Decides.{nat_tests}
use Rattle.std.proofs.lemmas.List.{drop_all, take_all}
use Rattle.std.specs.Prelude.{Bool, true, false, Option, Some, None, Ok, Err}
use Rattle.process_memory.specs.Memory.{Memory, ◌>>=◌}
use Rattle.process_memory.specs.Seen.{FaultIs, Reading, Reads, Seen}
use Rattle.process_memory.proofs.Reading.{reading_gives, reading_none, reading_then}
use Rattle.py_fields.specs.declared.layout.Layout.{Layout}
use Rattle.py_names.specs.NamesError.{names_fault}
use Rattle.py_names.specs.declared.names_error.NamesError.{NamesError}
use Rattle.instance_dicts.specs.declared.attributes.Attribute.{Attribute}
use Rattle.thread_names.specs.Own.{first_named, or_next, value_if}

abbrev pub no_attribute : Attribute
no_attribute = record { name = 0; value = 0 }

first_step : (l : Layout) (m : Memory) (name : List ℕ) (xs : List Attribute) (number : ℕ) (d : Attribute)
    → number < length xs → first_named l m name (drop number xs)
    ≡ (value_if l m name (get_or xs number d) >>= (λ value. or_next value (first_named l m name (drop (number + 1) xs))))
unfolding first_named
first_step l m name xs number d some =
    let next : suc number ≡ number + 1 = omega arith in
    let here : drop number xs ≡ get_or xs number d ∷ drop (number + 1) xs =
    drop-cons xs number d some ∙ ap (λ n. get_or xs number d ∷ drop n xs) next in
    rw here refl

first_end : (l : Layout) (m : Memory) (name : List ℕ) → first_named l m name [] ≡ Ok None
unfolding first_named
first_end l m name = refl

-- none of the attributes before a number has the name
pub record Looking (l : Layout) (name : List ℕ) (xs : List Attribute) (s0 s1 : Seen) (number : ℕ) : Type 0 where
  pub reading : Reading (2 * number) s0 s1 (λ m. first_named l m name xs ≡ first_named l m name (drop number xs))

pub looking_init : (l : Layout) (name : List ℕ) (xs : List Attribute) (seen : Seen) → Looking l name xs seen seen 0
looking_init l name xs seen = record { reading = reading_none 0 seen _ (λ m. refl) }

module _ {l : Layout} {name : List ℕ} {xs : List Attribute} {s0 s1 s2 : Seen} {number : ℕ} (d : Attribute) where
  pub looking_more : Looking l name xs s0 s1 number → number < length xs
      → Reads {E = NamesError} names_fault 2 s1 s2 (λ m. value_if l m name (get_or xs number d)) (Ok None)
      → Looking l name xs s0 s2 (number + 1)
  looking_more t some r = record {
    reading = reading_gives _ _
        (reading_then (λ m. first_named l m name xs ≡ first_named l m name (drop (number + 1) xs)) t.reading r
        (λ m e a. e ∙ first_step l m name xs number d some
        ∙ ap (λ v. v >>= (λ value. or_next value (first_named l m name (drop (number + 1) xs)))) a.is))
        (omega arith) (λ m h. h);
  }

  pub looking_found : (value : ℕ) → Looking l name xs s0 s1 number → number < length xs
      → Reads {E = NamesError} names_fault 2 s1 s2 (λ m. value_if l m name (get_or xs number d)) (Ok (Some value))
      → Reads {E = NamesError} names_fault (2 * length xs) s0 s2 (λ m. first_named l m name xs) (Ok (Some value))
  looking_found value t some r = reading_gives _ _
      (reading_then (λ m. first_named l m name xs ≡ Ok (Some value)) t.reading r
      (λ m e a. e ∙ first_step l m name xs number d some
      ∙ ap (λ v. v >>= (λ value. or_next value (first_named l m name (drop (number + 1) xs)))) a.is))
      (omega arith) (λ m h. record { is = h })

  pub looking_stop : {e : NamesError} (e' : NamesError) → Looking l name xs s0 s1 number → number < length xs
      → Reads {T = Option ℕ} names_fault 2 s1 s2 (λ m. value_if l m name (get_or xs number d)) (Err e)
      → names_fault e' ≡ names_fault e
      → Reads {T = Option ℕ} names_fault (2 * length xs) s0 s2 (λ m. first_named l m name xs) (Err e')
  looking_stop {e} e' t some r same = reading_gives _ _
      (reading_then (λ m. FaultIs (first_named l m name xs) (names_fault e)) t.reading r
      (λ m was a. elim (names_fault e) as
      (λ o. FaultIs (value_if l m name (get_or xs number d)) o → FaultIs (first_named l m name xs) o) [
        | None ↦ λ h. tt
        | Some f ↦ λ h. was ∙ first_step l m name xs number d some
            ∙ ap (λ v. v >>= (λ value. or_next value (first_named l m name (drop (number + 1) xs)))) h
      ] a.is))
      (omega arith) (λ m h. record { is = rw same h })

pub looking_done : {l : Layout} {name : List ℕ} {xs : List Attribute} {s0 s1 : Seen} {number : ℕ}
    → Looking l name xs s0 s1 number → length xs ≤ number
    → Reads {E = NamesError} names_fault (2 * number) s0 s1 (λ m. first_named l m name xs) (Ok None)
looking_done {l} {name} {xs} {number = number} t all = reading_gives _ _ t.reading (omega arith)
    (λ m e. record { is = e ∙ ap (first_named l m name) (drop_all number xs all) ∙ first_end l m name })

-- the first so many are the first 256, where there are more, and else all
pub few_taken : (xs : List Attribute) (few : ℕ) → few ≡ min (length xs) 256 → take few xs ≡ take 256 xs
few_taken xs few is = by (leb (length xs) 256) refl
  where
    by : (t : Bool) → leb (length xs) 256 ≡ t → take few xs ≡ take 256 xs
    by true e =
        let le : length xs ≤ 256 = grind (arith, nat_tests) in
        let same : few ≡ length xs = omega arith in
        rw same (take_all (length xs) xs (omega arith) ∙ sym (take_all 256 xs le))
    by false e =
        let lt : 256 < length xs = grind (arith, nat_tests) in
        let same : few ≡ 256 = omega arith in
        rw same refl

pub take_few : (xs : List Attribute) (few : ℕ) → few ≡ min (length xs) 256 → 2 * length (take few xs) ≤ 512
take_few xs few is = omega (arith, length-take-le few xs (omega arith))
