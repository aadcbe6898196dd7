-- What is read of one slot after another, up to so many.
use Rattle.std.proofs.Common.{◌≡◌, ℕ, zero, suc, ◌+◌, ◌*◌, ◌<◌, ◌≤◌, true, false, ltb, List, [], ◌++◌, length, take, refl}
use Rattle.std.proofs.Common.{sym, ap, ◌∙◌, arith, inl, inr, length-append}
use Rattle.std.specs.Prelude.{Option, Some, None, Result, Err, IfOk}
use Rattle.std.proofs.lemmas.Bool.{cases_lt}
use Rattle.std.proofs.lemmas.Bool.Decides.{nat_tests}
use Rattle.std.proofs.lemmas.List.{length-take, take-append-le, take_all}
use Rattle.process_memory.specs.Memory.{Fault, Found, Memory}
use Rattle.process_memory.specs.Seen.{Answers, FaultIs, Reading, Seen}
use Rattle.process_memory.proofs.Reading.{reading_gives, reading_none, reading_then}
use Rattle.py_builtins.specs.ObjectError.{object_fault}
use Rattle.py_builtins.specs.declared.dicts.Slot.{Slot}
use Rattle.py_builtins.specs.declared.error.ObjectError.{ObjectError}
use Rattle.py_reprs.specs.declared.error.ReprError.{ReprError}
use Rattle.py_reprs.specs.declared.slots.EntryPlace.{EntryPlace}
use Rattle.py_reprs.specs.Slots.{LostBy, entry_by, first_held, held, one_of, with_slot}

-- an entry that could not be read
module _ (d : Found Slot) (r : Result (Option EntryPlace) ReprError) where
  lost_is : (o : Option Fault) → FaultIs d o → LostBy o r → IfOk r (λ x. x ≡ entry_by d)
  lost_is None h e = rw e tt
  lost_is (Some f) h e = rw (e, h) refl

  pub entry_lost : (error : ObjectError) → Answers {T = Slot} object_fault d (Err error) → LostBy (object_fault error) r
      → IfOk r (λ x. x ≡ entry_by d)
  entry_lost error h e = lost_is (object_fault error) h.is e

pub with_none : {T : Type 0} (most : ℕ) (found : List T) (slot : Option T) → most ≤ length found
    → found ≡ with_slot most found slot
with_none most found slot full =
    let no : ltb (length found) most ≡ false = grind (arith, nat_tests) in rw no refl

held_more : {T : Type 0} (f : ℕ → Option T) (n : ℕ) → held f (n + 1) ≡ held f n ++ one_of (f n)
unfolding held
held_more f n = let one : n + 1 ≡ suc n = omega arith in rw one refl

one_length : {T : Type 0} (o : Option T) → length (one_of o) ≤ 1
one_length None = omega arith
one_length (Some x) = omega arith

-- the first of what one more slot has
first_more : {T : Type 0} (most : ℕ) (xs : List T) (o : Option T)
    → with_slot most (take most xs) o ≡ take most (xs ++ one_of o)
first_more most xs o = elim (cases_lt (length xs) most) [
  | inl lt ↦
      let all : take most xs ≡ xs = take_all most xs (omega arith) in
      let yes : ltb (length xs) most ≡ true = grind (arith, nat_tests) in
      let more : take most (xs ++ one_of o) ≡ xs ++ one_of o =
      take_all most (xs ++ one_of o) (omega (arith, length-append xs (one_of o), one_length o)) in
      rw (all, yes, more) refl
  | inr ge ↦
      let full : length (take most xs) ≡ most = length-take most xs ∙ omega arith in
      sym (with_none most (take most xs) o (omega (arith, full))) ∙ sym (take-append-le most xs (one_of o) ge)
]

pub record Picking {T : Type 0} (f : Memory → ℕ → Option T) (cost : ℕ) (s0 s1 : Seen) (most looked number : ℕ)
    (out : List T) : Type 0 where
  pub within : number ≤ looked
  pub spent : ℕ
  pub few : spent ≡ cost * number
  pub reading : Reading spent s0 s1 (λ m. out ≡ first_held (f m) most number)

none_held : {T : Type 0} (f : ℕ → Option T) (most : ℕ) → [] ≡ first_held f most 0
unfolding held
none_held f zero = refl
none_held f (suc n) = refl

pub picking_init : {T : Type 0} (f : Memory → ℕ → Option T) (cost : ℕ) (s : Seen) (most looked : ℕ) (out : List T)
    → out ≡ [] → Picking f cost s s most looked 0 out
picking_init f cost s most looked out e =
    record {
      within = omega arith;
      spent = 0;
      few = grind arith;
      reading = reading_none 0 s _ (λ m. e
          ∙ none_held (f m) most);
    }

more_cost : (cost number : ℕ) → cost * number + cost ≡ cost * (number + 1)
more_cost cost number = grind arith

le_cost : (cost number count : ℕ) → number ≤ count → cost * number ≤ cost * count
le_cost cost number count le = grind arith

module _ {T : Type 0} {f : Memory → ℕ → Option T} {cost : ℕ} {s0 s1 : Seen} {most looked number : ℕ}
    {out : List T} where
  pub picking_more : {s2 : Seen} {more : List T} → Picking f cost s0 s1 most looked number out → number < looked
      → Reading cost s1 s2 (λ m. more ≡ with_slot most out (f m number))
      → Picking f cost s0 s2 most looked (number + 1) more
  picking_more {more = more} t lt r = record {
    within = omega (arith, lt);
    spent = t.spent + cost;
    few = ap (λ n. n + cost) t.few ∙ more_cost cost number;
    reading = reading_then (λ m. more ≡ first_held (f m) most (number + 1)) t.reading r
        (λ m e h. h ∙ ap (λ xs. with_slot most xs (f m number)) e ∙ first_more most (held (f m) number) (f m number)
        ∙ ap (take most) (sym (held_more (f m) number)));
  }

  pub picking_done : Picking f cost s0 s1 most looked number out → looked ≤ number
      → Reading (cost * looked) s0 s1 (λ m. out ≡ first_held (f m) most looked)
  picking_done t all =
      let same : number ≡ looked = omega (arith, t.within) in
      reading_gives _ _ t.reading (rw t.few (le_cost cost number looked t.within)) (λ m e. e
      ∙ ap (first_held (f m) most) same)

  pub picking_lost : {s2 : Seen} {P : Memory → Type 0} → Picking f cost s0 s1 most looked number out
      → number < looked → Reading cost s1 s2 P → Reading (cost * looked) s0 s2 P
  picking_lost {P = P} t lt r =
      let whole : cost * (number + 1) ≤ cost * looked = le_cost cost (number + 1) looked (omega (arith, lt)) in
      reading_gives _ _ (reading_then P t.reading r (λ m a b. b)) (omega (arith, whole, more_cost cost number, t.few))
      (λ m h. h)
