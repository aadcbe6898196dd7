-- The parts of an object, one after another: those in front of the first missing one, and their words.
use Rattle.std.proofs.Common.{◌≡◌, ℕ, zero, suc, ◌+◌, ◌*◌, ◌-◌, ◌<◌, ◌≤◌, List, [], ◌++◌, refl, ◌∙◌, arith, rules}
use Rattle.std.specs.Prelude.{Option, Some, None, IsSome, Result, Ok, Err}
use Rattle.process_memory.specs.Memory.{Memory, Found, Fault}
use Rattle.process_memory.specs.Seen.{Seen, Reading, Answers, FaultIs}
use Rattle.process_memory.proofs.Reading.{reading_then, reading_gives, reading_none}
use Rattle.py_fields.specs.declared.layout.Layout.{Layout}
use Rattle.py_builtins.specs.declared.error.ObjectError.{ObjectError}
use Rattle.py_builtins.specs.ObjectError.{object_fault}
use Rattle.object_reach.specs.declared.objects.ObjectRead.{ObjectRead}
use Rattle.object_reach.specs.declared.reached.ReachError.{ReachError}
use Rattle.object_reach.specs.declared.reached.ReachError.TheVariants.{ReachLimit, OutOfMemory}
use Rattle.object_reach.specs.Objects.{PartsRead, all_or, object_at, object_of, object_with, part_words, parts_found}
use Rattle.object_reach.specs.Objects.{parts_in_front, words_of_first}
use Rattle.object_reach.specs.Reading.{IsBroken, ShowsObject, ShowsOr, slots_cost}

words_next : (part : ℕ → Found (List ℕ)) (n : ℕ) (ws w : List ℕ) → words_of_first part n ≡ Ok ws → part n ≡ Ok w → words_of_first part (suc n) ≡ Ok (ws ++ w)
unfolding words_of_first
words_next part n ws w h e = rw (h, e) refl

words_stop : (part : ℕ → Found (List ℕ)) (n : ℕ) (ws : List ℕ) (f : Fault) → words_of_first part n ≡ Ok ws → part n ≡ Err f → words_of_first part (suc n) ≡ Err f
unfolding words_of_first
words_stop part n ws f h e = rw (h, e) refl

words_lost : (part : ℕ → Found (List ℕ)) (n : ℕ) (f : Fault) → words_of_first part n ≡ Err f → words_of_first part (suc n) ≡ Err f
unfolding words_of_first
words_lost part n f h = rw h refl

front_all : (part : ℕ → Found (List ℕ)) (n : ℕ) (ws : List ℕ) → words_of_first part n ≡ Ok ws → parts_in_front part n ≡ n
unfolding parts_in_front
front_all part zero ws h = refl
front_all part (suc n) ws h = rw h refl

front_lost : (part : ℕ → Found (List ℕ)) (n : ℕ) (f : Fault) → words_of_first part (suc n) ≡ Err f → parts_in_front part (suc n) ≡ parts_in_front part n
unfolding parts_in_front
front_lost part n f h = rw h refl

-- what is behind a missing part changes nothing
words_stay : (part : ℕ → Found (List ℕ)) (n k count : ℕ) (f : Fault) → count ≡ k + suc n → words_of_first part (suc n) ≡ Err f → words_of_first part count ≡ Err f
words_stay part n zero count f e h = let same : count ≡ suc n = omega (arith, e) in rw same h
words_stay part n (suc k) count f e h = let same : count ≡ suc (k + suc n) = omega (arith, e) in rw same (words_lost part (k + suc n) f (words_stay part n k (k + suc n) f refl h))

front_stay : (part : ℕ → Found (List ℕ)) (n k count : ℕ) (f : Fault) → count ≡ k + suc n → words_of_first part (suc n) ≡ Err f → parts_in_front part count ≡ parts_in_front part n
front_stay part n zero count f e h = let same : count ≡ suc n = omega (arith, e) in rw same (front_lost part n f h)
front_stay part n (suc k) count f e h =
    let same : count ≡ suc (k + suc n) = omega (arith, e) in
    let more : words_of_first part (suc (k + suc n)) ≡ Err f = words_lost part (k + suc n) f (words_stay part n k (k + suc n) f refl h) in
    rw same (front_lost part (k + suc n) f more ∙ front_stay part n k (k + suc n) f refl h)

all_or-least : (d : Found (List ℕ)) (all fewer n : ℕ) → n ≤ all → n ≤ fewer → n ≤ all_or d all fewer
all_or-least (Ok ws) all fewer n h k = h
all_or-least (Err f) all fewer n h k = k

front_least : (part : ℕ → Found (List ℕ)) (n k count : ℕ) (ws : List ℕ) → count ≡ k + n → words_of_first part n ≡ Ok ws → n ≤ parts_in_front part count
unfolding parts_in_front
front_least part n zero count ws e h = let same : count ≡ n = omega (arith, e) in rw same (omega (arith, front_all part n ws h))
front_least part n (suc k) count ws e h =
    let same : count ≡ suc (k + n) = omega (arith, e) in
    rw same (all_or-least (words_of_first part (suc (k + n))) (suc (k + n)) (parts_in_front part (k + n)) n (omega arith) (front_least part n k (k + n) ws refl h))

-- ---- an object by its parts: whole, broken, or of more slots than there is room for
whole_object : (part : ℕ → Found (List ℕ)) (count room : ℕ) (found : ObjectRead) (ws : List ℕ) → words_of_first part count ≡ Ok ws → count ≤ room → found.slots ≡ count → found.words.items ≡ ws → found.broken ≡ None → ShowsObject (object_with (parts_in_front part count) (words_of_first part count)) room found
whole_object part count room found ws h fits slots words broken =
    let front = front_all part count ws h in
    rw (h, front) (record { slots = slots; fits = fits; words = words; broken = rw broken refl })

broken_object : (part : ℕ → Found (List ℕ)) (number k count room : ℕ) (found : ObjectRead) (ws : List ℕ) (f : Fault) → count ≡ k + suc number → words_of_first part number ≡ Ok ws → part number ≡ Err f → number ≤ room → found.slots ≡ number → found.words.items ≡ [] → (e : ObjectError) → found.broken ≡ Some e → object_fault e ≡ Some f → ShowsObject (object_with (parts_in_front part count) (words_of_first part count)) room found
broken_object part number k count room found ws f behind h missing fits slots words e broken fault =
    let stop = words_stop part number ws f h missing in
    let lost = words_stay part number k count f behind stop in
    let front = front_stay part number k count f behind stop ∙ front_all part number ws h in
    rw (lost, front) (record { slots = slots; fits = fits; words = words; broken = rw (broken, fault) refl })

over_slots : (d : Found (List ℕ)) (n number : ℕ) → number < n → number < (object_with n d).slots
over_slots (Ok ws) n number h = h
over_slots (Err f) n number h = h

over_object : (part : ℕ → Found (List ℕ)) (number k count : ℕ) (ws w : List ℕ) → count ≡ k + suc number → words_of_first part number ≡ Ok ws → part number ≡ Ok w → number < (object_with (parts_in_front part count) (words_of_first part count)).slots
over_object part number k count ws w behind h more =
    let least = front_least part (suc number) k count (ws ++ w) behind (words_next part number ws w h more) in
    over_slots (words_of_first part count) _ number (omega (arith, least))

-- ---- the words of the parts before a number were read
pub record Filling (parts : PartsRead) (s0 s1 : Seen) (room number : ℕ) (words : List ℕ) : Type 0 where
  pub within : number ≤ room
  pub reading : Reading (2 * number) s0 s1 (λ m. words_of_first (part_words m parts.place) number ≡ Ok words)

words_none : (part : ℕ → Found (List ℕ)) → words_of_first part 0 ≡ Ok []
unfolding words_of_first
words_none part = refl

pub filling_init : (parts : PartsRead) (s : Seen) (room : ℕ) → Filling parts s s room 0 []
filling_init parts s room = record { within = omega arith; reading = reading_none 0 s _ (λ m. words_none (part_words m parts.place)) }

ok_is : {T E : Type 0} {fault : E → Option Fault} {d : Found T} {x : T} → Answers fault d (Ok x) → d ≡ Ok x
ok_is a = a.is

fault_of_some : (o : Option Fault) → IsSome o → (f : Fault) × (o ≡ Some f)
fault_of_some None e = absurd (search rules)
fault_of_some (Some f) e = (f, refl)

fault_is : {T : Type 0} (d : Found T) (o : Option Fault) (f : Fault) → o ≡ Some f → FaultIs d o → d ≡ Err f
fault_is d o f e h = rw e at h

pub filling_more : {parts : PartsRead} {s0 s1 s2 : Seen} {room number : ℕ} {words w : List ℕ} → Filling parts s0 s1 room number words → number < room → Reading 2 s1 s2 (λ m. Answers {E = ObjectError} object_fault (part_words m parts.place number) (Ok w)) → Filling parts s0 s2 room (number + 1) (words ++ w)
filling_more {parts} {number = number} {words = words} {w = w} h below part =
    let next : number + 1 ≡ suc number = omega arith in
    record {
      within = omega (arith, below);
      reading = reading_gives (2 * (number + 1)) _ (reading_then (λ m. words_of_first (part_words m parts.place) (number + 1) ≡ Ok (words ++ w)) h.reading part
          (λ m had more. rw next (words_next (part_words m parts.place) number words w had (ok_is more)))) (omega arith) (λ m a. a);
    }

pub filling_done : {parts : PartsRead} {s0 s1 : Seen} {room number : ℕ} {words : List ℕ} (found : ObjectRead) → Filling parts s0 s1 room number words → number ≡ parts.count → found.slots ≡ parts.count → found.words.items ≡ words → found.broken ≡ None → Reading (2 + 2 * found.slots) s0 s1 (λ m. ShowsObject (object_of m parts) room found)
filling_done {parts} {room = room} {number = number} {words = words} found h all slots kept broken =
    let within = h.within in
    reading_gives (2 + 2 * found.slots) _ h.reading (omega (arith, slots, all))
    (λ m had. whole_object (part_words m parts.place) parts.count room found words (rw all at had) (omega (arith, within, all)) slots kept broken)

pub filling_over : {parts : PartsRead} {s0 s1 s2 : Seen} {room number : ℕ} {words w : List ℕ} → Filling parts s0 s1 room number words → room ≤ number → number < parts.count → Reading 2 s1 s2 (λ m. Answers {E = ObjectError} object_fault (part_words m parts.place number) (Ok w)) → Reading (2 + 2 * room) s0 s2 (λ m. room < (object_of m parts).slots)
filling_over {parts} {room = room} {number = number} {words = words} {w = w} h full more part =
    let here : number ≡ room = omega (arith, full, h.within) in
    let behind : parts.count ≡ (parts.count - suc number) + suc number = omega (arith, more) in
    reading_gives (2 + 2 * room) _ (reading_then (λ m. number < (object_of m parts).slots) h.reading part
    (λ m had next. over_object (part_words m parts.place) number (parts.count - suc number) parts.count words w behind had (ok_is next))) (omega (arith, here)) (λ m a. omega (arith, a, here))

pub filling_out : {parts : PartsRead} {s0 s1 s2 : Seen} {room number : ℕ} {words : List ℕ} {Q : Memory → Type 0} (e : ReachError) → e ≡ OutOfMemory → Filling parts s0 s1 room number words → Reading 2 s1 s2 Q → Reading (slots_cost room (Err e)) s0 s2 (λ m. ShowsOr (object_of m parts) room (Err e))
filling_out {parts} {room = room} e is h part =
    let within = h.within in
    rw is (reading_gives (2 + 2 * room) _ (reading_then (λ m. Unit {0}) h.reading part (λ m a b. tt)) (omega (arith, within)) (λ m a. a))

pub filling_lost : {parts : PartsRead} {s0 s1 s2 : Seen} {room number : ℕ} {words : List ℕ} (error : ObjectError) (result : Result ObjectRead ReachError) → Filling parts s0 s1 room number words → number < parts.count → Reading 2 s1 s2 (λ m. Answers {T = List ℕ} object_fault (part_words m parts.place number) (Err error)) → IsBroken error number result → Reading (slots_cost room result) s0 s2 (λ m. ShowsOr (object_of m parts) room result)
filling_lost error (Err ReachLimit) h more part broken = absurd broken
filling_lost error (Err OutOfMemory) h more part broken = filling_out OutOfMemory refl h part
filling_lost {parts} {room = room} {number = number} {words = words} error (Ok found) h more part broken =
    let f = fault_of_some (object_fault error) broken.3 in
    let behind : parts.count ≡ (parts.count - suc number) + suc number = omega (arith, more) in
    reading_gives (2 + 2 * found.slots) _ (reading_then (λ m. ShowsObject (object_of m parts) room found) h.reading part
    (λ m had lost. broken_object (part_words m parts.place) number (parts.count - suc number) parts.count room found words f.0 behind had (fault_is _ _ f.0 f.1 lost.is) h.within broken.0 broken.1 error broken.2 f.1))
    (omega (arith, broken.0)) (λ m a. a)

-- ---- an object whose parts were found, or were not
pub object_next : (l : Layout) (a room : ℕ) {s0 s1 s2 : Seen} (parts : PartsRead) (result : Result ObjectRead ReachError) → Reading 4 s0 s1 (λ m. Answers {E = ObjectError} object_fault (parts_found l m a) (Ok parts)) → Reading (slots_cost room result) s1 s2 (λ m. ShowsOr (object_of m parts) room result) → Reading (4 + slots_cost room result) s0 s2 (λ m. ShowsOr (object_at l m a) room result)
unfolding object_at
object_next l a room parts result p q = reading_then (λ m. ShowsOr (object_at l m a) room result) p q (λ m h k. rw (ok_is h) k)

lost_object : (f : Fault) (room : ℕ) (error : ObjectError) (result : Result ObjectRead ReachError) → object_fault error ≡ Some f → IsBroken error 0 result → ShowsOr (object_with 0 (Err f)) room result
lost_object f room error (Err ReachLimit) fault broken = absurd broken
lost_object f room error (Err OutOfMemory) fault broken = tt
lost_object f room error (Ok found) fault broken =
    let is = broken.2 in record { slots = broken.0; fits = omega arith; words = broken.1; broken = rw (is, fault) refl }

pub object_lost : (l : Layout) (a room : ℕ) {s0 s1 : Seen} (error : ObjectError) (result : Result ObjectRead ReachError) → Reading 4 s0 s1 (λ m. Answers {T = PartsRead} object_fault (parts_found l m a) (Err error)) → IsBroken error 0 result → Reading (4 + slots_cost room result) s0 s1 (λ m. ShowsOr (object_at l m a) room result)
unfolding object_at
object_lost l a room error (Err ReachLimit) p broken = absurd broken
object_lost l a room error (Err OutOfMemory) p broken = reading_gives _ _ p (omega arith) (λ m h. tt)
object_lost l a room error (Ok found) p broken =
    let f = fault_of_some (object_fault error) broken.3 in
    reading_gives _ _ p (omega arith) (λ m h. let is = fault_is _ _ f.0 f.1 h.is in rw is (lost_object f.0 room error (Ok found) f.1 broken))
