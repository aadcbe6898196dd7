-- A search over a process: what it has read, and what it may answer where it stops.
use Rattle.std.proofs.Common.{◌≡◌, ℕ, ◌+◌, ◌*◌, ◌-◌, ◌^◌, ◌<◌, ◌≤◌, ◌⊎◌, ◌↔◌, List, [], ◌∷◌, length, map, refl, ap, ◌∙◌}
use Rattle.std.proofs.Common.{arith, subst, Option}
use Rattle.std.specs.Prelude.{Ok, Err}
use Rattle.std.specs.BTreeMap.{insert_entry}
use Rattle.std.specs.List.{Contains}
use Rattle.std.specs.List.Sorted.{IsStrictlySortedBy}
use Rattle.std.specs.Map.{keys_of}
use Rattle.std.specs.Ordering.{nat_cmp}
use Rattle.std.proofs.lemmas.List.{length-map}
use Rattle.std.proofs.lemmas.List.Sorted.{length_permutation}
use Rattle.std.proofs.lemmas.Map.Entries.{length-keys_of}
use Rattle.process_memory.specs.Memory.{byte_at}
use Rattle.process_memory.specs.Seen.{Seen, Reading}
use Rattle.process_memory.proofs.Reading.{reading_here, reading_then, reading_gives, reading_none}
use Rattle.py_fields.specs.declared.layout.Layout.{Layout}
use Rattle.py_builtins.specs.declared.error.ObjectError.{ObjectError}
use Rattle.object_reach.specs.declared.objects.ObjectRead.{ObjectRead}
use Rattle.object_reach.specs.declared.reached.ReachError.{ReachError}
use Rattle.object_reach.specs.declared.reached.ReachError.TheVariants.{ReachLimit, OutOfMemory}
use Rattle.object_reach.specs.declared.reached.ReachObject.{ReachObject}
use Rattle.object_reach.specs.Objects.{IsNamed, Object, object_at}
use Rattle.object_reach.specs.Reading.{ShowsObject, ShowsOr, listed_as, reach_cost, slots_cost}
use Rattle.object_reach.specs.Reach.{IsRightReach, PassesLimit, addresses, slots_in_all}
use Rattle.object_reach.specs.Front.{AddsToFront, Overfills}
use Rattle.object_reach.proofs.Sums.{permutation-insert_entry}
use Rattle.object_reach.proofs.Searches.{IsFront, addresses-listed, children_pass, front_first, front_last, front_next}
use Rattle.object_reach.proofs.Searches.{is_reach, new_key, roots_pass, slots_pass, within_limit}

-- what was read and what waits, over each memory that covers the reads: six for each object, and two for each slot
pub record Searching (l : Layout) (roots : List ℕ) (s0 s1 : Seen) (done : List (ℕ × Option ObjectError)) (pending : List ℕ) (room : ℕ) : Type 0 where
  pub reading : Reading (6 * length (keys_of done) + 2 * (2 ^ 24 - room)) s0 s1 (λ m. IsFront (object_at l m) roots done pending room)

-- what a search may answer that stops
abbrev pub Stops : Layout → List ℕ → Seen → Seen → ReachError → Type 0
Stops l roots s0 s1 e = Reading (6 * 2 ^ 20 + 2 * 2 ^ 24) s0 s1 (λ m. IsRightReach (object_at l m) roots (Err e))

pub searching_init : (l : Layout) (roots : List ℕ) (s : Seen) (done : List (ℕ × Option ObjectError)) (old pending : List ℕ) → done ≡ [] → old ≡ [] → AddsToFront (keys_of done) old (IsNamed roots) pending → Searching l roots s s done pending (2 ^ 24)
searching_init l roots s done old pending d o adds = record { reading = reading_none _ s _ (λ m. front_first (object_at l m) roots done old pending d o adds) }

pub roots_stop : (l : Layout) (roots : List ℕ) (s : Seen) (done : List (ℕ × Option ObjectError)) (old : List ℕ) (e : ReachError) → done ≡ [] → old ≡ [] → (e ≡ ReachLimit → Overfills (keys_of done) old (IsNamed roots)) → Stops l roots s s e
roots_stop l roots s done old ReachLimit d o over = reading_none _ s _ (λ m. roots_pass (object_at l m) roots done old d o (over refl))
roots_stop l roots s done old OutOfMemory d o over = reading_none _ s _ (λ m. tt)

pub searching_popped : {l : Layout} {roots : List ℕ} {s0 s1 : Seen} {done : List (ℕ × Option ObjectError)} {old rest : List ℕ} {a room : ℕ} → old ≡ a ∷ rest → Searching l roots s0 s1 done old room → Searching l roots s0 s1 done (a ∷ rest) room
searching_popped {l} {roots} {s0} {s1} {done} {room = room} is h = subst (λ ps. Searching l roots s0 s1 done ps room) is h

-- the next object is too much, or memory ran out at it
pub read_stop : {l : Layout} {roots : List ℕ} {s0 s1 s2 : Seen} {done : List (ℕ × Option ObjectError)} {rest : List ℕ} {a room : ℕ} (e : ReachError) → Searching l roots s0 s1 done (a ∷ rest) room → Reading (4 + slots_cost room (Err e)) s1 s2 (λ m. ShowsOr (object_at l m a) room (Err e)) → Stops l roots s0 s2 e
read_stop {l} {roots} {done = done} {rest = rest} {a = a} {room = room} ReachLimit h p =
    let front = reading_here h.reading in
    reading_gives _ _ (reading_then (λ m. PassesLimit (object_at l m) roots) h.reading p (λ m f more. slots_pass (object_at l m) roots done rest room a f more))
    (omega (arith, front.fits, front.slots)) (λ m x. x)
read_stop OutOfMemory h p =
    let front = reading_here h.reading in
    reading_gives _ _ (reading_then (λ m. Unit {0}) h.reading p (λ m f more. tt)) (omega (arith, front.fits, front.slots)) (λ m x. x)

-- one object more
module _ {l : Layout} {roots : List ℕ} {s0 s1 s2 : Seen} {done : List (ℕ × Option ObjectError)} {rest : List ℕ} {a room : ℕ} (found : ObjectRead) where
  -- its slots fit
  pub read_fits : Searching l roots s0 s1 done (a ∷ rest) room → Reading (4 + (2 + 2 * found.slots)) s1 s2 (λ m. ShowsObject (object_at l m a) room found) → found.slots ≤ room
  read_fits h p = let shows = reading_here p in omega (arith, shows.slots, shows.fits)

  pub next_spent : Searching l roots s0 s1 done (a ∷ rest) room → Reading (4 + (2 + 2 * found.slots)) s1 s2 (λ m. ShowsObject (object_at l m a) room found)
      → 6 * length (keys_of done) + 2 * (2 ^ 24 - room) + (4 + (2 + 2 * found.slots)) ≤ 6 * 2 ^ 20 + 2 * 2 ^ 24
  next_spent h p = let front = reading_here h.reading in let fits = read_fits h p in omega (arith, front.fits, front.slots, fits)

  -- memory ran out behind it
  pub lost_stop : Searching l roots s0 s1 done (a ∷ rest) room → Reading (4 + (2 + 2 * found.slots)) s1 s2 (λ m. ShowsObject (object_at l m a) room found) → Stops l roots s0 s2 OutOfMemory
  lost_stop h p = reading_gives _ _ (reading_then (λ m. Unit {0}) h.reading p (λ m f more. tt)) (next_spent h p) (λ m x. x)

  -- its children are too many
  pub children_stop : (e : ReachError) (now : List (ℕ × Option ObjectError)) → Searching l roots s0 s1 done (a ∷ rest) room
      → Reading (4 + (2 + 2 * found.slots)) s1 s2 (λ m. ShowsObject (object_at l m a) room found)
      → ((q : ℕ) → Contains (keys_of now) q ↔ (Contains (keys_of done) q ⊎ (q ≡ a)))
      → (e ≡ ReachLimit → Overfills (keys_of now) rest (IsNamed found.words.items)) → Stops l roots s0 s2 e
  children_stop ReachLimit now h p members over =
      reading_gives _ _ (reading_then (λ m. PassesLimit (object_at l m) roots) h.reading p (λ m f shows. children_pass (object_at l m) roots done now rest room a found f shows members (over refl)))
      (next_spent h p) (λ m x. x)
  children_stop OutOfMemory now h p members over = lost_stop h p

  pub searching_next : (now : List (ℕ × Option ObjectError)) (after words : List ℕ) → Searching l roots s0 s1 done (a ∷ rest) room
      → Reading (4 + (2 + 2 * found.slots)) s1 s2 (λ m. ShowsObject (object_at l m a) room found)
      → now ≡ insert_entry nat_cmp done a found.broken
      → ((q : ℕ) → Contains (keys_of now) q ↔ (Contains (keys_of done) q ⊎ (q ≡ a)))
      → IsStrictlySortedBy nat_cmp (keys_of now) → words ≡ found.words.items
      → AddsToFront (keys_of now) rest (IsNamed words) after → Searching l roots s0 s2 now after (room - found.slots)
  searching_next now after words h p is members sorted same adds =
      let front = reading_here h.reading in
      let fits = read_fits h p in
      let more = length_permutation _ _ (permutation-insert_entry done a found.broken (new_key (keys_of done) rest a front.apart)) in
      let longer = ap (λ (es : List (ℕ × Option ObjectError)). length (keys_of es)) is in
      record {
        reading = reading_gives _ _ (reading_then (λ m. IsFront (object_at l m) roots now after (room - found.slots)) h.reading p
            (λ m f shows. front_next (object_at l m) roots done now rest after words room a found f shows is members sorted same adds))
            (omega (arith, front.slots, fits, longer, more)) (λ m x. x);
      }

-- the end
pub searching_done : {l : Layout} {roots : List ℕ} {s0 s1 : Seen} {done : List (ℕ × Option ObjectError)} {pending : List ℕ} {room : ℕ} (objects : List ReachObject) → Searching l roots s0 s1 done pending room → (0 < length pending → ⊥) → objects ≡ map listed_as done → Reading (reach_cost (object_at l (byte_at s0.pieces)) (Ok objects)) s0 s1 (λ m. IsRightReach (object_at l m) roots (Ok objects))
searching_done {l} {roots} {s0} {done = done} {pending = pending} {room = room} objects h none is =
    let front = reading_here h.reading in
    let same : addresses objects ≡ keys_of done = ap addresses is ∙ addresses-listed done in
    let heap : ℕ → Object = object_at l (byte_at s0.pieces) in
    let slots : slots_in_all heap (addresses objects) ≡ slots_in_all heap (keys_of done) = ap (slots_in_all heap) same in
    let many : length objects ≡ length (map listed_as done) = ap length is in
    let spent : 6 * length (keys_of done) + 2 * (2 ^ 24 - room) ≤ reach_cost heap (Ok objects) = omega (arith, front.slots, slots, many, length-map done (λ (e : ℕ × Option ObjectError). listed_as e), length-keys_of done) in
    reading_gives _ _ h.reading spent
    (λ m f. let last = front_last (object_at l m) roots done pending room f none in (is_reach (object_at l m) roots done room objects last is, within_limit (object_at l m) roots done room last))

pub listed_stop : {l : Layout} {roots : List ℕ} {s0 s1 : Seen} {done : List (ℕ × Option ObjectError)} {pending : List ℕ} {room : ℕ} (e : ReachError) → e ≡ OutOfMemory → Searching l roots s0 s1 done pending room → Stops l roots s0 s1 e
listed_stop e is h = let front = reading_here h.reading in rw is (reading_gives _ _ h.reading (omega (arith, front.fits, front.slots)) (λ m f. tt))
