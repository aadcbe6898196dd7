-- The first entries and members that were read, as levels.
use Rattle.std.proofs.Common.{◌≡◌, ℕ, ◌+◌, ◌-◌, ◌*◌, ◌≤◌, ◌∙◌, List, length, map, ap, arith}
use Rattle.std.specs.Prelude.{Option}
use Rattle.std.proofs.lemmas.List.{length-take, length-map}
use Rattle.process_memory.specs.Memory.{Memory}
use Rattle.py_builtins.specs.declared.keys.Slots.{Slots}
use Rattle.py_reprs.specs.declared.limits.Limits.{Limits}
use Rattle.py_reprs.specs.declared.places.Place.{Place}
use Rattle.py_reprs.specs.declared.repr.ItemsForm.{ItemsForm}
use Rattle.py_reprs.specs.declared.slots.EntryPlace.{EntryPlace}
use Rattle.py_reprs.specs.LevelForms.{Entries, Row}
use Rattle.py_reprs.specs.Limits.{share, shown_count, shown_entries}
use Rattle.py_reprs.specs.Slots.{entries_in, entries_level_at, entry_at, first_held, held, looked_at, member_at}
use Rattle.py_reprs.specs.Slots.{members_in, members_level_at}
use Rattle.py_reprs.proofs.Shares.{share_fits}

less : (n k s nodes : ℕ) → n ≤ k → k * s ≤ nodes → n * s ≤ nodes
less n k s nodes le h = grind arith

first_few : {T : Type 0} (f : ℕ → Option T) (most looked : ℕ) (found : List T) → found ≡ first_held f most looked
    → length found ≤ most
first_few f most looked found e = omega (arith, ap length e, length-take most (held f looked))

pub members_is : (b : Limits) (m : Memory) (form : ItemsForm) (nodes used mask table shown looked s left : ℕ)
    (found : List Place) → shown ≡ shown_count b.items nodes used → looked ≡ looked_at b (mask + 1)
    → found ≡ first_held (member_at m table) shown looked → s ≡ share nodes shown → left ≡ used - length found
    → Row form found s left ≡ members_level_at b m form nodes used mask table
unfolding members_level_at
members_is b m form nodes used mask table shown looked s left found e k h q o =
    ap (λ x. Row form found x left) q ∙ ap (λ x. Row form found (share nodes shown) x) o
    ∙ ap (members_in form nodes used shown) h
    ∙ ap (λ n. members_in form nodes used shown (first_held (member_at m table) shown n)) k
    ∙ ap (λ n. members_in form nodes used n (first_held (member_at m table) n (looked_at b (mask + 1)))) e

pub members_fit : {T : Type 0} (f : ℕ → Option T) (nodes shown looked : ℕ) (found : List T)
    → found ≡ first_held f shown looked → shown ≤ nodes → length found * (1 + share nodes shown) ≤ nodes
members_fit f nodes shown looked found e le =
    less (length found) shown (1 + share nodes shown) nodes (first_few f shown looked found e)
    (share_fits nodes shown le)

pub entries_is : (b : Limits) (m : Memory) (slots : Slots) (nodes used shown looked s left : ℕ) (found : List EntryPlace)
    (keys values : List Place) → shown ≡ shown_entries b.items nodes used → looked ≡ looked_at b slots.count
    → found ≡ first_held (entry_at m slots) shown looked → keys ≡ map (λ e. e.key) found
    → values ≡ map (λ e. e.value) found → s ≡ share nodes (2 * shown) → left ≡ used - length found
    → Entries keys values s left ≡ entries_level_at b m nodes used slots
unfolding entries_level_at
entries_is b m slots nodes used shown looked s left found keys values e k h p v q o =
    ap (λ x. Entries x values s left) p ∙ ap (λ x. Entries (map (λ e. e.key) found) x s left) v
    ∙ ap (λ x. Entries (map (λ e. e.key) found) (map (λ e. e.value) found) x left) q
    ∙ ap (λ x. Entries (map (λ e. e.key) found) (map (λ e. e.value) found) (share nodes (2 * shown)) x) o
    ∙ ap (entries_in nodes used shown) h
    ∙ ap (λ n. entries_in nodes used shown (first_held (entry_at m slots) shown n)) k
    ∙ ap (λ n. entries_in nodes used n (first_held (entry_at m slots) n (looked_at b slots.count))) e

pub entries_fit : (f : ℕ → Option EntryPlace) (nodes shown looked : ℕ) (found : List EntryPlace) (keys values : List Place)
    → found ≡ first_held f shown looked → keys ≡ map (λ e. e.key) found → values ≡ map (λ e. e.value) found
    → 2 * shown ≤ nodes → (length keys + length values) * (1 + share nodes (2 * shown)) ≤ nodes
entries_fit f nodes shown looked found keys values e p v le =
    let k : length keys ≡ length found = ap length p ∙ length-map found (λ e. e.key) in
    let n : length values ≡ length found = ap length v ∙ length-map found (λ e. e.value) in
    less (length keys + length values) (2 * shown) (1 + share nodes (2 * shown)) nodes
    (omega (arith, k, n, first_few f shown looked found e)) (share_fits nodes (2 * shown) le)
