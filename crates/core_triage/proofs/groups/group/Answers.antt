use Rattle.std.proofs.Common.{Vec, Global, Bor, BTreeMap, Option, ◌≡◌, ◌<◌, ◌+◌, ℕ, List, [], ◌∷◌, ◌++◌, length}
use Rattle.std.proofs.Common.{take, get_or, set, Some, None, sym, ◌∙◌, ap, subst, arith, map, true}
use Rattle.std.specs.Prelude.{if◌then◌else◌}
use Rattle.std.specs.BTreeMap.{is_at, Updates}
use Rattle.std.specs.Map.{lookup}
use Rattle.std.proofs.lemmas.List.{length-map, take_more, length-take, map-append, map-set, get_or-map, take_all}
use Rattle.core_triage.specs.contracts.key.StackKeyOrd.TheImpl.{ghosts}
use Rattle.core_triage.specs.declared.key.StackKey.{StackKey}
use Rattle.core_triage.specs.Groups.{IsGrouping, groups_of}
use Rattle.core_triage.specs.Keys.{compared_in, same_key}
use Rattle.core_triage.proofs.Growing.{IsAt, at_start, known, fresh, below}
use Rattle.core_triage.proofs.Groupings.{are_grouping, by_view}
use Rattle.core_triage.proofs.Keys.{same_keys, same_laws, by_order}
use Rattle.core_triage.proofs.groups.group.Invariants.{items_of, number_of}
use Rattle.core_triage.proofs.groups.group.Goals.{in-Some+in_ok-push-in-Some}
use Rattle.core_triage.proofs.groups.group.Goals.{in-None+in_ok-insert-in-None+in_ok-vec-in-None+in_ok-push-in-None}
use Rattle.core_triage.proofs.groups.group.Goals as goal

pub loop-place-init : goal.loop-place-init
loop-place-init c = subst (λ gs. IsAt same_key [] (items_of gs) (number_of c.new-numbers.result)) (sym c.new-groups.ensures.items)
    (at_start same_laws (number_of c.new-numbers.result) (λ q. ap (λ es. lookup (is_at (λ y. ghosts.cmp q y.now)) es) c.new-numbers.ensures.empty))

pub index_mut-requires : goal.index_mut-requires
index_mut-requires c =
    let found : number_of c.loop-place.numbers c.index-keys-place.result ≡ Some c.in-Some.number = sym c.get.ensures.value ∙ sym c.copied.ensures ∙ c.in-Some.is in
    let there = below same_laws c.index-keys-place.result c.loop-place.invariant c.in-Some.number found in
    omega (arith, there, length-map c.loop-place.groups.items (λ g. g.items))

-- the keys up to and with the next
next_key : (keys : List StackKey) (place : ℕ) (key : StackKey) → place < length keys → key ≡ get_or keys place key → take (place + 1) keys ≡ take place keys ++ key ∷ []
next_key keys place key more is = take_more keys place key more ∙ ap (λ k. take place keys ++ k ∷ []) (sym is)

passed : (keys : List StackKey) (place : ℕ) → place < length keys → length (take place keys) ≡ place
passed keys place more = omega (arith, length-take place keys)

known_group : (groups after : List (Vec ℕ Global)) (vec pushed : Vec ℕ Global) (n place : ℕ) → n < length groups → vec ≡ get_or groups n vec
    → pushed.items ≡ vec.items ++ place ∷ [] → after ≡ set groups n pushed
    → items_of after ≡ set (items_of groups) n (get_or (items_of groups) n [] ++ place ∷ [])
known_group groups after vec pushed n place there is pushes puts =
    ap items_of puts ∙ map-set (λ g. g.items) groups n pushed
    ∙ ap (λ g. set (items_of groups) n g) (pushes ∙ ap (λ g. g ++ place ∷ []) (ap (λ v. v.items) is ∙ sym (get_or-map (λ g. g.items) groups n vec [] there)))

abbrev Holds : List StackKey → List (List ℕ) → (StackKey → Option ℕ) → Type 0
Holds keys groups number = IsAt same_key keys groups number

-- the number that a map has for a key once one more was put into it
number_after : (old new : BTreeMap (Bor StackKey) ℕ) (key : Bor StackKey) (n : ℕ)
    → Updates (λ x y. ghosts.cmp x.now y.now) old new key (Some n)
    → (q : StackKey) → number_of new q ≡ (if same_key key.now q then Some n else number_of old q)
number_after old new key n updates q =
    updates.0 (record key { now = q }) ∙ ap (λ b. if b then Some n else number_of old q) (sym (by_order key.now q))

pub loop-place-preserved : goal.loop-place-preserved
loop-place-preserved c =
    let key = c.index-keys-place.result in
    let keys = c.args.keys.now in
    let place = c.loop-place.place in
    let more : place < length keys = c.loop-place-test.true in
    let end = next_key keys place key more c.index-keys-place.is in
    let count = passed keys place more in
    elim c.match-copied.branch [
      | in-Some+in_ok-push-in-Some w ↦
          let n = w.in-Some.number in
          let found : number_of c.loop-place.numbers key ≡ Some n = sym c.get.ensures.value ∙ sym c.copied.ensures ∙ w.in-Some.is in
          let there = below same_laws key c.loop-place.invariant n found in
          let below_len : n < length c.loop-place.groups.items = omega (arith, there, length-map c.loop-place.groups.items (λ g. g.items)) in
          let groups = known_group c.loop-place.groups.items c.match-copied.groups.items w.index_mut.result.now w.push.new.self n place below_len w.index_mut.ensures.value w.in_ok-push-in-Some.ensures.items (ap (λ g. g.items) w.groups-is) in
          let step = known same_laws key c.loop-place.invariant n found in
          let counted = subst (λ p. Holds (take place keys ++ key ∷ []) (set (items_of c.loop-place.groups.items) n (get_or (items_of c.loop-place.groups.items) n [] ++ p ∷ [])) (number_of c.loop-place.numbers)) count step in
          let grown = subst (λ gs. Holds (take place keys ++ key ∷ []) gs (number_of c.loop-place.numbers)) (sym groups) counted in
          let numbered = subst (λ m. Holds (take place keys ++ key ∷ []) (items_of c.match-copied.groups.items) (number_of m)) (sym w.numbers-is) grown in
          subst (λ ks. Holds ks (items_of c.match-copied.groups.items) (number_of c.match-copied.numbers)) (sym end) numbered
      | in-None+in_ok-insert-in-None+in_ok-vec-in-None+in_ok-push-in-None w ↦
          let found : number_of c.loop-place.numbers key ≡ None = sym c.get.ensures.value ∙ sym c.copied.ensures ∙ w.in-None.is in
          let size : w.len.result ≡ length (items_of c.loop-place.groups.items) = w.len.ensures ∙ omega (arith, length-map c.loop-place.groups.items (λ g. g.items)) in
          let numbers = number_after c.loop-place.numbers w.insert.new.self (record { ref_ptr = c.args.keys.ref_ptr; now = key }) w.len.result w.in_ok-insert-in-None.ensures.updates in
          let step = fresh same_laws key c.loop-place.invariant (number_of w.insert.new.self) found (λ q. numbers q ∙ ap (λ n. if same_key key q then Some n else number_of c.loop-place.numbers q) size) in
          let groups : items_of c.match-copied.groups.items ≡ items_of c.loop-place.groups.items ++ (place ∷ []) ∷ [] =
          ap (λ g. items_of g.items) w.groups-is ∙ ap items_of w.in_ok-push-in-None.ensures.items
          ∙ map-append (λ g. g.items) c.loop-place.groups.items (w.in_ok-vec-in-None.field-0 ∷ [])
          ∙ ap (λ g. items_of c.loop-place.groups.items ++ g ∷ []) w.in_ok-vec-in-None.ensures.items in
          let counted = subst (λ p. Holds (take place keys ++ key ∷ []) (items_of c.loop-place.groups.items ++ (p ∷ []) ∷ []) (number_of w.insert.new.self)) count step in
          let grown = subst (λ gs. Holds (take place keys ++ key ∷ []) gs (number_of w.insert.new.self)) (sym groups) counted in
          let numbered = subst (λ m. Holds (take place keys ++ key ∷ []) (items_of c.match-copied.groups.items) (number_of m)) (sym w.numbers-is) grown in
          subst (λ ks. Holds ks (items_of c.match-copied.groups.items) (number_of c.match-copied.numbers)) (sym end) numbered
    ]

pub returns : goal.returns
returns c =
    let whole : IsAt same_key c.args.keys.now (items_of c.loop-place.groups.items) (number_of c.loop-place.numbers) =
    subst (λ keys. Holds keys (items_of c.loop-place.groups.items) (number_of c.loop-place.numbers)) (take_all c.loop-place.place c.args.keys.now c.loop-place-test.false) c.loop-place.invariant in
    let by_key : IsGrouping (λ a b. same_key a b ≡ true) c.args.keys.now (groups_of same_key c.args.keys.now) = are_grouping same_laws c.args.keys.now whole.apart in
    record {
      right = whole.are;
      grouping = subst (IsGrouping (λ a b. a ≡ b) (map compared_in c.args.keys.now)) (sym whole.are)
          (by_view (λ a b. same_key a b ≡ true) compared_in same_keys c.args.keys.now (groups_of same_key c.args.keys.now) by_key);
      equal = same_keys;
    }

pub returns-in_err-push-in-Some-clause-equal : goal.returns-in_err-push-in-Some-clause-equal
returns-in_err-push-in-Some-clause-equal c = same_keys

pub returns-in_err-insert-in-None-clause-equal : goal.returns-in_err-insert-in-None-clause-equal
returns-in_err-insert-in-None-clause-equal c = same_keys

pub returns-in_err-vec-in-None-clause-equal : goal.returns-in_err-vec-in-None-clause-equal
returns-in_err-vec-in-None-clause-equal c = same_keys

pub returns-in_err-push-in-None-clause-equal : goal.returns-in_err-push-in-None-clause-equal
returns-in_err-push-in-None-clause-equal c = same_keys
