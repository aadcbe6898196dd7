-- The attributes of instances, as they were read.
use Rattle.std.proofs.Common.{◌≡◌, ℕ, ◌+◌, ◌-◌, ◌*◌, ◌≤◌, ◌∙◌, ◌==◌, false, List, length, map, take, refl, sym, ap, arith}
use Rattle.std.specs.Prelude.{Option, Some, None, Result, Ok, Err, IfOk}
use Rattle.std.proofs.lemmas.List.{length-take, length-map}
use Rattle.process_memory.specs.Memory.{Fault, Found}
use Rattle.process_memory.specs.Seen.{Answers, FaultIs}
use Rattle.instance_dicts.specs.declared.attributes.Attribute.{Attribute}
use Rattle.py_builtins.specs.ObjectError.{object_fault}
use Rattle.py_builtins.specs.declared.error.ObjectError.{ObjectError}
use Rattle.py_reprs.specs.declared.attributes.InstanceAttributes.{InstanceAttributes}
use Rattle.py_reprs.specs.declared.error.ReprError.{ReprError}
use Rattle.py_reprs.specs.declared.levels.Level.{Level as LevelRead}
use Rattle.py_reprs.specs.declared.limits.Limits.{Limits}
use Rattle.py_reprs.specs.declared.places.Place.{Place}
use Rattle.py_reprs.specs.Attributes.{FoundIs, Held, IsLost, attributes_by, attributes_level, found_or_none, held_found}
use Rattle.py_reprs.specs.Attributes.{held_if, instance_by, name_place, value_place}
use Rattle.py_reprs.specs.LevelForms.{Attributes}
use Rattle.py_reprs.specs.Levels.{level_of}
use Rattle.py_reprs.specs.Limits.{share, shown_entries}
use Rattle.py_reprs.proofs.Shares.{share_fits}

lost_is : (d : Found Held) (fault : Option Fault) (r : Result (Option InstanceAttributes) ReprError) → FaultIs d fault
    → IsLost fault r → IfOk r (λ found. held_if found ≡ found_or_none d)
lost_is d None r h e = rw e tt
lost_is d (Some fault) r h e = rw (h, e) refl

-- what was found, or nothing where it could not be read
pub known_is : (d : Found Held) (read : Result InstanceAttributes ObjectError)
    (r : Result (Option InstanceAttributes) ReprError) → Answers object_fault d (held_found read) → FoundIs read r
    → IfOk r (λ found. held_if found ≡ found_or_none d)
known_is d (Ok x) r h e = rw (h.is, e) refl
known_is d (Err error) r h e = lost_is d (object_fault error) r h.is e

-- the first attributes have their shares within the nodes
pub attributes_fit : (nodes shown : ℕ) (list : List Attribute) (names values : List Place)
    → names ≡ map name_place (take shown list) → values ≡ map value_place (take shown list) → 2 * shown ≤ nodes
    → (length names + length values) * (1 + share nodes (2 * shown)) ≤ nodes
attributes_fit nodes shown list names values n v le =
    let k : length names ≡ length (take shown list) = ap length n ∙ length-map (take shown list) name_place in
    let j : length values ≡ length (take shown list) = ap length v ∙ length-map (take shown list) value_place in
    less (length names + length values) (2 * shown) (1 + share nodes (2 * shown)) nodes
    (omega (arith, k, j, length-take shown list)) (share_fits nodes (2 * shown) le)
  where
    less : (n k s nodes : ℕ) → n ≤ k → k * s ≤ nodes → n * s ≤ nodes
    less n k s nodes le h = grind arith

-- they are those that are shown
pub attributes_is : (b : Limits) (class : Option (List ℕ)) (a nodes : ℕ) (h : Held) (shown s left : ℕ)
    (names values : List Place) → (length h.list == 0) ≡ false → shown ≡ shown_entries b.items nodes (length h.list)
    → names ≡ map name_place (take shown h.list) → values ≡ map value_place (take shown h.list)
    → s ≡ share nodes (2 * shown) → left ≡ h.count - shown
    → Attributes class a names values s left ≡ attributes_level b class a nodes h
attributes_is b class a nodes h shown s left names values some e n v q o =
    rw some (ap (λ x. Attributes class a x values s left) n
    ∙ ap (λ x. Attributes class a (map name_place (take shown h.list)) x s left) v
    ∙ ap (λ x. Attributes class a (map name_place (take shown h.list)) (map value_place (take shown h.list)) x left) q
    ∙ ap (λ x. Attributes class a (map name_place (take shown h.list)) (map value_place (take shown h.list))
    (share nodes (2 * shown)) x) o
    ∙ ap (attributes_by b class a nodes h) e)

ok_is : {T : Type 0} (x y : T) → ◌≡◌ {A = Found T} (Ok x) (Ok y) → x ≡ y
ok_is x y e = cc

-- an instance whose class's name and whose attributes were read
pub instance_is : (b : Limits) (a nodes : ℕ) (x y : Option (List ℕ)) (held found : Option Held) (level : LevelRead)
    → Answers {E = ObjectError} object_fault (Ok x) (Ok y) → found ≡ held → level_of level ≡ instance_by b y a nodes found
    → Answers {E = ObjectError} object_fault (Ok (instance_by b x a nodes held)) (Ok (level_of level))
instance_is b a nodes x y held found level h e is = record {
  is = ap Ok (ap (λ n. instance_by b n a nodes held) (ok_is x y h.is) ∙ ap (instance_by b y a nodes) (sym e) ∙ sym is);
}
