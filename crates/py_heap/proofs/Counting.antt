-- How many objects lists have.
use Rattle.std.proofs.Common.{◌≡◌, ℕ, ◌≤◌, ◌*◌, List, ◌++◌, length, Option, Some, None, arith}
use Rattle.std.proofs.lemmas.List.{length-append, length-map}
use Rattle.process_memory.specs.Memory.{Memory}
use Rattle.gc_lists.specs.declared.lists.Lists.{Lists}
use Rattle.gc_lists.specs.declared.places.ListPlaces.{ListPlaces}
use Rattle.gc_lists.specs.Heads.{heads_at, unheld}
use Rattle.gc_lists.specs.Links.{links_at}
use Rattle.gc_lists.specs.Lists.{AreListed, Four, IsTold, IsToldBy, all_heads, collecting_at, four_of, members_in}
use Rattle.gc_lists.specs.Lists.Told.{AreHere}
use Rattle.gc_lists.specs.Rings.{IsListedBy, Listed, Listing}
use Rattle.gc_lists.specs.Walks.{most_members}
use Rattle.py_heap.specs.Objects.{object_at, objects_in, objects_of}

pub length_objects : (h : ℕ) (l : Lists) → length (objects_of h (four_of l)) ≡ members_in l
length_objects h l =
    let ys = l.youngest.members.items in
    let ms = l.middle.members.items in
    let os = l.oldest.members.items in
    let ps = l.permanent.members.items in
    let one = length-append (objects_in h ys) (objects_in h ms ++ (objects_in h os ++ objects_in h ps)) in
    let two = length-append (objects_in h ms) (objects_in h os ++ objects_in h ps) in
    let three = length-append (objects_in h os) (objects_in h ps) in
    let y = length-map ys (λ a. object_at h a) in
    let m = length-map ms (λ a. object_at h a) in
    let o = length-map os (λ a. object_at h a) in
    let p = length-map ps (λ a. object_at h a) in
    omega (arith, one, two, three, y, m, o, p)

-- a list has no more members than are met
listed_few : (mask : ℕ) (m : Memory) (heads : List ℕ) (limit head : ℕ) (list : Listing)
    → Listed (links_at mask m) heads limit head list → length list.members ≤ limit
listed_few mask m heads limit head list h =
    (elim (links_at mask m head)
    as (λ first. IsListedBy first (links_at mask m) heads limit head list → length list.members ≤ limit)
    [ None ↦ λ is. rw is.0 (omega arith) | Some first ↦ λ is. is.within ]) h

here : (o : Option ℕ) (are : Four → Type 0) (four : Four) → IsToldBy o are (AreHere four) → are four
here None are four h = h
here (Some head) are four h = absurd h

pub told_few : (p : ListPlaces) (bases : List ℕ) (m : Memory) (base : ℕ) (l : Lists)
    → IsTold p bases m base (AreHere (four_of l)) → members_in l ≤ 4 * most_members
told_few p bases m base l h =
    let links = links_at p.mask m in
    let own = heads_at p base in
    let heads = all_heads p bases base in
    let are = here (unheld p links own) (AreListed links heads own (collecting_at p m base)) (four_of l) h in
    let y = listed_few p.mask m heads most_members own.youngest (four_of l).youngest are.youngest in
    let g = listed_few p.mask m heads most_members own.middle (four_of l).middle are.middle in
    let o = listed_few p.mask m heads most_members own.oldest (four_of l).oldest are.oldest in
    let q = listed_few p.mask m heads most_members own.permanent (four_of l).permanent are.permanent in
    omega (arith, y, g, o, q)
