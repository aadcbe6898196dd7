-- One list at most is exactly what is reached.
use Rattle.std.proofs.Common.{ℕ, List, [], ◌∷◌, ◌≡◌, ◌<◌, inl, inr, refl, sym, ap, ◌∙◌, arith, map}
use Rattle.std.specs.List.{Contains, All}
use Rattle.std.specs.List.Sorted.{IsStrictlySortedBy}
use Rattle.std.specs.Ordering.{nat_cmp}
use Rattle.std.specs.declared.cmp.Ordering.TheVariants.{Less}
use Rattle.std.proofs.lemmas.Bool.Decides.{nat_tests}
use Rattle.std.proofs.lemmas.List.Elements.{All-contains, All-head, All-tail}
use Rattle.std.proofs.lemmas.Map.Keys.{sorted_tail, sorted_from_strictly_increasing}
use Rattle.std.proofs.lemmas.Map.Views.{All-after_first}
use Rattle.object_reach.specs.declared.reached.ReachObject.{ReachObject}
use Rattle.object_reach.specs.Objects.{Object}
use Rattle.object_reach.specs.declared.reached.ReachError.{ReachError}
use Rattle.object_reach.specs.declared.reached.ReachError.TheVariants.{ReachLimit, OutOfMemory as Lost}
use Rattle.object_reach.specs.Reach.{IsBrokenBy, IsReach, IsRightReach, addresses}
use Rattle.elf64_core.specs.Outcomes.{IsUnless}
use Rattle.process_memory.specs.Memory.{Fault}
use Rattle.process_memory.specs.Memory.Fault.{Missing, ThreadLimit, FrameLimit, ChainLimit, BadValue, LocalsLimit}
use Rattle.process_memory.specs.Memory.Fault.{NoText as HasNoText, TooLong as IsTooLong, BadDict as IsBadDict}
use Rattle.process_memory.specs.Memory.Fault.{BadType as IsBadType, Visits as ManyVisits, Depth as ManyLevels}
use Rattle.process_memory.specs.Memory.Fault.{BadCount as IsBadCount, BadBool as IsBadBool, NoDicts, Entries}
use Rattle.py_builtins.specs.declared.error.ObjectError.{ObjectError}
use Rattle.py_builtins.specs.declared.error.ObjectError.TheVariants.{Unreadable, NoText, TooLong, BadDict, BadType}
use Rattle.py_builtins.specs.declared.error.ObjectError.TheVariants.{Visits, Depth, BadCount, BadBool, OutOfMemory}
use Rattle.py_builtins.specs.ObjectError.{object_fault}
use Rattle.std.specs.Prelude.{Option, Some, None, option_map, Result, Ok, Err, ◌≢◌}
use Rattle.object_reach.proofs.Searches.{none_in, head_in, tail_in, in_cons}

less_below : (a b : ℕ) → nat_cmp a b ≡ Less → a < b
less_below a b h = grind (arith, nat_tests)

after : (x : ℕ) (xs : List ℕ) → IsStrictlySortedBy nat_cmp (x ∷ xs) → (q : ℕ) → Contains xs q → x < q
after x xs s q h = less_below x q (All-contains (λ n. nat_cmp x n ≡ Less) xs q (All-after_first nat_cmp x xs s) h)

first_same : (x y : ℕ) (xs ys : List ℕ) → IsStrictlySortedBy nat_cmp (x ∷ xs) → IsStrictlySortedBy nat_cmp (y ∷ ys) → Contains (y ∷ ys) x → Contains (x ∷ xs) y → x ≡ y
first_same x y xs ys s t h k =
    elim (in_cons y ys x h) [
      | inl e ↦ e
      | inr e ↦ elim (in_cons x xs y k) [
        | inl o ↦ sym o
        | inr o ↦ let below = after y ys t x e in let above = after x xs s y o in absurd (omega (arith, below, above))
      ]
    ]

rest_in : (x y : ℕ) (xs ys : List ℕ) → x ≡ y → IsStrictlySortedBy nat_cmp (x ∷ xs) → ((q : ℕ) → Contains (x ∷ xs) q → Contains (y ∷ ys) q) → (q : ℕ) → Contains xs q → Contains ys q
rest_in x y xs ys e s h q k =
    elim (in_cons y ys q (h q (tail_in x xs q k))) [
      | inl o ↦ let above = after x xs s q k in absurd (omega (arith, above, e, o))
      | inr o ↦ o
    ]

pub same_ascending : (xs ys : List ℕ) → IsStrictlySortedBy nat_cmp xs → IsStrictlySortedBy nat_cmp ys → ((q : ℕ) → Contains xs q → Contains ys q) → ((q : ℕ) → Contains ys q → Contains xs q) → xs ≡ ys
same_ascending [] [] s t h k = refl
same_ascending [] (y ∷ ys) s t h k = absurd (none_in y (k y (head_in y ys)))
same_ascending (x ∷ xs) [] s t h k = absurd (none_in x (h x (head_in x xs)))
same_ascending (x ∷ xs) (y ∷ ys) s t h k =
    let e = first_same x y xs ys s t (h x (head_in x xs)) (k y (head_in y ys)) in
    let rest = same_ascending xs ys (sorted_tail nat_cmp x xs s) (sorted_tail nat_cmp y ys t) (rest_in x y xs ys e s h) (rest_in y x ys xs (sym e) t k) in
    ap (λ n. n ∷ xs) e ∙ ap (λ ns. y ∷ ns) rest

-- ---- which error a fault is
error_of : Fault → ObjectError
error_of (Missing a n) = Unreadable a n
error_of HasNoText = NoText
error_of (IsTooLong n) = TooLong n
error_of IsBadDict = BadDict
error_of IsBadType = BadType
error_of ManyVisits = Visits
error_of ManyLevels = Depth
error_of (IsBadCount n) = BadCount n
error_of (IsBadBool b) = BadBool b
error_of ThreadLimit = OutOfMemory
error_of FrameLimit = OutOfMemory
error_of ChainLimit = OutOfMemory
error_of (BadValue n) = OutOfMemory
error_of (LocalsLimit n) = OutOfMemory
error_of NoDicts = OutOfMemory
error_of Entries = OutOfMemory

error_is : (e : ObjectError) (f : Fault) → object_fault e ≡ Some f → e ≡ error_of f
unfolding error_of
error_is (Unreadable a n) f h = let s : Missing a n ≡ f = cc in rw (← s) refl
error_is NoText f h = let s : HasNoText ≡ f = cc in rw (← s) refl
error_is (TooLong n) f h = let s : IsTooLong n ≡ f = cc in rw (← s) refl
error_is BadDict f h = let s : IsBadDict ≡ f = cc in rw (← s) refl
error_is BadType f h = let s : IsBadType ≡ f = cc in rw (← s) refl
error_is Visits f h = let s : ManyVisits ≡ f = cc in rw (← s) refl
error_is Depth f h = let s : ManyLevels ≡ f = cc in rw (← s) refl
error_is (BadCount n) f h = let s : IsBadCount n ≡ f = cc in rw (← s) refl
error_is (BadBool b) f h = let s : IsBadBool b ≡ f = cc in rw (← s) refl
error_is OutOfMemory f h = absurd (cc)

broken_is : (failure : Option Fault) (broken : Option ObjectError) → IsBrokenBy failure broken → broken ≡ option_map error_of failure
broken_is None None h = refl
broken_is None (Some e) h = absurd (cc)
broken_is (Some f) None h = absurd (cc)
broken_is (Some f) (Some e) h = let s : object_fault e ≡ Some f = cc in ap (λ x. Some x) (error_is e f s)

-- what the addresses make, by the heap
abbrev made : (ℕ → Object) → List ℕ → List ReachObject
made heap list = map (λ a. record { addr = a; broken = option_map error_of (heap a).failure }) list

made_from : (heap : ℕ → Object) (objects : List ReachObject) → All (λ o. IsBrokenBy (heap o.addr).failure o.broken) objects → objects ≡ made heap (addresses objects)
made_from heap [] h = refl
made_from heap (o ∷ os) h =
    ap (λ b. record { addr = o.addr; broken = b } ∷ os) (broken_is (heap o.addr).failure o.broken (All-head (λ p. IsBrokenBy (heap p.addr).failure p.broken) o os h)) ∙ ap (λ ns. record { addr = o.addr; broken = option_map error_of (heap o.addr).failure } ∷ ns) (made_from heap os (All-tail (λ p. IsBrokenBy (heap p.addr).failure p.broken) o os h))

determined : (heap : ℕ → Object) (roots : List ℕ) (xs ys : List ReachObject) → IsReach heap roots xs → IsReach heap roots ys → xs ≡ ys
determined heap roots xs ys a b =
    let same = same_ascending (addresses xs) (addresses ys) (sorted_from_strictly_increasing _ a.ascending) (sorted_from_strictly_increasing _ b.ascending)
    (λ q h. (b.exact q).1 ((a.exact q).0 h)) (λ q h. (a.exact q).1 ((b.exact q).0 h)) in
    made_from heap xs a.failures ∙ (ap (made heap) same ∙ sym (made_from heap ys b.failures))

-- one answer at most is right, out of memory aside
pub right_unique : (heap : ℕ → Object) (roots : List ℕ) (result answer : Result (List ReachObject) ReachError) → IsRightReach heap roots result → IsRightReach heap roots answer → answer ≢ Err Lost → IsUnless Lost answer result
right_unique heap roots (Ok xs) (Ok ys) h g ne = inl (ap (λ os. Ok os) (determined heap roots xs ys h.0 g.0))
right_unique heap roots (Ok xs) (Err ReachLimit) h g ne = absurd (h.1 g)
right_unique heap roots (Ok xs) (Err Lost) h g ne = absurd (ne refl)
right_unique heap roots (Err ReachLimit) (Ok ys) h g ne = absurd (g.1 h)
right_unique heap roots (Err ReachLimit) (Err ReachLimit) h g ne = inl refl
right_unique heap roots (Err ReachLimit) (Err Lost) h g ne = absurd (ne refl)
right_unique heap roots (Err Lost) answer h g ne = inr refl
