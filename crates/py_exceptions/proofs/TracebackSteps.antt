-- What is told of a traceback, by its parts.
use Rattle.std.proofs.Common.{◌≡◌, ℕ, ◌+◌, ◌-◌, ◌≤◌, List, length, take, drop, refl, arith, ap, sym, ◌∙◌}
use Rattle.std.proofs.lemmas.List.{length-take, length-drop}
use Rattle.std.proofs.Math.Nat.{min-le_left}
use Rattle.std.proofs.Math.Seq.{take-length}
use Rattle.process_memory.specs.Memory.{Memory}
use Rattle.py_fields.specs.declared.layout.Layout.{Layout}
use Rattle.thread_exceptions.specs.Links.{End}
use Rattle.py_exceptions.specs.declared.entry.Entry.{Entry}
use Rattle.py_exceptions.specs.declared.entry.TracebackPlaces.{TracebackPlaces}
use Rattle.py_exceptions.specs.Tracebacks.{entries_at, first_count, shown_with, told_in}

-- what stands behind the first of some things, as a slice has it
pub rest_is : (k : ℕ) (xs : List ℕ) → take (length xs - k) (drop k xs) ≡ drop k xs
rest_is k xs = ap (λ n. take n (drop k xs)) (sym (length-drop k xs)) ∙ take-length (drop k xs)

pub told_is : (l : Layout) (p : TracebackPlaces) (m : Memory) (members : List ℕ) (end : End) (count told : ℕ)
    (first last : List Entry) → count ≡ first_count (length members) → told ≡ first_count (length members - count)
    → first ≡ entries_at l p m (take count members)
    → last ≡ entries_at l p m (take (length members - (count + (length members - count - told)))
    (drop (count + (length members - count - told)) members))
    → shown_with first (length members - count - told) last end ≡ told_in l p m members end
unfolding told_in
told_is l p m members end count told first last hc ht hf hl =
    let behind = hl ∙ ap (entries_at l p m) (rest_is (count + (length members - count - told)) members) in
    rw (hf, behind, ht, hc) refl

pub few_first : (members : List ℕ) (count : ℕ) → count ≤ 128 → length (take count members) ≤ 128
few_first members count few = omega (arith, length-take count members, min-le_left count (length members))

pub few_last : (members : List ℕ) (count told : ℕ) → told ≤ 128
    → length (take (length members - (count + (length members - count - told)))
    (drop (count + (length members - count - told)) members)) ≤ 128
few_last members count told few =
    let k = count + (length members - count - told) in
    rw (rest_is k members) (omega (arith, length-drop k members))
