-- There is one answer alone of what is told of the last exception, and how many objects it leads to at most.
use Rattle.std.proofs.Common.{◌≡◌, ℕ, ◌≤◌, List, [], ◌∷◌, length, map, refl, sym, ◌∙◌, ap, arith}
use Rattle.std.proofs.lemmas.List.{length-map}
use Rattle.std.specs.Prelude.{Ok, Err, Option, Some, None, Result, IfOk}
use Rattle.process_memory.specs.Memory.{Memory}
use Rattle.process_memory.specs.Seen.{Reading, Seen}
use Rattle.process_memory.proofs.Reading.{reading_here}
use Rattle.py_fields.specs.declared.layout.Layout.{Layout}
use Rattle.thread_exceptions.specs.declared.discovery.Met as read
use Rattle.thread_exceptions.specs.declared.error.ExceptionsError.{ExceptionsError}
use Rattle.thread_exceptions.specs.declared.places.Places.{Places}
use Rattle.thread_exceptions.specs.Discovery.{AreMet, met_of}
use Rattle.thread_exceptions.specs.Exceptions.{what_at}
use Rattle.thread_exceptions.proofs.Uniqueness.{met_unique}
use Rattle.py_exceptions.specs.declared.described.Described.{Described}
use Rattle.py_exceptions.specs.declared.last.LastException.{LastException}
use Rattle.py_exceptions.specs.declared.last.LastName.{LastName}
use Rattle.py_exceptions.specs.Exceptions.{met_told_at}
use Rattle.py_exceptions.specs.Last.{FoundShown, IsFoundBy, IsLast, LastShown, found_of, known_set, last_name, last_shown}
use Rattle.py_exceptions.proofs.Few.{mets_few}

pub closure_few : {n : ℕ} {s0 s1 : Seen} (p : Places) (roots : List ℕ) (all : List read.Met)
    → Reading n s0 s1 (λ m. AreMet (what_at p m) 1024 roots (map (λ x. met_of x) all)) → length all ≤ 1024
closure_few p roots all r =
    let few = mets_few (what_at p _) 1024 _ _ (reading_here r) in
    omega (arith, few, length-map all (λ x. met_of x))

found_unique : (l : Layout) (d : Described) (m : Memory) (set : Option (Option ℕ)) (x y : FoundShown)
    → IsFoundBy l d m set x → IsFoundBy l d m set y → x ≡ y
found_unique l d m None x y h k = h ∙ sym k
found_unique l d m (Some None) x y h k = h ∙ sym k
found_unique l d m (Some (Some a)) x y h k =
    let same : h.met ≡ k.met = met_unique (what_at d.thread m) 1024 (a ∷ []) h.met k.met h.are_met k.are_met in
    h.is ∙ ap (λ ms. found_of a ms (map (λ o. met_told_at l d m o) ms)) same ∙ sym k.is

abbrev last_with : LastName → FoundShown → LastShown
last_with name found = record { name = name; found = found }

same_parts : {a b : LastName} {x y : FoundShown} → a ≡ b → x ≡ y → last_with a x ≡ last_with b y
same_parts h i = rw (h, i) refl

pub only_last : (l : Layout) (d : Described) (m : Memory) (at : ℕ) (r : Result LastException ExceptionsError)
    → IfOk r (λ told. IsLast l d m at (last_shown told)) → (other : LastShown) → IsLast l d m at other
    → IfOk r (λ told. last_shown told ≡ other)
only_last l d m at (Ok t) h other is =
    same_parts (h.name ∙ sym is.name)
    (found_unique l d m (known_set l m at (last_name d.thread.raised)) _ _ h.found is.found)
only_last l d m at (Err e) h other is = tt
