-- How many objects are met at most.
use Rattle.std.proofs.Common.{◌≡◌, ℕ, ◌≤◌, List, [], ◌++◌, length, map, ap, arith, sym, ◌∙◌}
use Rattle.std.proofs.lemmas.List.{length-map}
use Rattle.std.specs.List.{concat}
use Rattle.process_memory.specs.Seen.{Reading, Seen}
use Rattle.process_memory.proofs.Reading.{reading_here}
use Rattle.thread_exceptions.specs.declared.places.Places.{Places}
use Rattle.thread_exceptions.specs.declared.thread.ThreadExceptions.{ThreadExceptions}
use Rattle.thread_exceptions.specs.Discovery.{AreMet, Met, addr_of, found_by, met_leads, met_of}
use Rattle.thread_exceptions.specs.Exceptions.{What, what_at}
use Rattle.thread_exceptions.specs.Thread.{IsThread, thread_of}
use Rattle.thread_exceptions.proofs.Gathering.{gather_grows}

pub mets_few : (what : ℕ → What) (limit : ℕ) (roots : List ℕ) (all : List Met) → AreMet what limit roots all
    → length all ≤ limit
mets_few what limit roots all h =
    let within = (gather_grows limit [] (roots ++ concat (map (λ x. met_leads x) all))).within (omega arith) in
    let same : length all ≡ length (found_by limit roots all) =
    sym (length-map all (λ x. addr_of x)) ∙ ap length h.whole
    in
    rw same within

pub thread_few : {n : ℕ} {s0 s1 : Seen} (p : Places) (thread : ℕ) (t : ThreadExceptions)
    → Reading n s0 s1 (λ m. IsThread p m thread (thread_of t)) → length t.met.items ≤ 1024
thread_few p thread t r =
    let few = mets_few (what_at p _) 1024 _ _ (reading_here r).met in
    omega (arith, few, length-map t.met.items (λ x. met_of x))
