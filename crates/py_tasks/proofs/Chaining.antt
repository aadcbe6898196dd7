-- Chains as they are told: they are the ones that py_coroutines pins, and have no more members than may be met.
use Rattle.std.proofs.Common.{◌≡◌, ℕ, zero, suc, ◌≤◌, Bool, true, false, List, [], ◌∷◌, ◌++◌, length, refl, sym, ap}
use Rattle.std.proofs.Common.{◌∙◌, arith}
use Rattle.std.specs.Prelude.{Ok}
use Rattle.process_memory.specs.Memory.{Memory}
use Rattle.process_memory.specs.Seen.{Reading, Reads, Seen}
use Rattle.process_memory.proofs.Reading.{reading_gives}
use Rattle.py_coroutines.specs.declared.awaits.Awaits.{Awaits}
use Rattle.py_coroutines.specs.declared.turn.AwaitEnd.{AwaitEnd}
use Rattle.py_coroutines.specs.declared.turn.AwaitEnd.TheVariants.{Stops, Cycle, Cut}
use Rattle.py_coroutines.specs.declared.turn.Stop.{Stop}
use Rattle.py_coroutines.specs.declared.turn.Stop.TheVariants.{Future, Yielding, Created, Running, Finished}
use Rattle.py_coroutines.specs.declared.turn.Stop.TheVariants.{NoTop, Other, Unreadable}
use Rattle.py_coroutines.specs.Awaits as known
use Rattle.py_coroutines.specs.Awaits.{Chain, IsAwaits, Turn, by_turn, chain_from, has, unless_met}
use Rattle.py_coroutines.specs.Awaits.Turn.{To, Last, Before}
use Rattle.py_coroutines.specs.Turns.{chain_of, end_of, stop_of}
use Rattle.py_coroutines.proofs.ChainLaws.{awaits_found}
use Rattle.py_names.specs.NamesError.{names_fault}
use Rattle.py_names.specs.declared.names_error.NamesError.{NamesError}
use Rattle.py_coroutines.specs.declared.places.Places.{Places}
use Rattle.py_coroutines.specs.Objects.{turn_at}
use Rattle.py_tasks.specs.Chains.{AwaitsShown, awaits_at, awaits_shown, chain_told, end_told, stop_told}

stop_back : (s : Stop) → stop_told (stop_of s) ≡ s
stop_back (Future a) = refl
stop_back Yielding = refl
stop_back Created = refl
stop_back Running = refl
stop_back Finished = refl
stop_back NoTop = refl
stop_back (Other a class) = refl
stop_back (Unreadable a n) = refl

end_back : (e : AwaitEnd) → end_told (end_of e) ≡ e
end_back (Stops why) = ap Stops (stop_back why)
end_back (Cycle a) = refl
end_back (Cut a) = refl

shown_back : (c : Awaits) (k : Chain) → chain_of c ≡ k → chain_told k ≡ awaits_shown c
shown_back c k e = ap chain_told (sym e)
    ∙ ap (λ (x : AwaitEnd). record { members = c.members.items; end = x }) (end_back c.end)

-- the answer is the chain
pub chain_known : (turn : Memory → ℕ → Turn) (limit head n most : ℕ) {s0 s1 : Seen} (c : Awaits)
    → Reading n s0 s1 (λ m. (other : Chain) → IsAwaits (turn m) limit head other → chain_of c ≡ other) → n ≤ most
    → Reads {E = NamesError} names_fault most s0 s1 (λ m. Ok (chain_told (chain_from (turn m) [] limit head)))
    (Ok (awaits_shown c))
chain_known turn limit head n most c p le = reading_gives most _ p le (λ m h. record {
  is = ap Ok (shown_back c (chain_from (turn m) [] limit head)
      (h (chain_from (turn m) [] limit head) (awaits_found (turn m) limit head)));
})

-- ---- how many members there are

met_few : (b : Bool) (a left : ℕ) (c : Chain) → length c.members ≤ left → length (unless_met b a c).members ≤ left
met_few true a left c h = omega arith
met_few false a left c h = h

turn_few : (a left : ℕ) (t : Turn) (rest : ℕ → Chain) → ((n : ℕ) → length (rest n).members ≤ left)
    → length (by_turn a t rest).members ≤ suc left
turn_few a left (To n) rest h = omega (arith, h n)
turn_few a left (Last why) rest h = omega arith
turn_few a left (Before why) rest h = omega arith

pub chain_few : (turn : ℕ → Turn) (met : List ℕ) (left a : ℕ) → length (chain_from turn met left a).members ≤ left
unfolding chain_from
chain_few turn met zero a = met_few (has met a) a 0 (record { members = []; end = known.End.Cut a }) (omega arith)
chain_few turn met (suc left) a =
    met_few (has met a) a (suc left) (by_turn a (turn a) (λ n. chain_from turn (met ++ a ∷ []) left n))
    (turn_few a left (turn a) (λ n. chain_from turn (met ++ a ∷ []) left n)
    (λ n. chain_few turn (met ++ a ∷ []) left n))

pub awaits_few : (p : Places) (m : Memory) (limit head : ℕ) (c : AwaitsShown) → awaits_at p m limit head ≡ Ok c
    → length c.members ≤ limit
unfolding awaits_at
awaits_few p m limit head c e =
    let same : chain_told (chain_from (turn_at p m) [] limit head) ≡ c = cc in
    rw (← same) (chain_few (turn_at p m) [] limit head)
