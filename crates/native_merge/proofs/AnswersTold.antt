-- What is held and told stays so.
use Rattle.std.proofs.Common.{◌≡◌, ℕ, Bool, nat_eq, List, [], ◌∷◌, Option, Some, None, IfSome, Ok, refl, sym, subst}
use Rattle.std.specs.Map.{lookup}
use Rattle.native_merge.specs.declared.native_frame.NativeFrame.{NativeFrame}
use Rattle.native_merge.specs.Merges.{AllTold, AreAnswered, IsAnswered, has_lines}
use Rattle.native_merge.specs.Merges.AreAnswered.{NoMore, More}
use Rattle.native_merge.specs.SymbolCaches.{Answer, AreKnown, HeldFrames, IsHeldAnswer, IsToldAnswer}
use Rattle.native_merge.specs.Symbols.{SymbolsSeen}
use Rattle.native_merge.proofs.SymbolsKnown.{told_answer, known_after}

pub as_held : (answer : Answer) (o : Option NativeFrame) → IfSome o (λ f. answer ≡ Ok (f ∷ [])) → IfSome o (λ f. IsHeldAnswer f answer)
as_held answer None h = tt
as_held answer (Some f) h = subst (IsHeldAnswer f) (sym h) refl

module _ (seen : SymbolsSeen) (python : ℕ → Bool) where
  one_told : {held after : HeldFrames} (addr : ℕ) (answer : Answer) → IsAnswered seen python held addr answer after
      → AreKnown seen (has_lines python) held → IsToldAnswer seen addr (has_lines python addr) answer
  one_told {held} addr answer a k = told_answer seen (has_lines python) held k addr answer
      (as_held answer (lookup (nat_eq addr) held.entries) a.cached) a.told

  pub stay_told : (held : HeldFrames) (addrs : List ℕ) (answers : List Answer) (after : HeldFrames)
      → AreAnswered seen python held addrs answers after → AreKnown seen (has_lines python) held
      → AllTold seen python addrs answers after
  stay_told _ _ _ _ (NoMore {held}) k = record { told = tt; known = k }
  stay_told _ _ _ _ (More {held} {mid} {after} {addr} {answer} {addrs} {answers} a rest) k =
      let t = one_told {held = held} {after = mid} addr answer a k in
      let on = stay_told mid addrs answers after rest (known_after seen (has_lines python) held k addr mid answer t a.kept) in
      record { told = (t, on.told); known = on.known }
