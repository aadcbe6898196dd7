use Rattle.std.proofs.Common.{◌≡◌, ◌++◌, map, take, string_bytes}
use Rattle.std.specs.List.{concat}
use Rattle.salvage_texts.specs.Standings.{local_text}
use Rattle.salvage_texts.proofs.standing.push_locals.Given as goal

abbrev pub invariant-loop-local : goal.invariant-loop-local
invariant-loop-local l = string_bytes l.text ≡ string_bytes l.initial.text ++ concat
    (map (λ x. local_text l.values x) (take l.local-index l.locals))
