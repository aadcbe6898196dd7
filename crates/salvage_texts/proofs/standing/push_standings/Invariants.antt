use Rattle.std.proofs.Common.{◌≡◌, ◌++◌, map, take, string_bytes}
use Rattle.std.specs.List.{concat}
use Rattle.salvage_texts.specs.Standings.{standing_text}
use Rattle.salvage_texts.proofs.standing.push_standings.Given as goal

abbrev pub invariant-loop-standing : goal.invariant-loop-standing
invariant-loop-standing l = string_bytes l.text ≡ string_bytes l.initial.text ++ concat
    (map (λ x. standing_text l.values x) (take l.standing-index l.standings))
