use Rattle.std.proofs.Common.{◌≡◌, ◌++◌, ℕ, List, length, map}
use Rattle.maps_text.specs.Texts.{lines_of}
use Rattle.core_merge.specs.Addresses.{AreAddressLines, address_of_line}
use Rattle.core_merge.proofs.addresses.addresses_in.Given as goal

-- the lines before the rest were all addresses, and these are they
abbrev pub invariant-loop-rest : goal.invariant-loop-rest
invariant-loop-rest l = (before : List (List ℕ)) × (lines_of l.text ≡ before ++ lines_of l.rest) × AreAddressLines before
    × (l.addresses.items ≡ map (λ line. address_of_line line) before)

abbrev pub decreases-loop-rest : goal.decreases-loop-rest
decreases-loop-rest l = length (lines_of l.rest)
