-- Pieces of ranges of addresses: the longest intervals of addresses that all lie in some range, in ascending order.
-- An address of one piece can be of several ranges, and a range of no bytes has none. This is the project's own rule.
use Rattle.std.specs.Prelude.{◌≡◌, ℕ, ◌+◌, ◌-◌, ◌^◌, ◌<◌, ◌≤◌, ◌&&◌, max, nat_le, nat_lt, Bool, List, [], ◌∷◌, All, ⊤}
use Rattle.std.specs.Prelude.{if◌then◌else◌}
use Rattle.std.specs.List.{AllPairs, list_any}
use Rattle.process_memory.specs.declared.memory.Span.{Span}

-- whether a range holds an address
abbrev pub covers : ℕ → Span → Bool
covers addr s = nat_le s.start addr && nat_lt addr (s.start + s.len)

-- whether some range does
abbrev pub lies_in : List Span → ℕ → Bool
lies_in ranges addr = list_any (covers addr) ranges

-- a piece ends before another one begins, and doesn't touch it
abbrev pub EndsBefore : Span → Span → Type 0
EndsBefore s t = s.start + s.len < t.start

-- all pieces of some ranges: none is empty, they ascend and don't touch, and they have exactly the ranges' addresses.
-- No two lists are that
pub record AreJoined (ranges pieces : List Span) : Type 0 where
  pub some : All (λ p. 0 < p.len) pieces
  pub apart : AllPairs EndsBefore pieces
  pub same : (addr : ℕ) → lies_in pieces addr ≡ lies_in ranges addr

-- ---- how they are found

-- a range that ends at 2^64 - 1 at most, unless it is empty
abbrev pub EndsInTime : Span → Type 0
EndsInTime s = 0 < s.len → s.start + s.len ≤ 2 ^ 64 - 1

-- ranges, none of them empty, that begin from an address on, each from where the one before begins
abbrev pub Ascends : ℕ → List Span → Type 0
Ascends low [] = ⊤
Ascends low (s ∷ ss) = (low ≤ s.start) × (0 < s.len) × Ascends s.start ss

-- both of two ranges, where the second one begins in the first or where that ends
abbrev pub both : Span → Span → Span
both s t = record { start = s.start; len = max s.len (t.start + t.len - s.start) }

-- the pieces of a range and of others that begin where it does or behind
abbrev pub joined : Span → List Span → List Span
joined last [] = last ∷ []
joined last (s ∷ ss) =
    if nat_le s.start (last.start + last.len) then joined (both last s) ss else last ∷ joined s ss
