-- A table of maps tests addresses as the maps do.
use Rattle.std.proofs.Common.{◌≡◌, ℕ, ◌+◌, ◌-◌, ◌<◌, ◌≤◌, ltb, max, Bool, true, false, cond, ◌||◌, List, [], ◌∷◌, map}
use Rattle.std.proofs.Common.{fold, refl, sym, ap, ◌∙◌, arith, inl, inr}
use Rattle.std.specs.Prelude.{All}
use Rattle.std.specs.List.{list_any}
use Rattle.std.proofs.lemmas.Bool.{cases_lt, le-ltb, lt-ltb}
use Rattle.std.proofs.lemmas.Bool.Decides.{nat_tests}
use Rattle.std.proofs.lemmas.List.Elements.{All-head, All-tail}
use Rattle.image_memory.specs.declared.maps.CoreMapRange.{CoreMapRange}
use Rattle.image_memory.specs.MapTables.{MapSpans, last_addr, map_range_of, past_last, past_of, tests}
use Rattle.image_memory.specs.Maps.{holds_addr, in_maps}
use Rattle.piece_table.specs.Overlays.{spans}
use Rattle.piece_table.specs.Places.{IsBounded, addresses_of}

-- below 2^64 - 1 a map holds what its range does
range_any : (maps : List CoreMapRange) (addr : ℕ) → addr < last_addr → list_any (spans addr) (addresses_of (map map_range_of maps)) ≡ in_maps maps addr
range_any [] addr below = refl
range_any (m ∷ maps) addr below =
    ap (λ b. b || list_any (spans addr) (addresses_of (map map_range_of maps))) (alike m)
    ∙ ap (λ b. holds_addr addr m.segment || b) (range_any maps addr below)
  where
    alike : (m : CoreMapRange) → spans addr (map_range_of m).range ≡ holds_addr addr m.segment
    alike m = grind (arith, nat_tests)

or-none : (b : Bool) → (b || false) ≡ b
or-none true = refl
or-none false = refl

or-twice : (a b c : Bool) → ((a || b) || c) ≡ (a || (b || c))
or-twice true b c = refl
or-twice false b c = refl

past_more : (m : CoreMapRange) (addr past : ℕ) → m.segment.addr ≤ last_addr → last_addr ≤ addr
    → ltb (addr - last_addr) (max (past_of m) past) ≡ (ltb (addr - last_addr) past || holds_addr addr m.segment)
past_more m addr past starts over =
    elim (cases_lt (addr - last_addr) past) [
      | inl less ↦ lt-ltb _ _ (omega arith) ∙ ap (λ b. b || holds_addr addr m.segment) (sym (lt-ltb _ _ less))
      | inr le ↦ held le ∙ ap (λ b. b || holds_addr addr m.segment) (sym (le-ltb _ _ le))
    ]
  where
    inside : m.segment.addr ≤ addr → addr < m.segment.addr + m.segment.mem_size → holds_addr addr m.segment ≡ true
    inside from less = grind (arith, nat_tests)

    outside : m.segment.addr + m.segment.mem_size ≤ addr → holds_addr addr m.segment ≡ false
    outside le = grind (arith, nat_tests)

    held : past ≤ addr - last_addr → ltb (addr - last_addr) (max (past_of m) past) ≡ holds_addr addr m.segment
    held none = elim (cases_lt addr (m.segment.addr + m.segment.mem_size)) [
      | inl less ↦ lt-ltb _ _ (omega arith) ∙ sym (inside (omega arith) less)
      | inr le ↦ le-ltb _ _ (omega arith) ∙ sym (outside le)
    ]

-- a map that starts at 2^64 - 1 or below holds the first addresses from there on
past_any : (maps : List CoreMapRange) (addr past : ℕ) → All IsBounded (map map_range_of maps) → last_addr ≤ addr
    → ltb (addr - last_addr) (fold (λ past m. max (past_of m) past) past maps) ≡ (ltb (addr - last_addr) past || in_maps maps addr)
past_any [] addr past fit over = sym (or-none (ltb (addr - last_addr) past))
past_any (m ∷ maps) addr past fit over =
    let here : IsBounded (map_range_of m) = All-head IsBounded (map_range_of m) (map map_range_of maps) fit in
    let starts : m.segment.addr ≤ last_addr = omega (arith, here.ends) in
    past_any maps addr (max (past_of m) past) (All-tail IsBounded (map_range_of m) (map map_range_of maps) fit) over
    ∙ ap (λ b. b || in_maps maps addr) (past_more m addr past starts over)
    ∙ or-twice (ltb (addr - last_addr) past) (holds_addr addr m.segment) (in_maps maps addr)

pub tests_are : (maps : List CoreMapRange) (m : MapSpans) → All IsBounded (map map_range_of maps) → m.table ≡ map map_range_of maps
    → m.past ≡ past_last maps → tests m ≡ in_maps maps
tests_are maps m fit are past =
    λ i addr. at addr i
  where
    at : (addr : ℕ) → tests m addr ≡ in_maps maps addr
    at addr = elim (cases_lt addr last_addr) [
      | inl below ↦
          ap (λ b. cond b (list_any (spans addr) (addresses_of m.table)) (ltb (addr - last_addr) m.past)) (lt-ltb addr last_addr below)
          ∙ ap (λ rs. list_any (spans addr) (addresses_of rs)) are ∙ range_any maps addr below
      | inr over ↦
          ap (λ b. cond b (list_any (spans addr) (addresses_of m.table)) (ltb (addr - last_addr) m.past)) (le-ltb addr last_addr over)
          ∙ ap (ltb (addr - last_addr)) past ∙ past_any maps addr 0 fit over
          ∙ ap (λ b. b || in_maps maps addr) (le-ltb (addr - last_addr) 0 (omega arith))
    ]
