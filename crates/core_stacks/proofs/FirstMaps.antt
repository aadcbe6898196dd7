-- The first map that is so, met in a loop.
use Rattle.std.proofs.Common.{◌≡◌, ℕ, ◌+◌, ◌<◌, List, ◌∷◌, ◌++◌, length, take, drop, get_or, refl, subst, sym, ap, ◌∙◌}
use Rattle.std.proofs.Common.{take-append-drop}
use Rattle.std.proofs.Common.{inl, inr, ◌⊎◌}
use Rattle.std.proofs.Common.{Bool, true, false, zero, suc, arith}
use Rattle.std.proofs.lemmas.List.{drop_more}
use Rattle.std.proofs.lemmas.List.Elements.{All-more}
use Rattle.std.proofs.lemmas.Option.{same_Some}
use Rattle.std.specs.Prelude.{All, IfSome, Option, Some, None, [], map, option_map}
use Rattle.std.specs.Int.{IsBitSet}
use Rattle.image_memory.specs.declared.maps.CoreMapRange.{CoreMapRange}
use Rattle.elf64_core.specs.declared.segment.Segment.{Segment}
use Rattle.image_memory.specs.FileTables.{Entry}
use Rattle.image_memory.specs.Maps.{AreMaps, entry_for, map_by}
use Rattle.image_memory.specs.Pieces.{loads_of}
use Rattle.py_process.specs.Programs.{IsFirstMap, IsLibraryMap}
use Rattle.core_stacks.specs.Seen.{HaveOneName}

pub first_here : (Is : CoreMapRange → Type 0) (maps : List CoreMapRange) (i : ℕ) (m : CoreMapRange) → i < length maps
    → m ≡ get_or maps i m → Is m → All (λ other. ¬ Is other) (take i maps) → IsFirstMap Is maps m
first_here Is maps i m lt at is none = record {
  before = take i maps;
  after = drop (i + 1) maps;
  parts = sym (take-append-drop i maps)
      ∙ ap (λ rest. take i maps ++ rest) (drop_more maps i m lt)
      ∙ ap (λ x. take i maps ++ (x ∷ drop (i + 1) maps)) (sym at);
  is = is;
  none_before = none;
}

-- ---- maps that start at one address

named_once : (entries : List Entry) (loads : List Segment)
    → All (λ m. m.pathname ≡ option_map (λ e. e.name) (entry_for entries m.segment.addr)) (map (map_by entries) loads)
named_once entries [] k d lt = absurd (omega arith)
named_once entries (s ∷ rest) zero d lt = refl
named_once entries (s ∷ rest) (suc k) d lt = named_once entries rest k d (omega arith)

pub have_one_name : (bytes : List ℕ) (maps : List CoreMapRange) → AreMaps bytes maps → HaveOneName maps
have_one_name bytes maps are = (
  λ a. option_map (λ e. e.name) (entry_for are.entries a),
  subst (λ ms. All (λ m. m.pathname ≡ option_map (λ e. e.name) (entry_for are.entries m.segment.addr)) ms) (sym are.says) (named_once are.entries (loads_of bytes)),
)

-- the maps that start at an address are not the library's
abbrev pub NoLibraryAt : List CoreMapRange → ℕ → Type 0
NoLibraryAt maps start = All (λ m. m.segment.addr ≡ start → ¬ IsLibraryMap m) maps

-- by one of them, which is executable
pub no_library_at : (maps : List CoreMapRange) (map : CoreMapRange) (named : HaveOneName maps) → map.pathname ≡ named.0 map.segment.addr
    → IsBitSet map.segment.flags 0 → ¬ IsLibraryMap map → NoLibraryAt maps map.segment.addr
no_library_at maps map named own bit other k d lt same is =
    other (record { executable = bit; name = is.name; named = own ∙ ap named.0 (sym same) ∙ sym (named.1 k d lt) ∙ is.named; library = is.library })

pub known_other : (maps : List CoreMapRange) (refused : Option ℕ) (i : ℕ) (m : CoreMapRange) → ((start : ℕ) → refused ≡ Some start → NoLibraryAt maps start)
    → i < length maps → m ≡ get_or maps i m → IfSome refused (λ start. m.segment.addr ≡ start → ¬ IsLibraryMap m)
known_other maps None i m held lt at = tt
known_other maps (Some start) i m held lt at =
    subst (λ (x : CoreMapRange). x.segment.addr ≡ start → ¬ IsLibraryMap x) (sym at) (held start refl i m lt)

pub other_after : (maps : List CoreMapRange) (map : CoreMapRange) (named : HaveOneName maps) (i : ℕ) (before after : Option ℕ)
    → i < length maps → map ≡ get_or maps i map → ¬ IsLibraryMap map → ((start : ℕ) → before ≡ Some start → NoLibraryAt maps start)
    → (after ≡ before) ⊎ ((after ≡ Some map.segment.addr) × IsBitSet map.segment.flags 0)
    → (start : ℕ) → after ≡ Some start → NoLibraryAt maps start
other_after maps map named i before after lt at other held (inl same) start is = held start (sym same ∙ is)
other_after maps map named i before after lt at other held (inr (now, bit)) start is =
    let own : map.pathname ≡ named.0 map.segment.addr = subst (λ (x : CoreMapRange). x.pathname ≡ named.0 x.segment.addr) (sym at) (named.1 i map lt) in
    let here : map.segment.addr ≡ start = same_Some map.segment.addr start (sym now ∙ is) in
    subst (λ s. NoLibraryAt maps s) here (no_library_at maps map named own bit other)

pub others_more : (maps : List CoreMapRange) (i : ℕ) (m : CoreMapRange) → i < length maps → m ≡ get_or maps i m
    → All (λ x. ¬ IsLibraryMap x) (take i maps) → ¬ IsLibraryMap m → All (λ x. ¬ IsLibraryMap x) (take (i + 1) maps)
others_more maps i m lt at all other =
    All-more (λ x. ¬ IsLibraryMap x) maps i m lt all (subst (λ (x : CoreMapRange). ¬ IsLibraryMap x) at other)

pub not_so : (b : Bool) (A : Type 0) → b ≡ false → (A → b ≡ true) → ¬ A
not_so b A is so a = let t : b ≡ true = so a in absurd (cc)
