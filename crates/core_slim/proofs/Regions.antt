-- The memory of a slim core.
use Rattle.std.proofs.Common.{◌≡◌, ℕ, zero, suc, ◌+◌, ◌-◌, ◌<◌, ◌≤◌, ◌^◌, Bool, true, false, cond, leb, ltb, List, []}
use Rattle.std.proofs.Common.{◌∷◌, ◌++◌, length, take, drop, map, refl, sym, ap, ap₂, ◌∙◌, rules, arith, inl, inr}
use Rattle.std.proofs.Common.{add-zero, append_assoc, length-append, length-drop, ◌||◌}
use Rattle.std.specs.Prelude.{All, Option, Some, None, IsSome, slice_get, unwrap_or, filter, min}
use Rattle.std.specs.List.{AllByRecursion, flat_map}
use Rattle.std.proofs.lemmas.Bool.Decides.{nat_tests}
use Rattle.std.proofs.lemmas.Bool.{cases_lt}
use Rattle.std.proofs.lemmas.List.{drop-drop, drop_at, take_at}
use Rattle.std.proofs.lemmas.List.Elements.{All-cons, All-head, All-nil, All-tail}
use Rattle.std.proofs.lemmas.Option.{slice_get_past}
use Rattle.elf64_core.specs.Header.{FitsFile}
use Rattle.process_memory.specs.Memory.{Memory, Region, byte_at, bytes_at, first_byte, first_of, in_front, region_byte}
use Rattle.process_memory.specs.Seen.{HoldsSpan}
use Rattle.process_memory.specs.declared.memory.Span.{Span}
use Rattle.process_memory.proofs.Records.{byte_at-above}
use Rattle.process_memory.proofs.Stretch.{byte_below}
use Rattle.image_memory.specs.Notes.{is_note}
use Rattle.image_memory.specs.Pieces.{is_load, segment_region}
use Rattle.core_slim.specs.Joined.{covers, lies_in}
use Rattle.core_slim.specs.Slim.{notes_segment, piece_bytes, piece_segment, slim_segments}
use Rattle.core_slim.proofs.Joining.{in_span}
use Rattle.core_slim.proofs.Pieces.{held_ends}
use Rattle.core_slim.proofs.ReadBack.{HasRoom}

-- ---- the bytes of a piece that is in memory

some_of : (o : Option ℕ) → IsSome o → (b : ℕ) × (o ≡ Some b)
some_of None e = absurd (search rules)
some_of (Some b) e = (b, refl)

bytes_there : (m : Memory) (a n : ℕ) → ((k : ℕ) → k < n → IsSome (m (a + k)))
    → (bs : List ℕ) × (bytes_at m a n ≡ Some bs) × (length bs ≡ n) × ((k : ℕ) → k < n → m (a + k) ≡ slice_get bs k)
unfolding bytes_at
bytes_there m a zero h = ([], refl, refl, λ k lt. absurd (omega arith))
bytes_there m a (suc n) h =
    let at0 : IsSome (m (a + 0)) = h 0 (omega arith) in
    let here : IsSome (m a) = rw add-zero at at0 in
    let b = some_of (m a) here in
    let rest =
    bytes_there m (a + 1) n
    (λ k lt. let e : a + suc k ≡ (a + 1) + k = omega arith in rw e at (h (suc k) (omega arith))) in
    (b.0 ∷ rest.0, ap₂ in_front b.1 rest.1, omega (arith, rest.2), each (b.0) rest.0 b.1 rest.3)
  where
    each : (b : ℕ) (bs : List ℕ) → m a ≡ Some b → ((k : ℕ) → k < n → m (a + 1 + k) ≡ slice_get bs k) → (k : ℕ)
        → k < suc n → m (a + k) ≡ slice_get (b ∷ bs) k
    each b bs is more zero lt = let e : a + 0 ≡ a = omega arith in ap m e ∙ is
    each b bs is more (suc k) lt = let e : a + suc k ≡ (a + 1) + k = omega arith in ap m e ∙ more k (omega arith)

pub record AreThere (m : Memory) (p : Span) : Type 0 where
  pub counted : length (piece_bytes m p) ≡ p.len
  pub each : (k : ℕ) → k < p.len → m (p.start + k) ≡ slice_get (piece_bytes m p) k

pub are_there : (m : Memory) (p : Span) → HoldsSpan m p → AreThere m p
are_there m p held =
    let h = bytes_there m p.start p.len held in
    let same : h.0 ≡ piece_bytes m p = sym (ap (λ o. unwrap_or o []) h.1) in
    record { counted = ap length (sym same) ∙ h.2; each = λ k lt. h.3 k lt ∙ ap (λ bs. slice_get bs k) same }

-- ---- the byte at an address

abbrev pub piece_region : Memory → Span → Region
piece_region m p = (p.start, piece_bytes m p)

region_within : (m : Memory) (p : Span) (a : ℕ) → HoldsSpan m p → covers a p ≡ true
    → region_byte (piece_region m p) a ≡ m a
region_within m p a held is =
    let t = are_there m p held in
    let i = in_span a p is in
    let from : leb p.start a ≡ true = grind (arith, nat_tests) in
    let at : p.start + (a - p.start) ≡ a = omega arith in
    rw from (sym (ap m (sym at) ∙ t.each (a - p.start) (omega arith)))

region_outside : (m : Memory) (p : Span) (a : ℕ) → HoldsSpan m p → covers a p ≡ false
    → region_byte (piece_region m p) a ≡ None
region_outside m p a held out =
    let t = are_there m p held in
    elim (cases_lt a p.start) [
      | inl lt ↦ let later : leb p.start a ≡ false = grind (arith, nat_tests) in rw later refl
      | inr le ↦
          let from : leb p.start a ≡ true = grind (arith, nat_tests) in
          let past : p.start + p.len ≤ a = elim (cases_lt a (p.start + p.len)) [
            | inl less ↦ let also : ltb a (p.start + p.len) ≡ true =
                grind (arith, nat_tests) in absurd (let e = rw (from, also) at out in cc)
            | inr over ↦ over
          ] in
          rw from (slice_get_past (piece_bytes m p) (a - p.start) (omega (arith, t.counted)))
    ]

first_of_some : (o rest : Option ℕ) → IsSome o → first_of o rest ≡ o
first_of_some None rest is = absurd (search rules)
first_of_some (Some b) rest is = refl

first_back : (m : Memory) (ps : List Span) (a : ℕ) → All (HoldsSpan m) ps
    → first_byte (map (piece_region m) ps) a ≡ cond (lies_in ps a) (m a) None
first_back m [] a held = refl
first_back m (p ∷ ps) a held =
    by_test (covers a p) refl (All-head (HoldsSpan m) p ps held) (first_back m ps a (All-tail (HoldsSpan m) p ps held))
  where
    by_test : (t : Bool) → covers a p ≡ t → HoldsSpan m p
        → first_byte (map (piece_region m) ps) a ≡ cond (lies_in ps a) (m a) None
        → first_of (region_byte (piece_region m p) a) (first_byte (map (piece_region m) ps) a) ≡ cond
        (covers a p || lies_in ps a) (m a) None
    by_test true is here rest =
        let i = in_span a p is in
        let at : p.start + (a - p.start) ≡ a = omega arith in
        let there : IsSome (m a) = rw at at (here (a - p.start) (omega arith)) in
        rw is
        (ap (λ o. first_of o (first_byte (map (piece_region m) ps) a)) (region_within m p a here is)
        ∙ first_of_some (m a) _ there)
    by_test false is here rest =
        rw is (ap (λ o. first_of o (first_byte (map (piece_region m) ps) a)) (region_outside m p a here is) ∙ rest)

pub bytes_back : (rs : List Region) (ps : List Span) (a : ℕ) → All (HoldsSpan (byte_at rs)) ps
    → byte_at (map (piece_region (byte_at rs)) ps) a ≡ cond (lies_in ps a) (byte_at rs a) None
bytes_back rs ps a held =
    elim (cases_lt a (2 ^ 64 - 1)) [
      | inl lt ↦ byte_below (map (piece_region (byte_at rs)) ps) a lt ∙ first_back (byte_at rs) ps a held
      | inr le ↦
          byte_at-above (map (piece_region (byte_at rs)) ps) a le
          ∙ sym (ap (λ o. cond (lies_in ps a) o None) (byte_at-above rs a le) ∙ none (lies_in ps a))
    ]
  where
    none : (t : Bool) → ◌≡◌ {A = Option ℕ} (cond t None None) None
    none true = refl
    none false = refl

-- ---- the segments

module _ (file notes : List ℕ) (size : ℕ) (rs : List Region) (counted : size ≡ length notes)
    (short : length file < 2 ^ 63) where
  abbrev m : Memory
  m = byte_at rs

  -- the bytes of pieces and then the notes stand from an offset on
  pub record Follows (offset : ℕ) (ps : List Span) : Type 0 where
    pub bytes : drop offset file ≡ flat_map (piece_bytes m) ps ++ notes
    pub within : offset ≤ length file
    pub some : All (λ p. 0 < p.len) ps
    pub held : All (HoldsSpan m) ps

  here_held : (offset : ℕ) (p : Span) (ps : List Span) → Follows offset (p ∷ ps) → HoldsSpan m p
  here_held offset p ps f = All-head (HoldsSpan m) p ps f.held

  here_bytes : (offset : ℕ) (p : Span) (ps : List Span) → Follows offset (p ∷ ps)
      → drop offset file ≡ piece_bytes m p ++ (flat_map (piece_bytes m) ps ++ notes)
  here_bytes offset p ps f = f.bytes ∙ append_assoc (piece_bytes m p) (flat_map (piece_bytes m) ps) notes

  here_ends : (offset : ℕ) (p : Span) (ps : List Span) → Follows offset (p ∷ ps) → p.start + p.len ≤ 2 ^ 64 - 1
  here_ends offset p ps f = held_ends rs p (All-head (λ p. 0 < p.len) p ps f.some) (here_held offset p ps f)

  here_fits : (offset : ℕ) (p : Span) (ps : List Span) → Follows offset (p ∷ ps) → offset + p.len ≤ length file
  here_fits offset p ps f =
      let t = are_there m p (here_held offset p ps f) in
      let some : 0 < p.len = All-head (λ p. 0 < p.len) p ps f.some in
      omega (
        arith,
        t.counted,
        length-drop offset file,
        ap length (here_bytes offset p ps f),
        length-append (piece_bytes m p) (flat_map (piece_bytes m) ps ++ notes),
      )

  follows_next : (offset : ℕ) (p : Span) (ps : List Span) → Follows offset (p ∷ ps) → Follows (offset + p.len) ps
  follows_next offset p ps f =
      let t = are_there m p (here_held offset p ps f) in
      record {
        bytes = sym (drop-drop p.len offset file) ∙ ap (drop p.len) (here_bytes offset p ps f)
            ∙ drop_at (piece_bytes m p) (flat_map (piece_bytes m) ps ++ notes) p.len t.counted;
        within = here_fits offset p ps f;
        some = All-tail (λ p. 0 < p.len) p ps f.some;
        held = All-tail (HoldsSpan m) p ps f.held;
      }

  pub regions_back : (offset : ℕ) (ps : List Span) → Follows offset ps
      → map (segment_region file) (filter is_load (slim_segments offset size ps)) ≡ map (piece_region m) ps
  regions_back offset [] f = refl
  regions_back offset (p ∷ ps) f =
      let t = are_there m p (here_held offset p ps f) in
      let least : min p.len p.len ≡ p.len = omega arith in
      let bytes : take (min p.len p.len) (drop offset file) ≡ piece_bytes m p =
      ap₂ take least (here_bytes offset p ps f)
      ∙ take_at (piece_bytes m p) (flat_map (piece_bytes m) ps ++ notes) p.len t.counted in
      ap₂ (λ bs rs. (p.start, bs) ∷ rs) bytes (regions_back (offset + p.len) ps (follows_next offset p ps f))

  pub notes_back : (offset : ℕ) (ps : List Span) → Follows offset ps
      → (end : ℕ) × (filter is_note (slim_segments offset size ps) ≡ notes_segment end size ∷ []) ×
      (drop end file ≡ notes)
  notes_back offset [] f = (offset, refl, f.bytes)
  notes_back offset (p ∷ ps) f = notes_back (offset + p.len) ps (follows_next offset p ps f)

  notes_fit : (offset : ℕ) → Follows offset [] → offset + size ≤ length file
  notes_fit offset f = omega (arith, counted, f.within, length-drop offset file, ap length f.bytes)

  pub fits_back : (offset : ℕ) (ps : List Span) → Follows offset ps → All (FitsFile file) (slim_segments offset size ps)
  fits_back offset [] f =
      All-cons (FitsFile file) (notes_segment offset size) []
      (record {
        loaded = λ e. absurd (omega (arith, e));
        noted = λ e. inr (notes_fit offset f);
        mapped = λ e. absurd (omega (arith, e));
      })
      (All-nil (FitsFile file))
  fits_back offset (p ∷ ps) f =
      All-cons (FitsFile file) (piece_segment offset p) (slim_segments (offset + p.len) size ps)
      (record {
        loaded = λ e. inr (here_fits offset p ps f);
        noted = λ e. absurd (omega (arith, e));
        mapped = λ e. here_ends offset p ps f;
      })
      (fits_back (offset + p.len) ps (follows_next offset p ps f))

  pub room_back : (offset : ℕ) (ps : List Span) → Follows offset ps
      → AllByRecursion HasRoom (slim_segments offset size ps)
  room_back offset [] f = (
    record {
      kind = omega arith;
      flags = omega arith;
      offset = omega (arith, notes_fit offset f);
      addr = omega arith;
      file_size = omega (arith, notes_fit offset f);
      mem_size = omega arith;
    },
    tt,
  )
  room_back offset (p ∷ ps) f =
      let fits = here_fits offset p ps f in
      let ends = here_ends offset p ps f in (
        record {
          kind = omega arith;
          flags = omega arith;
          offset = omega (arith, fits);
          addr = omega (arith, ends);
          file_size = omega (arith, fits);
          mem_size = omega (arith, fits);
        },
        room_back (offset + p.len) ps (follows_next offset p ps f),
      )
