-- The program of a seed can be written, with the line tables of each family.
use Rattle.std.proofs.Common.{◌≡◌, ◌≢◌, ◌+◌, ◌%◌, ◌<◌, ◌≤◌, ◌^◌, ℕ, zero, suc, List, [], ◌∷◌, ◌++◌, length, take}
use Rattle.std.proofs.Common.{get_or, true, refl, sym, ap, subst, inl, inr, arith, length-append, lit≤}
use Rattle.std.specs.Prelude.{Some, None, IfSome, codes, ℤ, pos, ◌-ℤ◌}
use Rattle.std.specs.List.{AllByRecursion}
use Rattle.std.specs.Fmt.{decimal}
use Rattle.std.specs.Str.{IsAscii, all_scalars}
use Rattle.std.proofs.lemmas.Bool.{cases_lt}
use Rattle.std.proofs.lemmas.Fmt.{IsAscii-decimal, length-decimal-le_succ}
use Rattle.std.proofs.lemmas.Int.{ints}
use Rattle.std.proofs.lemmas.Option.{slice_get_past}
use Rattle.std.proofs.lemmas.Str.{chars-IsAscii, encodes-IsAscii, scalars-chars, IsAscii-append, IsUtf8-from_ascii}
use Rattle.std.proofs.lemmas.Str.Ascii.{IsAscii-cons, IsAscii-nil}
use Rattle.py_lines.specs.declared.lines.LineFamily.{LineFamily}
use Rattle.py_lines.specs.declared.lines.LineFamily.TheVariants.{Pairs, Ranges, Locations}
use Rattle.py_lines.specs.Coding.{coded, coded_behind, first_unordered, repeated, runs_bytes, runs_of}
use Rattle.memory_builder.specs.Program.{Thread}
use Rattle.memory_builder.specs.Validity.{HasValidLocals, IsBriefText, IsCodable, IsPositiveLine, IsShownFile}
use Rattle.memory_builder.specs.Validity.{IsValidCall, IsValidFrame, IsValidIn, IsValidlyNamed, IsValidlyPlaced}
use Rattle.memory_builder.specs.Validity.{IsValidProgram}
use Rattle.image_builder.specs.Generated.{each, frame_count, frame_of, generated, name_number, ranges_in, thread_of}
use Rattle.image_builder.proofs.EachAt.{all_each, get_each, length_each, take_each}

-- ---- texts

brief_ascii : (text : List ℕ) → IsAscii text → length text < 4096 → IsBriefText text
brief_ascii text ascii small = record {
  scalars = subst (λ (cs : List ℕ). all_scalars cs ≡ true)
      (chars-IsAscii text ascii) (scalars-chars text (IsUtf8-from_ascii text ascii));
  chars = small;
  bytes =
      omega (arith, small, ap length (encodes-IsAscii text ascii));
}

letter : (c : ℕ) (rest : List ℕ) → c < 128 → IsAscii rest → IsAscii (c ∷ rest)
letter c rest small ascii = IsAscii-cons c rest small ascii

name_brief : (n : ℕ) → n < 1000 → IsBriefText (codes "f" ++ decimal n)
name_brief n small =
    brief_ascii (102 ∷ decimal n) (letter 102 (decimal n) (omega arith) (IsAscii-decimal n (omega (arith, small))))
    (omega (arith, small, length-decimal-le_succ n (omega (arith, small))))

ending_ascii : IsAscii (codes ".py")
ending_ascii = letter 46 (112 ∷ 121 ∷ []) (omega arith) (letter 112 (121
    ∷ []) (omega arith) (letter 121 [] (omega arith) IsAscii-nil))

file_brief : (j : ℕ) → j < 16 → IsBriefText (codes "m" ++ (decimal j ++ codes ".py"))
file_brief j small =
    let behind = decimal j ++ codes ".py" in
    brief_ascii (109 ∷ behind) (letter 109 behind (omega arith)
    (IsAscii-append (decimal j) (codes ".py") (IsAscii-decimal j (omega (arith, small))) ending_ascii))
    (omega (arith, small, length-append (decimal j) (codes ".py"), length-decimal-le_succ j (omega (arith, small))))

one_letter : (c : ℕ) → c < 128 → IsBriefText (c ∷ [])
one_letter c small = brief_ascii (c ∷ []) (letter c [] small IsAscii-nil) (omega arith)

file_shown : (j : ℕ) → IsShownFile (codes "m" ++ (decimal j ++ codes ".py"))
file_shown j = record {
  some = λ e. let long : suc (length (decimal j ++ codes ".py")) ≡ 0 = ap length e in omega (arith, long);
  no_shim = λ e. let first : 109 ≡ 60 = ap (λ xs. get_or xs 0 0) e in omega (arith, first);
}

-- ---- lines

ordered : (family : LineFamily) (t j : ℕ) → first_unordered family 0 (ranges_in t j) ≡ None
unfolding first_unordered
ordered Pairs t j = refl
ordered Ranges t j = refl
ordered Locations t j = refl

last_pairs : (d : ℕ) → d ≤ 7 → length (runs_bytes Pairs (runs_of Pairs 4 (Some (pos d))) ++ []) ≤ 2
unfolding runs_bytes repeated
last_pairs zero h = lit≤ tt
last_pairs (suc zero) h = lit≤ tt
last_pairs (suc (suc zero)) h = lit≤ tt
last_pairs (suc (suc (suc zero))) h = lit≤ tt
last_pairs (suc (suc (suc (suc zero)))) h = lit≤ tt
last_pairs (suc (suc (suc (suc (suc zero))))) h = lit≤ tt
last_pairs (suc (suc (suc (suc (suc (suc zero)))))) h = lit≤ tt
last_pairs (suc (suc (suc (suc (suc (suc (suc zero))))))) h = lit≤ tt
last_pairs (suc (suc (suc (suc (suc (suc (suc (suc k)))))))) h = absurd (omega (arith, h))

last_ranges : (d : ℕ) → d ≤ 7 → length (runs_bytes Ranges (runs_of Ranges 2 (Some (pos d))) ++ []) ≤ 2
unfolding runs_bytes repeated
last_ranges zero h = lit≤ tt
last_ranges (suc zero) h = lit≤ tt
last_ranges (suc (suc zero)) h = lit≤ tt
last_ranges (suc (suc (suc zero))) h = lit≤ tt
last_ranges (suc (suc (suc (suc zero)))) h = lit≤ tt
last_ranges (suc (suc (suc (suc (suc zero))))) h = lit≤ tt
last_ranges (suc (suc (suc (suc (suc (suc zero)))))) h = lit≤ tt
last_ranges (suc (suc (suc (suc (suc (suc (suc zero))))))) h = lit≤ tt
last_ranges (suc (suc (suc (suc (suc (suc (suc (suc k)))))))) h = absurd (omega (arith, h))

last_locations : (d : ℕ) → d ≤ 7 → length (runs_bytes Locations (runs_of Locations 2 (Some (pos d))) ++ []) ≤ 2
unfolding runs_bytes repeated
last_locations zero h = lit≤ tt
last_locations (suc zero) h = lit≤ tt
last_locations (suc (suc zero)) h = lit≤ tt
last_locations (suc (suc (suc zero))) h = lit≤ tt
last_locations (suc (suc (suc (suc zero)))) h = lit≤ tt
last_locations (suc (suc (suc (suc (suc zero))))) h = lit≤ tt
last_locations (suc (suc (suc (suc (suc (suc zero)))))) h = lit≤ tt
last_locations (suc (suc (suc (suc (suc (suc (suc zero))))))) h = lit≤ tt
last_locations (suc (suc (suc (suc (suc (suc (suc (suc k)))))))) h = absurd (omega (arith, h))

-- the table has two bytes for each range
three : (family : LineFamily) (first one two last : ℤ) (a b : ℕ) → one -ℤ first ≡ pos 0 → two -ℤ one ≡ pos 1
    → last -ℤ two ≡ pos b → b ≤ 7
    → length (coded family first (record { start = 0; end = 2; line = Some one }
    ∷ record { start = 2; end = 6; line = Some two } ∷ record { start = 6; end = 8; line = Some last } ∷ [])) ≤ 6
unfolding coded coded_behind runs_bytes repeated
three Pairs first one two last a b x y z small = rw (x, y, z) (omega (arith, last_pairs b small))
three Ranges first one two last a b x y z small = rw (x, y, z) (omega (arith, last_ranges b small))
three Locations first one two last a b x y z small = rw (x, y, z) (omega (arith, last_locations b small))

codable : (family : LineFamily) (t j : ℕ) → IsCodable family (pos (1 + j)) (ranges_in t j)
codable family t j =
    let none : pos (1 + j) -ℤ pos (1 + j) ≡ pos 0 = omega (arith, ints) in
    let next : pos (2 + j) -ℤ pos (1 + j) ≡ pos 1 = omega (arith, ints) in
    let last : pos (3 + j + t % 7) -ℤ pos (2 + j) ≡ pos (1 + t % 7) = omega (arith, ints) in
    record {
      ordered = ordered family t j;
      short = omega (
        arith,
        three family (pos (1 + j)) (pos (1 + j)) (pos (2 + j)) (pos (3 + j + t % 7)) 0 (1 + t % 7) none next last
            (omega arith),
      );
    }

-- ---- frames

named : (seed t j : ℕ) → j < 16 → IsValidlyNamed (frame_of seed t j)
named seed t j small = record {
  name = name_brief (name_number seed t j) (omega arith);
  filename = file_brief j small;
  shown = file_shown j;
}

good_line : (n : ℕ) → 1 ≤ n → n < 2 ^ 31 → IsPositiveLine (pos n)
good_line n low high = record { positive = omega (arith, ints); fits = omega (arith, ints) }

placed : (seed t j : ℕ) → j < 16 → IsValidlyPlaced (frame_of seed t j)
placed seed t j small = record {
  first = good_line (1 + j) (omega arith) (omega arith);
  ranges = (
    record { even = refl; line = good_line (1 + j) (omega arith) (omega arith) },
    (
      record { even = refl; line = good_line (2 + j) (omega arith) (omega arith) },
      (record { even = refl; line = good_line (3 + j + t % 7) (omega arith) (omega arith) }, tt),
    ),
  );
  even = refl;
  inside = refl;
}

locals : (seed t j : ℕ) → t < 256 → j < 16 → HasValidLocals (frame_of seed t j)
locals seed t j few small = record {
  args = omega arith;
  few = omega arith;
  each = (
    record { name = one_letter 120 (omega arith); value = omega arith },
    (
      record {
        name = one_letter 121 (omega arith);
        value = (
          omega arith,
          (one_letter 115 (omega arith), (omega arith, tt)),
        );
      },
      tt,
    ),
  );
}

pub frame_valid : (family : LineFamily) (seed t j : ℕ) → t < 256 → j < 16 → IsValidFrame family (frame_of seed t j)
frame_valid family seed t j few small = record {
  named = named seed t j small;
  placed = placed seed t j small;
  locals = locals seed t j few small;
  codable = codable family t j;
}

-- ---- threads

calls_valid : (family : LineFamily) (seed t : ℕ) → t < 256 → (frame : ℕ)
    → IsValidCall family (each (frame_of seed t) (frame_count seed t)) frame
calls_valid family seed t few frame =
    elim (cases_lt frame (frame_count seed t)) [
      | inl small ↦ subst (λ o. IfSome o (IsValidFrame family))
          (sym (get_each (frame_of seed t) (frame_count seed t) frame small))
          (frame_valid family seed t frame few (omega (arith, small)))
      | inr far ↦ subst (λ o. IfSome o (IsValidFrame family))
          (sym (slice_get_past (each (frame_of seed t) (frame_count seed t)) frame (omega (
            arith,
            far,
            length_each (frame_of seed t) (frame_count seed t),
          )))) tt
    ]

new_id : (seed t : ℕ) → AllByRecursion (λ (other : Thread). other.id ≢ (thread_of seed t).id) (each (thread_of seed) t)
new_id seed t = all_each (λ (other : Thread). other.id ≢ (thread_of seed t).id) (thread_of seed) t
    (λ k small same. omega (arith, small, same))

thread_valid : (family : LineFamily) (seed t frame : ℕ) → t < 256
    → IsValidIn family (take t (each (thread_of seed) 256)) (thread_of seed t) frame
thread_valid family seed t frame few = record {
  thread = λ first. record {
    positive = omega arith;
    fits = omega (arith, few);
    new = subst (λ (ts : List Thread). AllByRecursion (λ (other : Thread). other.id ≢ (thread_of seed t).id) ts)
        (sym (take_each (thread_of seed) 256 t (omega (arith, few)))) (new_id seed t);
    few = omega (arith, length_each (frame_of seed t) (frame_count seed t));
  };
  call = calls_valid family seed t few frame;
}

-- ---- the program

pub generated_valid : (family : LineFamily) (seed : ℕ) → IsValidProgram family (generated seed)
unfolding generated
generated_valid family seed thread frame = record {
  whole = λ a b. record { some = omega (arith, length_each (thread_of seed) 256); owner = tt };
  few = λ a b. omega (arith, length_each (thread_of seed) 256);
  within = elim (cases_lt thread 256) [
    | inl small ↦ subst (λ o. IfSome o (λ t. IsValidIn family (take thread (each (thread_of seed) 256)) t frame))
        (sym (get_each (thread_of seed) 256 thread small))
        (thread_valid family seed thread frame small)
    | inr far ↦ subst (λ o. IfSome o (λ t. IsValidIn family (take thread (each (thread_of seed) 256)) t frame))
        (sym (slice_get_past (each (thread_of seed) 256) thread (omega (arith, far, length_each (thread_of seed) 256))))
        tt
  ];
}
