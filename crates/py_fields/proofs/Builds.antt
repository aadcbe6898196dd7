-- The metadata of a version: what the reader takes is what is spelled.
use Rattle.std.proofs.Common.{◌≡◌, ◌≢◌, ℕ, ◌<◌, Bool, true, false, List, [], ◌∷◌, ◌++◌, length, take, drop, get_or}
use Rattle.std.proofs.Common.{refl, sym, ap, subst, ◌∙◌, arith}
use Rattle.std.specs.Prelude.{Option, Some, None, if◌then◌else◌, ◌==◌, All, IsTrue}
use Rattle.std.proofs.lemmas.Bool.Decides.{nat_tests}
use Rattle.std.proofs.lemmas.Option.{same_Some}
use Rattle.std.proofs.lemmas.List.{get_or-take, take-append-drop}
use Rattle.std.proofs.lemmas.List.Elements.{All-append, All-cons, All-from_get_or, All-head, All-nil, All-tail}
use Rattle.std.proofs.lemmas.List.Elements.{All-weaker}
use Rattle.std.proofs.lemmas.List.Folds.{length-prefix_len}
use Rattle.std.proofs.lemmas.List.Sums.{prefix_len_passes}
use Rattle.std.proofs.Math.Seq.{take-append_seam, drop-append_seam}
use Rattle.py_fields.specs.Spelling.{IsMetadata, IsMetadataRun, dotted, dotted_after, is_metadata}
use Rattle.py_fields.specs.Fronts.{are_runs, are_runs_after, is_dotted, metadata_front, metadata_len}
use Rattle.py_fields.proofs.Numbers.{chose}

abbrev pub IsOf : ℕ → Type 0
IsOf c = IsTrue (is_metadata c)

abbrev pub IsOfDotted : ℕ → Type 0
IsOfDotted c = IsTrue (is_dotted c)

abbrev pub AreRuns : List (List ℕ) → Type 0
AreRuns runs = All IsMetadataRun runs

-- ---- where the metadata ends

ends_after : (ds rest : List ℕ) → All IsOfDotted ds → metadata_len rest ≡ 0 → metadata_len (ds ++ rest) ≡ length ds
ends_after [] rest all none = none
ends_after (d ∷ ds) rest all none =
    let is : is_dotted d ≡ true = All-head IsOfDotted d ds all in
    let more = ends_after ds rest (All-tail IsOfDotted d ds all) none in
    rw is (omega (arith, more))

taken_dotted : (xs : List ℕ) → All IsOfDotted (take (metadata_len xs) xs)
taken_dotted xs = All-from_get_or IsOfDotted (take (metadata_len xs) xs) 0 passes
  where
    passes : (i : ℕ) → i < length (take (metadata_len xs) xs) → IsOfDotted (get_or (take (metadata_len xs) xs) i 0)
    passes i lt =
        let below : i < metadata_len xs = omega (arith, lt, length-prefix_len is_dotted xs) in
        rw (get_or-take (metadata_len xs) xs i 0 below) (prefix_len_passes is_dotted xs i 0 below)

-- ---- runs joined by dots

-- one byte of metadata is no dot
no_dot : (c : ℕ) → is_metadata c ≡ true → (c == 46) ≡ false
no_dot c is = grind (arith, nat_tests, is)

of_dotted : (c : ℕ) → IsOf c → IsOfDotted c
of_dotted c is = rw is refl

-- behind a run stands a dot or nothing
passes_run : (before : Bool) (runs : List (List ℕ)) → (before ≡ true → ⊥) → ((run : List ℕ) (more : List (List ℕ)) → runs ≡ run ∷ more → are_runs_after true (run ++ dotted_after more) ≡ true) → are_runs_after before (dotted_after runs) ≡ true
passes_run true runs some next = absurd (some refl)
passes_run false [] some next = refl
passes_run false (run ∷ more) some next = next run more refl

passes_byte : (before : Bool) (c : ℕ) (rest : List ℕ) → (c == 46) ≡ false → are_runs_after false rest ≡ true → are_runs_after before (c ∷ rest) ≡ true
passes_byte true c rest none tail = rw none tail
passes_byte false c rest none tail = rw none tail

-- what is left of a run, and the runs after it
runs_pass : (before : Bool) (cs : List ℕ) (runs : List (List ℕ)) → All IsOf cs → AreRuns runs → (before ≡ true → cs ≢ []) → are_runs_after before (cs ++ dotted_after runs) ≡ true
runs_pass before [] [] all each some = passes_run before [] (λ is. some is refl) (λ run more e. absurd (cc))
runs_pass true [] (run ∷ runs) all each some = absurd (some refl refl)
runs_pass false [] (run ∷ runs) all each some =
    let first : IsMetadataRun run = All-head IsMetadataRun run runs each in
    runs_pass true run runs first.all (All-tail IsMetadataRun run runs each) (λ _. first.some)
runs_pass before (c ∷ cs) runs all each some =
    passes_byte before c (cs ++ dotted_after runs) (no_dot c (All-head IsOf c cs all))
    (runs_pass false cs runs (All-tail IsOf c cs all) each (λ e. absurd (cc)))

run_passes : (run : List ℕ) (runs : List (List ℕ)) → IsMetadataRun run → AreRuns runs → are_runs (run ++ dotted_after runs) ≡ true
run_passes [] runs is each = absurd (is.some refl)
run_passes (c ∷ cs) runs is each = runs_pass true (c ∷ cs) runs is.all each (λ _. is.some)

are_runs_dotted : (runs : List (List ℕ)) → AreRuns runs → are_runs (dotted runs) ≡ true
are_runs_dotted [] each = refl
are_runs_dotted (run ∷ runs) each = run_passes run runs (All-head IsMetadataRun run runs each) (All-tail IsMetadataRun run runs each)

after_dotted : (runs : List (List ℕ)) → AreRuns runs → All IsOfDotted (dotted_after runs)
after_dotted [] each = All-nil IsOfDotted
after_dotted (run ∷ runs) each =
    let first = All-weaker IsOf IsOfDotted of_dotted run (All-head IsMetadataRun run runs each).all in
    All-cons IsOfDotted 46 _ refl (All-append IsOfDotted run (dotted_after runs) first (after_dotted runs (All-tail IsMetadataRun run runs each)))

pub are_dotted : (runs : List (List ℕ)) → AreRuns runs → All IsOfDotted (dotted runs)
are_dotted [] each = All-nil IsOfDotted
are_dotted (run ∷ runs) each =
    let first = All-weaker IsOf IsOfDotted of_dotted run (All-head IsMetadataRun run runs each).all in
    All-append IsOfDotted run (dotted_after runs) first (after_dotted runs (All-tail IsMetadataRun run runs each))

-- bytes that pass are what is left of a run, and the runs after it
record Splits (before : Bool) (cs : List ℕ) : Type 0 where
  pub run : List ℕ
  pub all : All IsOf run
  pub some : before ≡ true → run ≢ []
  pub runs : List (List ℕ)
  pub each : AreRuns runs
  pub parts : cs ≡ run ++ dotted_after runs

-- a byte that is no dot is one of metadata
no_dot_of : (c : ℕ) → is_dotted c ≡ true → (c == 46) ≡ false → IsOf c
no_dot_of c is none = grind (arith, nat_tests, is, none)

is_no_run : (before : Bool) (rest : List ℕ) → are_runs_after before (46 ∷ rest) ≡ true → (before ≡ false) × (are_runs_after true rest ≡ true)
is_no_run true rest passes = absurd (cc)
is_no_run false rest passes = (refl, passes)

rest_passes : (before : Bool) (c : ℕ) (rest : List ℕ) → (c == 46) ≡ false → are_runs_after before (c ∷ rest) ≡ true → are_runs_after false rest ≡ true
rest_passes true c rest none passes = rw none at passes
rest_passes false c rest none passes = rw none at passes

splits_dot : (before : Bool) (cs : List ℕ) → before ≡ false → Splits true cs → Splits before (46 ∷ cs)
splits_dot before cs is s = record {
  run = [];
  all = All-nil IsOf;
  some = λ e. absurd (cc (e, is));
  runs = s.run ∷ s.runs;
  each = All-cons IsMetadataRun s.run s.runs (record { some = s.some refl; all = s.all }) s.each;
  parts = ap (λ r. 46 ∷ r) s.parts;
}

splits_byte : (before : Bool) (c : ℕ) (cs : List ℕ) → IsOf c → Splits false cs → Splits before (c ∷ cs)
splits_byte before c cs is s = record {
  run = c ∷ s.run;
  all = All-cons IsOf c s.run is s.all;
  some = λ _ e. absurd (cc);
  runs = s.runs;
  each = s.each;
  parts = ap (λ r. c ∷ r) s.parts;
}

splits : (before : Bool) (cs : List ℕ) → All IsOfDotted cs → are_runs_after before cs ≡ true → Splits before cs
splits true [] all passes = absurd (cc)
splits false [] all passes = record { run = []; all = All-nil IsOf; some = λ e. absurd (cc); runs = []; each = All-nil IsMetadataRun; parts = refl }
splits before (c ∷ cs) all passes =
    let tail = All-tail IsOfDotted c cs all in
    by_dot (c == 46) refl (λ is two. splits true cs tail two) (λ is two. splits false cs tail two)
  where
    by_dot : (b : Bool) → (c == 46) ≡ b → ((c == 46) ≡ true → are_runs_after true cs ≡ true → Splits true cs) → ((c == 46) ≡ false → are_runs_after false cs ≡ true → Splits false cs) → Splits before (c ∷ cs)
    by_dot true is dot byte =
        let c_is : c ≡ 46 = grind (arith, nat_tests, is) in
        let parts = is_no_run before cs (subst (λ d. are_runs_after before (d ∷ cs) ≡ true) c_is passes) in
        subst (λ d. Splits before (d ∷ cs)) (sym c_is) (splits_dot before cs parts.0 (dot is parts.1))
    by_dot false is dot byte = splits_byte before c cs (no_dot_of c (All-head IsOfDotted c cs all) is) (byte is (rest_passes before c cs is passes))

-- bytes that pass are runs joined by dots
are_joined : (cs : List ℕ) → All IsOfDotted cs → are_runs cs ≡ true → (runs : List (List ℕ)) × AreRuns runs × (cs ≡ dotted runs)
are_joined [] all passes = ([], All-nil IsMetadataRun, refl)
are_joined (c ∷ cs) all passes =
    let s = splits true (c ∷ cs) all passes in
    (s.run ∷ s.runs, All-cons IsMetadataRun s.run s.runs (record { some = s.some refl; all = s.all }) s.each, s.parts)

-- ---- the whole

-- nothing that metadata could go on with
pub record Ends (rest : List ℕ) : Type 0 where
  pub no_more : metadata_len rest ≡ 0
  pub no_plus : metadata_front rest ≡ Some (None, rest)

pub metadata_read : (text rest : List ℕ) (m : Option (List ℕ)) → IsMetadata text m → Ends rest → metadata_front (text ++ rest) ≡ Some (m, rest)
metadata_read text rest None is ends = rw is ends.no_plus
metadata_read text rest (Some m) is ends =
    let dots : All IsOfDotted m = subst (λ cs. All IsOfDotted cs) (sym is.are) (are_dotted is.runs is.each) in
    let passes : are_runs m ≡ true = ap are_runs is.are ∙ are_runs_dotted is.runs is.each in
    let len : metadata_len (m ++ rest) ≡ length m = ends_after m rest dots ends.no_more in
    rw is.parts (rw (len, take-append_seam m rest, drop-append_seam m rest, passes) refl)

taken_if : {X : Type 0} (b : Bool) (x y : X) → b ≡ true → (if b then x else y) ≡ x
taken_if b x y is = rw is refl

left_if : {X : Type 0} (b : Bool) (x y : X) → b ≡ false → (if b then x else y) ≡ y
left_if b x y is = rw is refl

pub metadata_spells : (bytes rest : List ℕ) (m : Option (List ℕ)) → metadata_front bytes ≡ Some (m, rest) → (text : List ℕ) × IsMetadata text m × (bytes ≡ text ++ rest)
metadata_spells [] rest m e =
    let same = same_Some (None, []) (m, rest) e in
    let none : None ≡ m = ap (λ (x : Option (List ℕ) × List ℕ). x.0) same in
    let left : [] ≡ rest = ap (λ (x : Option (List ℕ) × List ℕ). x.1) same in
    ([], subst (IsMetadata []) none refl, left)
metadata_spells (plus ∷ more) rest m e = by (plus == 43) refl
  where
    IsAnswer : Type 0
    IsAnswer = (text : List ℕ) × IsMetadata text m × (plus ∷ more ≡ text ++ rest)

    by : (b : Bool) → (plus == 43) ≡ b → IsAnswer
    by true is =
        let n = metadata_len more in
        let got = chose (are_runs (take n more)) (Some (take n more), drop n more) (m, rest) (sym (taken_if (plus == 43) _ _ is) ∙ e) in
        let some : Some (take n more) ≡ m = ap (λ (x : Option (List ℕ) × List ℕ). x.0) got.1 in
        let left : drop n more ≡ rest = ap (λ (x : Option (List ℕ) × List ℕ). x.1) got.1 in
        let joined = are_joined (take n more) (taken_dotted more) got.0 in
        let c_is : plus ≡ 43 = grind (arith, nat_tests, is) in (
          plus ∷ take n more,
          subst (IsMetadata (plus ∷ take n more)) some (record {
            runs = joined.0;
            each = joined.1;
            are = joined.2;
            parts = ap (λ c. c ∷ take n more) c_is;
          }),
          ap (λ r. plus ∷ r) (sym (take-append-drop n more) ∙ ap (λ r. take n more ++ r) left),
        )
    by false is =
        let same = same_Some (None, plus ∷ more) (m, rest) (sym (left_if (plus == 43) _ _ is) ∙ e) in
        let none : None ≡ m = ap (λ (x : Option (List ℕ) × List ℕ). x.0) same in
        let left : plus ∷ more ≡ rest = ap (λ (x : Option (List ℕ) × List ℕ). x.1) same in
        ([], subst (IsMetadata []) none refl, left)
