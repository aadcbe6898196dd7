-- Marks that ascend: where those of lines below one end.
use Rattle.std.proofs.Common.{◌≡◌, ◌<◌, ◌≤◌, ◌+◌, ◌-◌, ℕ, zero, suc, Bool, true, false, cond, List, [], ◌∷◌, ◌++◌}
use Rattle.std.proofs.Common.{length, get_or, drop, drop-cons, append_assoc, refl, sym, ap, subst, ◌∙◌, arith, ⊎_elim}
use Rattle.std.specs.Prelude.{nat_lt, Some, None}
use Rattle.std.specs.Option.{option_or}
use Rattle.std.specs.List.{AllWithin}
use Rattle.std.specs.Str.{chars}
use Rattle.std.specs.Str.Lines.{lines}
use Rattle.std.specs.List.Sorted.{IsPartitionedBy}
use Rattle.std.proofs.lemmas.Bool.Decides.{nat_tests}
use Rattle.native_merge.specs.declared.source_map.SourceMark.{SourceMark}
use Rattle.native_merge.specs.SourceMaps.{AddsMark, AreMarks, MarksAscend, IsSourceMap, MapsOnce, last_below, mark_of}
use Rattle.native_merge.specs.Sources.{SourcesSeen, Stay}
use Rattle.native_merge.proofs.SourceNames.{tells_once}
use Rattle.native_merge.specs.SourceMaps.AreMarks.{End, Told, Untold}

abbrev pub is_below : ℕ → SourceMark → Bool
is_below lineno mark = nat_lt mark.line lineno

above : (at : ℕ) (marks : List SourceMark) → MarksAscend at marks → (j : ℕ) (d : SourceMark) → j < length marks → at ≤ (get_or marks j d).line
above at [] ascend j d lt = absurd (omega (arith, lt))
above at (m ∷ ms) ascend zero d lt = ascend.0
above at (m ∷ ms) ascend (suc j) d lt = omega (arith, ascend.0, above (m.line + 1) ms ascend.1 j d (omega (arith, lt)))

ascends : (at : ℕ) (marks : List SourceMark) → MarksAscend at marks → (i j : ℕ) (d : SourceMark) → i ≤ j → j < length marks
    → (get_or marks i d).line ≤ (get_or marks j d).line
ascends at [] ascend i j d le lt = absurd (omega (arith, lt))
ascends at (m ∷ ms) ascend zero zero d le lt = omega arith
ascends at (m ∷ ms) ascend zero (suc j) d le lt = omega (arith, above (m.line + 1) ms ascend.1 j d (omega (arith, lt)))
ascends at (m ∷ ms) ascend (suc i) zero d le lt = absurd (omega (arith, le))
ascends at (m ∷ ms) ascend (suc i) (suc j) d le lt = ascends (m.line + 1) ms ascend.1 i j d (omega (arith, le)) (omega (arith, lt))

low : (lineno a b : ℕ) → a ≤ b → nat_lt b lineno ≡ true → nat_lt a lineno ≡ true
low lineno a b le is = grind (arith, nat_tests, le, is)

pub partitioned : (lineno : ℕ) (marks : List SourceMark) → MarksAscend 0 marks → IsPartitionedBy (is_below lineno) marks
partitioned lineno marks ascend i j d le lt is =
    low lineno (get_or marks i d).line (get_or marks j d).line (ascends 0 marks ascend i j d le lt) is

none_below : (lineno : ℕ) (marks : List SourceMark) → ((k : ℕ) (d : SourceMark) → k < length marks → is_below lineno (get_or marks k d) ≡ false) → last_below lineno marks ≡ None
none_below lineno [] none = refl
none_below lineno (m ∷ ms) none =
    let here : is_below lineno m ≡ false = none zero m (omega arith) in
    ap (λ o. option_or o (cond (nat_lt m.line lineno) (Some m) None)) (none_below lineno ms (λ k d lt. none (suc k) d (omega (arith, lt))))
    ∙ ap (λ b. option_or None (cond b (Some m) None)) here

some_below : (lineno : ℕ) (marks : List SourceMark) (j : ℕ) (x : SourceMark) → j < length marks → x ≡ get_or marks j x → is_below lineno x ≡ true
    → ((k : ℕ) (d : SourceMark) → j < k → k < length marks → is_below lineno (get_or marks k d) ≡ false) → last_below lineno marks ≡ Some x
some_below lineno [] j x lt is below after = absurd (omega (arith, lt))
some_below lineno (m ∷ ms) zero x lt is below after =
    let here : is_below lineno m ≡ true = subst (λ (y : SourceMark). is_below lineno y ≡ true) is below in
    ap (λ o. option_or o (cond (nat_lt m.line lineno) (Some m) None))
    (none_below lineno ms (λ k d lt. after (suc k) d (omega arith) (omega (arith, lt))))
    ∙ ap (λ b. option_or None (cond b (Some m) None)) here ∙ ap Some (sym is)
some_below lineno (m ∷ ms) (suc j) x lt is below after =
    ap (λ o. option_or o (cond (nat_lt m.line lineno) (Some m) None))
    (some_below lineno ms j x (omega (arith, lt)) is below (λ k d a b. after (suc k) d (omega (arith, a)) (omega (arith, b))))

pub none_of : (lineno : ℕ) (marks : List SourceMark) (count : ℕ) → count ≡ 0 → AllWithin (λ m. is_below lineno m ≡ false) marks count (length marks) → None ≡ last_below lineno marks
none_of lineno marks count zero_is after = sym (none_below lineno marks (λ k d lt. after k d (omega (arith, zero_is)) lt))

pub last_of : (lineno : ℕ) (marks : List SourceMark) (count : ℕ) (x : SourceMark) → 1 ≤ count → count ≤ length marks → x ≡ get_or marks (count - 1) x
    → AllWithin (λ m. is_below lineno m ≡ true) marks 0 count → AllWithin (λ m. is_below lineno m ≡ false) marks count (length marks) → Some x ≡ last_below lineno marks
last_of lineno marks count x some within is before after =
    let below : is_below lineno x ≡ true = subst (λ (y : SourceMark). is_below lineno y ≡ true) (sym is) (before (count - 1) x (omega arith) (omega (arith, some))) in
    sym (some_below lineno marks (count - 1) x (omega (arith, some, within)) is below (λ k d a b. after k d (omega (arith, a)) b))

-- the marks of a text ascend, with a last one behind them
pub marks_ascend : {file_of : List ℕ → List ℕ} {at : ℕ} {lines : List (List ℕ)} {marks : List SourceMark} → AreMarks file_of at lines marks
    → (last : ℕ) → at + length lines ≤ last → MarksAscend at (marks ++ (mark_of last [] 0 ∷ []))
marks_ascend End last le = (omega (arith, le), tt)
marks_ascend (Told tells more) last le = (omega arith, marks_ascend more last (omega (arith, le)))
marks_ascend (Untold {at} {line} {rest} {marks} none more) last le = later at (marks ++ (mark_of last [] 0 ∷ [])) (marks_ascend more last (omega (arith, le)))
  where
    later : (at : ℕ) (marks : List SourceMark) → MarksAscend (at + 1) marks → MarksAscend at marks
    later at [] ascend = tt
    later at (m ∷ ms) ascend = (omega (arith, ascend.0), ascend.1)

pub map_ascends : (file_of : List ℕ → List ℕ) (contents : List ℕ) (map : List SourceMark) → IsSourceMap file_of contents map → MarksAscend 0 map
map_ascends file_of contents map is =
    subst (MarksAscend 0) (sym is.all) (marks_ascend is.are (length (lines contents) + 1) (omega arith))

-- ---- reading on

pub stays : (a b c : SourcesSeen) → Stay a b → Stay b c → Stay a c
stays a b c first then_is = record {
  exists = then_is.exists ∙ first.exists;
  told = then_is.told ∙ first.told;
  faults = omega (arith, first.faults, then_is.faults);
}

pub stay_same : (a : SourcesSeen) → Stay a a
stay_same a = record { exists = refl; told = refl; faults = omega arith }

-- a further line adds what it tells
pub reads_on : (file_of : List ℕ → List ℕ) (at : ℕ) (ls : List (List ℕ)) (line : List ℕ) (old new marks : List SourceMark)
    → at < length ls → line ≡ get_or ls at line → AddsMark file_of at line old new
    → ((ms : List SourceMark) → AreMarks file_of at (drop at ls) ms → AreMarks file_of 0 ls (old ++ ms))
    → AreMarks file_of (at + 1) (drop (at + 1) ls) marks → AreMarks file_of 0 ls (new ++ marks)
reads_on file_of at ls line old new marks lt is adds on more =
    let next : at + 1 ≡ suc at = omega arith in
    let dropped : drop at ls ≡ line ∷ drop (at + 1) ls =
    drop-cons ls at line lt ∙ ap (λ (x : List ℕ). x ∷ drop (suc at) ls) (sym is) ∙ ap (λ n. line ∷ drop n ls) (sym next) in
    ⊎_elim
    (λ told_is.
    let mark = mark_of at (file_of told_is.0) told_is.1 in
    let here : AreMarks file_of at (drop at ls) (mark ∷ marks) =
    subst (λ (xs : List (List ℕ)). AreMarks file_of at xs (mark ∷ marks)) (sym dropped) (Told told_is.2 more) in
    let e : new ++ marks ≡ old ++ (mark ∷ marks) =
    ap (λ (xs : List SourceMark). xs ++ marks) told_is.3 ∙ append_assoc old (mark ∷ []) marks in
    subst (λ (xs : List SourceMark). AreMarks file_of 0 ls xs) (sym e) (on (mark ∷ marks) here))
    (λ untold.
    let here : AreMarks file_of at (drop at ls) marks =
    subst (λ (xs : List (List ℕ)). AreMarks file_of at xs marks) (sym dropped) (Untold untold.0 more) in
    subst (λ (xs : List SourceMark). AreMarks file_of 0 ls (xs ++ marks)) (sym untold.1) (on marks here))
    adds

drop_none : {A : Type 0} (n : ℕ) (xs : List A) → n ≡ length xs → drop n xs ≡ []
drop_none zero [] e = refl
drop_none (suc n) [] e = refl
drop_none zero (x ∷ xs) e = absurd (omega (arith, e))
drop_none (suc n) (x ∷ xs) e = drop_none n xs (omega (arith, e))

append_none : {A : Type 0} (xs : List A) → xs ++ [] ≡ xs
append_none [] = refl
append_none (x ∷ xs) = ap (λ ys. x ∷ ys) (append_none xs)

-- all lines are read
pub reads_all : (file_of : List ℕ → List ℕ) (contents : List ℕ) (at : ℕ) (file : List ℕ) (marks all : List SourceMark) → at ≡ length (lines contents)
    → ((ms : List SourceMark) → AreMarks file_of at (drop at (lines contents)) ms → AreMarks file_of 0 (lines contents) (marks ++ ms))
    → file ≡ chars [] → all ≡ marks ++ (record { line = at + 1; file = file; number = 0 } ∷ []) → IsSourceMap file_of contents all
reads_all file_of contents at file marks all is on empty e =
    let none : AreMarks file_of at (drop at (lines contents)) [] =
    subst (λ (xs : List (List ℕ)). AreMarks file_of at xs []) (sym (drop_none at (lines contents) is)) End in
    let mark_is : mark_of (length (lines contents) + 1) [] 0 ≡ record { line = at + 1; file = file; number = 0 } =
    ap (λ (t : List ℕ). mark_by (length (lines contents) + 1) t) (sym empty) ∙ ap (λ n. mark_by (n + 1) file) (sym is) in
    record {
      marks = marks;
      are = subst (λ (xs : List SourceMark). AreMarks file_of 0 (lines contents) xs) (append_none marks) (on [] none);
      all = e ∙ ap (λ (m : SourceMark). marks ++ (m ∷ [])) (sym mark_is);
    }
  where
    mark_by : ℕ → List ℕ → SourceMark
    mark_by n text = record { line = n; file = text; number = 0 }

-- ---- one map

marks_once : {file_of : List ℕ → List ℕ} {at : ℕ} {ls : List (List ℕ)} {ms ns : List SourceMark} → AreMarks file_of at ls ms → AreMarks file_of at ls ns → ms ≡ ns
marks_once End End = refl
marks_once {file_of} (Told {at = at} {number = number} {line = line} {name = name} {marks = ms} tells more) (Told {number = again} {name = other} tells_too more_too) =
    let same = tells_once line name other number again tells tells_too in
    ap (λ (n : List ℕ). mark_of at (file_of n) number ∷ ms) same.0 ∙ ap (λ k. mark_of at (file_of other) k ∷ ms) same.1
    ∙ ap (λ (ns : List SourceMark). mark_of at (file_of other) again ∷ ns) (marks_once more more_too)
marks_once (Told {number = number} {name = name} tells more) (Untold none more_too) = absurd (none name number tells)
marks_once (Untold none more) (Told {number = number} {name = name} tells more_too) = absurd (none name number tells)
marks_once (Untold none more) (Untold none_too more_too) = marks_once more more_too

pub maps_once : MapsOnce
maps_once file_of contents map other a b =
    a.all ∙ ap (λ (ms : List SourceMark). ms ++ (mark_of (length (lines contents) + 1) [] 0 ∷ [])) (marks_once a.are b.are) ∙ sym b.all
