-- The frames of a whole chain of members are those of a report.
use Rattle.std.proofs.Common.{◌≡◌, ◌≢◌, ℕ, zero, suc, ◌≤◌, Bool, true, false, cond, List, [], ◌∷◌, ◌++◌, length, map}
use Rattle.std.proofs.Common.{refl, sym, ◌∙◌, ap, arith}
use Rattle.std.proofs.lemmas.Bool.Decides.{nat_tests}
use Rattle.std.specs.Prelude.{Option, Some, None, Ok, Err, nat_eq, not, ◌||◌, is_none}
use Rattle.std.specs.List.{filter}
use Rattle.elf64_core.specs.Fields.{u64_in}
use Rattle.process_memory.specs.Memory.{Found, Memory, ◌>>=◌}
use Rattle.process_memory.specs.Walk.{IsChain}
use Rattle.process_memory.proofs.Founds.{bound, ok_same}
use Rattle.py_fields.specs.declared.layout.Layout.{Layout}
use Rattle.py_builtins.specs.Texts.{text_at}
use Rattle.py_stacks.specs.declared.asked.Asked.{Asked}
use Rattle.py_stacks.specs.Asking.{nothing}
use Rattle.py_stacks.specs.Detail.{detail_at}
use Rattle.py_stacks.specs.Frames.{Call, back_by, back_of, begins_hidden, detailed, is_entered, is_hidden, plain_by}
use Rattle.py_stacks.specs.Frames.{records_at, shown_at, shown_by, visible, with_detail, with_mark}
use Rattle.py_stacks.specs.Member.{MemberAt, readable}
use Rattle.py_process.specs.Reports.{bare_call}
use Rattle.py_fronts.specs.BesideReports.{NoTextAtNull, frames_among}
use Rattle.py_fronts.specs.Members.{hides, is_kept, is_left_out}
use Rattle.py_fronts.specs.Standings.{Stood, has_no_caller, shows_none, standing_at, standing_named, texts_at}
use Rattle.py_fronts.specs.Standings.Stood.{IsFrame, IsMember}
use Rattle.py_fronts.proofs.FrontLaws.{some_next}

-- a frame with its mark, where a member has one
abbrev marked : Option Call → Bool → List Call
marked None mark = []
marked (Some c) mark = bare_call (with_mark c mark) ∷ []

-- ---- a member that a report shows, or skips

plain_kept : (l : Layout) (m : Memory) (r : MemberAt) (p part : Option Call) → detailed nothing l m r p ≡ Ok part
    → (is_none p ≡ is_none part) × ((mark : Bool) → marked p mark ≡ marked part mark)
plain_kept l m r None part e =
    let same : None ≡ part = ok_same None part e in
    (ap is_none same, λ mark. ap (λ o. marked o mark) same)
plain_kept l m r (Some c) part e =
    let d = bound (detail_at nothing l m r) (λ d. Ok (Some (with_detail c d))) part e in
    let same : Some (with_detail c d.0) ≡ part = ok_same (Some (with_detail c d.0)) part d.2 in
    (ap is_none same, λ mark. ap (λ o. marked o mark) same)

abbrev texts_of : Found (List ℕ) → Found (List ℕ) → Found (List ℕ × List ℕ)
texts_of d e = d >>= (λ file. e >>= (λ name. Ok (file, name)))

abbrev kept_frames : Bool → Stood → List Call
kept_frames kept s = cond kept (frames_among (s ∷ [])) []

module _ (q : Asked) (l : Layout) (m : Memory) (a : ℕ) (r : MemberAt) where
  by_name : (file : List ℕ) (name : Found (List ℕ)) (hidden : Bool) → is_hidden file ≡ hidden
      → kept_frames (not hidden) (standing_named q l m a r (texts_of (Ok file) name)) ≡ marked
      (visible (Some file) (readable name) (is_entered l.frame r.frame)) (has_no_caller l m (back_by l r))
  unfolding frames_among visible
  by_name file (Ok name) true e = rw e refl
  by_name file (Ok name) false e = rw e refl
  by_name file (Err f) true e = refl
  by_name file (Err f) false e = refl

  by_texts : (file name : Found (List ℕ)) (no_file : Bool) → (no_file ≡ true → (cs : List ℕ) → file ≢ Ok cs)
      → kept_frames (not (no_file || hides file)) (standing_named q l m a r (texts_of file name)) ≡ marked
      (visible (readable file) (readable name) (is_entered l.frame r.frame)) (has_no_caller l m (back_by l r))
  unfolding frames_among visible
  by_texts (Ok file) name true bare = absurd (bare refl file refl)
  by_texts (Ok file) name false bare = by_name file name (is_hidden file) refl
  by_texts (Err f) name true bare = refl
  by_texts (Err f) name false bare = refl

null_file : (l : Layout) (m : Memory) (at : ℕ) → NoTextAtNull l m → nat_eq at 0 ≡ true → (cs : List ℕ)
    → text_at l m at ≢ Ok cs
null_file l m zero bare e cs there = bare cs there
null_file l m (suc at) bare e cs there = let none : suc at ≡ 0 = grind (arith, nat_tests) in absurd
    (omega (arith, none))

-- what stands for a member, where it is kept, is what a report shows of it
member_frames : (q : Asked) (l : Layout) (m : Memory) (a : ℕ) (r : MemberAt) (part : Option Call) → NoTextAtNull l m
    → records_at l m a ≡ Ok r → shown_at nothing l m a ≡ Ok part
    → kept_frames (is_kept l m a) (standing_at q l m a) ≡ marked part (has_no_caller l m (back_by l r))
unfolding is_kept standing_at texts_at is_left_out shown_at
member_frames q l m a r part bare there shown =
    let detail : detailed nothing l m r (plain_by l m r) ≡ Ok part = detail_of (records_at l m a) there shown in
    rw there (by_texts q l m a r (text_at l m (u64_in r.code l.code.filename))
    (text_at l m (u64_in r.code l.code.name)) (nat_eq (u64_in r.code l.code.filename) 0)
    (null_file l m (u64_in r.code l.code.filename) bare)
    ∙ (plain_kept l m r (plain_by l m r) part detail).1 (has_no_caller l m (back_by l r)))
  where
    detail_of : (d : Found MemberAt) → d ≡ Ok r → (d >>= (λ r. detailed nothing l m r (plain_by l m r))) ≡ Ok part
        → detailed nothing l m r (plain_by l m r) ≡ Ok part
    detail_of d e s = ap (λ v. v >>= (λ r. detailed nothing l m r (plain_by l m r))) (sym e) ∙ s

-- whether a caller is shown is whether it is the next one that isn't skipped
caller_mark : (l : Layout) (m : Memory) (back : ℕ) (members : List ℕ) (parts : List (Option Call))
    → IsChain (back_of l m) back members → map (shown_at nothing l m) members ≡ map Ok parts
    → has_no_caller l m back ≡ begins_hidden true parts
unfolding IsChain has_no_caller back_of shown_at
caller_mark l m zero [] [] chain each = refl
caller_mark l m (suc back) [] parts chain each = absurd (let e : suc back ≡ 0 = chain in cc)
caller_mark l m back [] (p ∷ ps) chain each = absurd (cc)
caller_mark l m back (x ∷ xs) [] chain each = absurd (cc)
caller_mark l m zero (x ∷ xs) (p ∷ ps) chain each = absurd (chain.0 refl)
caller_mark l m (suc back) (x ∷ xs) (p ∷ ps) chain each =
    let n = some_next (back_of l m x) (λ n. IsChain (back_of l m) n xs) chain.2 in
    let r = bound (records_at l m x) (λ r. Ok (back_by l r)) n.0 n.1 in
    let head : shown_at nothing l m x ≡ Ok p = cc in
    let s = bound (records_at l m x) (λ r. detailed nothing l m r (plain_by l m r)) p head in
    let none : is_none (plain_by l m s.0) ≡ is_none p = (plain_kept l m s.0 (plain_by l m s.0) p s.2).0 in
    ap (shows_none l m) (ap (records_at l m) (sym chain.1) ∙ s.1) ∙ none ∙ first_hidden p ps
  where
    first_hidden : (p : Option Call) (ps : List (Option Call)) → is_none p ≡ begins_hidden true (p ∷ ps)
    first_hidden None ps = refl
    first_hidden (Some c) ps = refl

-- ---- members, in order

among_one : (s : Stood) (rest : List Stood) → frames_among (s ∷ rest) ≡ frames_among (s ∷ []) ++ frames_among rest
unfolding frames_among
among_one (IsFrame c f) rest = refl
among_one (IsMember a f) rest = refl

pub among_append : (xs ys : List Stood) → frames_among (xs ++ ys) ≡ frames_among xs ++ frames_among ys
unfolding frames_among
among_append [] ys = refl
among_append (IsFrame c f ∷ xs) ys = ap (λ cs. bare_call c ∷ cs) (among_append xs ys)
among_append (IsMember a f ∷ xs) ys = among_append xs ys

pub among_few : (xs : List Stood) → length (frames_among xs) ≤ length xs
unfolding frames_among
among_few [] = omega arith
among_few (IsFrame c f ∷ xs) = omega (arith, among_few xs)
among_few (IsMember a f ∷ xs) = omega (arith, among_few xs)

kept_first : (q : Asked) (l : Layout) (m : Memory) (x : ℕ) (xs : List ℕ) (kept : Bool) → is_kept l m x ≡ kept
    → frames_among (map (standing_at q l m) (filter (is_kept l m) (x ∷ xs))) ≡ kept_frames kept
    (standing_at q l m x) ++ frames_among (map (standing_at q l m) (filter (is_kept l m) xs))
kept_first q l m x xs true e = rw e
    (among_one (standing_at q l m x) (map (standing_at q l m) (filter (is_kept l m) xs)))
kept_first q l m x xs false e = rw e refl

shown_first : (p : Option Call) (ps : List (Option Call))
    → map bare_call (shown_by true (p ∷ ps)) ≡ marked p (begins_hidden true ps) ++ map bare_call (shown_by true ps)
unfolding shown_by
shown_first None ps = refl
shown_first (Some c) ps = refl

pub chain_frames : (q : Asked) (l : Layout) (m : Memory) (first : ℕ) (members : List ℕ) (parts : List (Option Call))
    → NoTextAtNull l m → IsChain (back_of l m) first members
    → map (shown_at nothing l m) members ≡ map Ok parts → frames_among
    (map (standing_at q l m) (filter (is_kept l m) members)) ≡ map bare_call (shown_by true parts)
unfolding IsChain frames_among shown_by back_of
chain_frames q l m first [] [] bare chain each = refl
chain_frames q l m first [] (p ∷ ps) bare chain each = absurd (cc)
chain_frames q l m first (x ∷ xs) [] bare chain each = absurd (cc)
chain_frames q l m first (x ∷ xs) (p ∷ ps) bare chain each =
    let n = some_next (back_of l m x) (λ n. IsChain (back_of l m) n xs) chain.2 in
    let r = bound (records_at l m x) (λ r. Ok (back_by l r)) n.0 n.1 in
    let back : back_by l r.0 ≡ n.0 = ok_same (back_by l r.0) n.0 r.2 in
    let head : shown_at nothing l m x ≡ Ok p = cc in
    let tail : map (shown_at nothing l m) xs ≡ map Ok ps = cc in
    let here = member_frames q l m x r.0 p bare r.1 head in
    let mark : has_no_caller l m (back_by l r.0) ≡ begins_hidden true ps = ap (has_no_caller l m) back
    ∙ caller_mark l m n.0 xs ps n.2 tail in
    kept_first q l m x xs (is_kept l m x) refl
    ∙ ap (λ cs. cs ++ frames_among (map (standing_at q l m) (filter (is_kept l m) xs))) (here ∙ ap (marked p) mark)
    ∙ ap (λ cs. marked p (begins_hidden true ps) ++ cs) (chain_frames q l m n.0 xs ps bare n.2 tail)
    ∙ sym (shown_first p ps)
