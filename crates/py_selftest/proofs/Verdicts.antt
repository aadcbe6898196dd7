-- What the answers say of each number.
use Rattle.std.proofs.Common.{◌≡◌, ◌≢◌, ℕ, Bool, true, false, nat_eq, List, [], ◌∷◌, map, refl, sym, ap, arith, subst}
use Rattle.std.proofs.Common.{inl, inr}
use Rattle.std.specs.Prelude.{Option, Some, None, Result, Ok, Err, IfOk, not, ◌||◌, ◌⊎◌, is_none, if◌then◌else◌}
use Rattle.std.specs.List.{list_any}
use Rattle.std.proofs.lemmas.Bool.Decides.{nat_tests}
use Rattle.process_memory.specs.Memory.{Memory, Found, ◌>>=◌}
use Rattle.py_fields.specs.declared.layout.Layout.{Layout}
use Rattle.py_selftest.specs.declared.checking.Trust.{Trust}
use Rattle.py_selftest.specs.declared.checking.Verdict.TheVariants.{Agrees, Differs, Doubtful}
use Rattle.py_selftest.specs.declared.telling.Release.{Release}
use Rattle.py_selftest.specs.declared.telling.Types.{Types}
use Rattle.py_selftest.specs.Checking.{Agree, AllAgree, CheckShown, Says, Differ, KeyShown, OneDiffers, are_other}
use Rattle.py_selftest.specs.Checking.{check_at, check_if}
use Rattle.py_selftest.specs.Checking.{check_of, described_at, differs, keys_from, unconfirmed, lacks, undescribed}
use Rattle.py_selftest.specs.Checking.{undescribed_at}
use Rattle.py_selftest.specs.Contents.{add_contents, first_contents}
use Rattle.py_selftest.specs.Questions.{has_no_right_frame}
use Rattle.py_selftest.specs.declared.contents.ContentsTold.{ContentsTold}
use Rattle.py_selftest.specs.Telling.{kept}
use Rattle.py_selftest.specs.Trusting.{table_at}
use Rattle.py_selftest.specs.Walking.{MetShown, met_at}
use Rattle.py_selftest.specs.declared.checking.Verdict.{Verdict}
use Rattle.py_selftest.specs.declared.questions.Answer.{Answer}
use Rattle.py_selftest.specs.declared.trusting.Table.{Table}
use Rattle.py_selftest.specs.declared.walking.ThreadPlace.{ThreadPlace}
use Rattle.py_selftest.specs.Checking.{trust_at, verdict_of}
use Rattle.process_memory.specs.Seen.{Answers, read_fault}
use Rattle.process_memory.specs.declared.memory.ReadFault.{ReadFault}
use Rattle.py_selftest.specs.declared.checking.LayoutCheck.{LayoutCheck}
use Rattle.py_selftest.specs.Checking.{check_result, check_shown}
use Rattle.py_selftest.specs.Rows.{the_rows}
use Rattle.py_selftest.specs.Trusting.{is_described}

-- whether any passes of some elements that are seen as others
pub any_map : {X Y : Type 0} (view : X → Y) (passes : Y → Bool) (xs : List X)
    → list_any (λ x. passes (view x)) xs ≡ list_any passes (map view xs)
any_map view passes [] = refl
any_map view passes (x ∷ xs) = ap (λ b. passes (view x) || b) (any_map view passes xs)

or_first : (a b : Bool) → (a || b) ≡ false → a ≡ false
or_first false b h = refl
or_first true b h = absurd (cc)

or_second : (a b : Bool) → (a || b) ≡ false → b ≡ false
or_second false b h = h
or_second true b h = absurd (cc)

same_numbers : (n p : ℕ) → not (nat_eq n p) ≡ false → n ≡ p
same_numbers n p h = grind (arith, nat_tests)

other_numbers : (n p : ℕ) → not (nat_eq n p) ≡ true → n ≢ p
other_numbers n p h = λ e. grind (arith, nat_tests)

same_by : (layout process : Option ℕ) → are_other layout process ≡ false → (n p : ℕ) → layout ≡ Some n
    → process ≡ Some p → n ≡ p
same_by layout process h n p e f = same_numbers n p (rw (e, f) at h)

told_by : (layout process : Option ℕ) → are_other layout process ≡ false → (is_none layout || is_none process) ≡ false
    → (n : ℕ) × (layout ≡ Some n) × (process ≡ Some n)
told_by None process h l = absurd (cc)
told_by (Some n) None h l = absurd (cc)
told_by (Some n) (Some p) h l = (n, refl, ap Some (sym (same_numbers n p h)))

agree_one : (k : KeyShown) → differs k ≡ false → lacks k ≡ false → Agree k
agree_one k d l = record {
  same = λ n p e f. same_by k.layout k.process d n p e f;
  told = λ needed. told_by k.layout k.process d (rw needed at l);
}

agree_all : (ks : List KeyShown) → list_any differs ks ≡ false → list_any lacks ks ≡ false → AllAgree ks
agree_all [] d l = tt
agree_all (k ∷ ks) d l = (
  agree_one k (or_first (differs k) (list_any differs ks) d) (or_first (lacks k) (list_any lacks ks) l),
  agree_all ks (or_second (differs k) (list_any differs ks) d) (or_second (lacks k) (list_any lacks ks) l),
)

differ_by : (k : KeyShown) (layout process : Option ℕ) → k.layout ≡ layout → k.process ≡ process
    → are_other layout process ≡ true → Differ k
differ_by k None process e f h = absurd (cc)
differ_by k (Some n) None e f h = absurd (cc)
differ_by k (Some n) (Some p) e f h =
    record { layout = n; process = p; says = e; tells = f; other = other_numbers n p h }

differ_one : (ks : List KeyShown) → list_any differs ks ≡ true → OneDiffers ks
unfolding OneDiffers
differ_one [] h = absurd (cc)
differ_one (k ∷ ks) h = elim (differs k) as
    (λ b. differs k ≡ b → (b || list_any differs ks) ≡ true → Differ k ⊎ OneDiffers ks) [
      | true ↦ λ e g. inl (differ_by k k.layout k.process refl refl e)
      | false ↦ λ e g. inr (differ_one ks g)
    ] refl h

-- by whether a number differs, whether no frame has a right answer, and whether a needed number is not told
abbrev by_three : Bool → Bool → Bool → Bool → Verdict
by_three d n l doubted = if d then Differs else (if n then Doubtful else (if l then unconfirmed doubted else Agrees))

agrees_if : (d n l doubted : Bool) → by_three d n l doubted ≡ Agrees → (d ≡ false) × (n ≡ false) × (l ≡ false)
agrees_if true n l doubted h = absurd (cc)
agrees_if false true l doubted h = absurd (cc)
agrees_if false false true true h = absurd (cc)
agrees_if false false true false h = absurd (cc)
agrees_if false false false doubted h = (refl, refl, refl)

differs_if : (d n l doubted : Bool) → by_three d n l doubted ≡ Differs → d ≡ true
differs_if true n l doubted h = refl
differs_if false true l doubted h = absurd (cc)
differs_if false false true true h = absurd (cc)
differs_if false false true false h = absurd (cc)
differs_if false false false doubted h = absurd (cc)

module _ (doubted : Bool) (frames : ℕ) (known : List Answer) (ks : List KeyShown) where
  verdict_agrees : verdict_of doubted frames known ks ≡ Agrees → AllAgree ks
  verdict_agrees h =
      let all = agrees_if (list_any differs ks) (has_no_right_frame frames known) (list_any lacks ks) doubted h in
      agree_all ks all.0 all.2

  verdict_right : verdict_of doubted frames known ks ≡ Agrees → has_no_right_frame frames known ≡ false
  verdict_right h =
      let all = agrees_if (list_any differs ks) (has_no_right_frame frames known) (list_any lacks ks) doubted h in all.1

  verdict_differs : verdict_of doubted frames known ks ≡ Differs → OneDiffers ks
  verdict_differs h = differ_one ks
      (differs_if (list_any differs ks) (has_no_right_frame frames known) (list_any lacks ks) doubted h)

module _ (m : Memory) (l : Layout) where
  by_keys : (trust : Trust) (frames : ℕ) (known : List Answer) (d : Found (List KeyShown)) (c : CheckShown)
      → (d >>= (λ keys. Ok (check_of trust frames known keys))) ≡ Ok c → Says c
  by_keys trust frames known (Err f) c e = absurd (cc)
  by_keys trust frames known (Ok keys) c e =
      let same : check_of trust frames known keys ≡ c = cc in
      subst Says same (record {
        agrees = verdict_agrees trust.doubted frames known keys;
        some_right = verdict_right trust.doubted frames known keys;
        differs = verdict_differs trust.doubted frames known keys;
      })

  by_trust : (frames : ℕ) (known : List Answer) (d : Found Trust) (c : CheckShown)
      → (d >>= (λ trust. keys_from m l trust.telling the_rows >>= (λ keys. Ok (check_of trust frames known keys))))
      ≡ Ok c → Says c
  by_trust frames known (Err f) c e = absurd (cc)
  by_trust frames known (Ok trust) c e = by_keys trust frames known (keys_from m l trust.telling the_rows) c e

  by_contents : (runtime : Option ℕ) (release : Release) (met : MetShown) (d : Found ContentsTold) (c : CheckShown)
      → (d >>= (λ contents. trust_at m met.types runtime release
      >>= (λ trust. keys_from m l trust.telling the_rows
      >>= (λ keys. Ok (check_of trust met.frames (add_contents met.answers contents) keys))))) ≡ Ok c → Says c
  by_contents runtime release met (Err f) c e = absurd (cc)
  by_contents runtime release met (Ok contents) c e =
      by_trust met.frames (add_contents met.answers contents) (trust_at m met.types runtime release) c e

  by_met : (runtime : Option ℕ) (release : Release) (threads : List ThreadPlace) (d : Found MetShown) (c : CheckShown)
      → (d >>= (λ met. first_contents l m threads
      >>= (λ contents. trust_at m met.types runtime release
      >>= (λ trust. keys_from m l trust.telling the_rows
      >>= (λ keys. Ok (check_of trust met.frames (add_contents met.answers contents) keys)))))) ≡ Ok c → Says c
  by_met runtime release threads (Err f) c e = absurd (cc)
  by_met runtime release threads (Ok met) c e = by_contents runtime release met (first_contents l m threads) c e

  by_table : (d : Found (Option Table)) (c : CheckShown) → (d >>= (λ table. Ok (undescribed table))) ≡ Ok c → Says c
  by_table (Err f) c e = absurd (cc)
  by_table (Ok table) c e =
      let same : undescribed table ≡ c = cc in
      subst Says same
      (record { agrees = λ h. tt; some_right = λ h. absurd (cc); differs = λ h. absurd (cc) })

  by_described : (types : Types) (runtime : Option ℕ) (release : Release) (pointers : List ℕ) (threads : List ThreadPlace) (b : Bool)
      (c : CheckShown) → check_if m l types runtime release pointers threads b ≡ Ok c → Says c
  unfolding described_at undescribed_at
  by_described types runtime release pointers threads true c e =
      by_met runtime release threads (met_at l release pointers m types threads) c e
  by_described types runtime release pointers threads false c e = by_table (kept (table_at m release runtime)) c e

  -- what the answer over a memory says
  pub check_says : (types : Types) (runtime : Option ℕ) (release : Release) (pointers : List ℕ) (threads : List ThreadPlace)
      (c : CheckShown) → check_at m l types runtime release pointers threads ≡ Ok c → Says c
  unfolding check_at
  check_says types runtime release pointers threads c e =
      by_described types runtime release pointers threads (is_described release) c e

pub says_of : (r : Result LayoutCheck ReadFault) (d : Found CheckShown) → ((c : CheckShown) → d ≡ Ok c → Says c)
    → Answers read_fault d (check_result r) → IfOk r (λ check. Says (check_shown check))
says_of (Ok check) d says a = says (check_shown check) a.is
says_of (Err e) d says a = tt
