-- What is found by search is what is found among the first of its candidates, and among all where it did not end before.
use Rattle.std.proofs.Common.{◌≡◌, ℕ, ◌+◌, subst, ◌<◌, ◌≤◌, Bool, true, false, List, [], ◌∷◌, ◌++◌, refl, ◌∙◌, ap, arith}
use Rattle.std.specs.Prelude.{◌||◌, nat_le, nat_lt}
use Rattle.std.proofs.lemmas.Bool.Decides.{nat_tests}
use Rattle.process_memory.specs.Memory.{Memory}
use Rattle.py_fields.specs.declared.version.Version.{Version}
use Rattle.py_fields.specs.declared.layout.Layout.{Layout}
use Rattle.py_process.specs.Facts.{Known}
use Rattle.std.specs.Prelude.{IfOk, Ok, Err, Result}
use Rattle.py_stacks.specs.declared.error.StackError.{StackError}
use Rattle.py_fronts.specs.declared.interpreters.InterpreterSearch.{InterpreterSearch}
use Rattle.py_fronts.specs.Answers.{IsOrNoMemory}
use Rattle.py_fronts.specs.Candidates.{has_long_section, named_candidates, searched_candidates}
use Rattle.py_fronts.specs.Interpreters.{Search, after_candidates, after_looks, after_records, interpreter_limit}
use Rattle.py_fronts.specs.Interpreters.{interpreters_at, look_at, look_within, looked_at, none_found, search_at}
use Rattle.py_fronts.specs.Interpreters.{Told, search_begins, search_limit, told_at, told_result, with_their_records}
use Rattle.py_fronts.proofs.SearchSteps.{looks_few, looks_spent}

-- of some addresses these were looked at, and all of them where fewer members were walked than the limit
record LooksAt (c : ℕ → Bool) (l : Layout) (m : Memory) (s : Search) (xs : List ℕ) : Type 0 where
  pub looked : List ℕ
  pub rest : List ℕ
  pub parts : xs ≡ looked ++ rest
  pub finds : (after_looks c l m s xs).finds ≡ after_candidates true c l m s.finds looked
  pub all : (after_looks c l m s xs).members < search_limit → rest ≡ []

looks_by : (c : ℕ → Bool) (l : Layout) (m : Memory) (s : Search) (x : ℕ) (xs : List ℕ) (b : Bool)
    → nat_lt s.members search_limit ≡ b → LooksAt c l m (look_at c l m s x) xs → LooksAt c l m s (x ∷ xs)
unfolding after_looks after_candidates
looks_by c l m s x xs true e rest =
    let one : look_within c l m s x ≡ look_at c l m s x = rw e refl in
    record {
      looked = x ∷ rest.looked;
      rest = rest.rest;
      parts = ap (λ ys. x ∷ ys) rest.parts;
      finds = ap (λ (t : Search). (after_looks c l m t xs).finds) one ∙ rest.finds;
      all = λ few. rest.all (subst (λ (t : Search). (after_looks c l m t xs).members < search_limit) one few);
    }
looks_by c l m s x xs false e rest =
    let past : search_limit ≤ s.members = grind (arith, nat_tests) in
    let one : look_within c l m s x ≡ s = rw e refl in
    let same : after_looks c l m (look_within c l m s x) xs ≡ s =
    ap (λ t. after_looks c l m t xs) one ∙ looks_spent c l m s xs past in
    record {
      looked = [];
      rest = x ∷ xs;
      parts = refl;
      finds = ap (λ (t : Search). t.finds) same;
      all = λ few. absurd (omega (arith, few, past, ap (λ (t : Search). t.members) same));
    }

looks_part : (c : ℕ → Bool) (l : Layout) (m : Memory) (s : Search) (xs : List ℕ) → LooksAt c l m s xs
unfolding after_looks after_candidates
looks_part c l m s [] = record { looked = []; rest = []; parts = refl; finds = refl; all = λ few. refl }
looks_part c l m s (x ∷ xs) =
    looks_by c l m s x xs (nat_lt s.members search_limit) refl (looks_part c l m (look_at c l m s x) xs)

-- those of a process
pub record FoundAmong (c : ℕ → Bool) (k : Known) (v : Version) (l : Layout) (m : Memory) : Type 0 where
  pub looked : List ℕ
  pub rest : List ℕ
  pub parts : searched_candidates k m ≡ looked ++ rest
  pub finds : interpreters_at c k v l m ≡ with_their_records true c l m
      (with_their_records false c l m none_found (named_candidates k v l m)) looked
  pub all : (search_at c k v l m).members < search_limit → rest ≡ []

pub found_part : (c : ℕ → Bool) (k : Known) (v : Version) (l : Layout) (m : Memory) → FoundAmong c k v l m
unfolding interpreters_at search_at search_begins
found_part c k v l m =
    let p = looks_part c l m (search_begins c k v l m) (searched_candidates k m) in
    record {
      looked = p.looked;
      rest = p.rest;
      parts = p.parts;
      finds = ap (after_records c l m interpreter_limit 0) p.finds;
      all = p.all;
    }

pub neither : (a b : Bool) → (a || b) ≡ false → (a ≡ false) × (b ≡ false)
neither false b e = (refl, e)
neither true b e = absurd (cc)

-- where it did not end before, all candidates were looked at, and no section has more words
pub record NotEnded (c : ℕ → Bool) (k : Known) (v : Version) (l : Layout) (m : Memory) : Type 0 where
  pub below : (search_at c k v l m).members < search_limit
  pub short : has_long_section k ≡ false

pub not_ended : (c : ℕ → Bool) (k : Known) (v : Version) (l : Layout) (m : Memory)
    → (looked_at c k v l m).ended ≡ false → NotEnded c k v l m
unfolding looked_at
not_ended c k v l m e =
    let p = neither (nat_le search_limit (search_at c k v l m).members) (has_long_section k) e in
    let no : nat_le search_limit (search_at c k v l m).members ≡ false = p.0 in
    record { below = grind (arith, nat_tests); short = p.1 }

-- the budget
pub members_few : (c : ℕ → Bool) (k : Known) (v : Version) (l : Layout) (m : Memory)
    → (looked_at c k v l m).members < 4194304 + 4096
unfolding looked_at search_at search_begins
members_few c k v l m = looks_few c l m (search_begins c k v l m) (searched_candidates k m) (omega arith)

pub walked_few : (c : ℕ → Bool) (k : Known) (v : Version) (l : Layout) (m : Memory)
    (r : Result InterpreterSearch StackError) → IsOrNoMemory (told_at c k v l m) (told_result r)
    → IfOk r (λ search. search.looked.members < 4194304 + 4096)
walked_few c k v l m (Ok search) e =
    omega (arith, ap (λ (t : Told). t.looked.members) e, members_few c k v l m)
walked_few c k v l m (Err e) h = tt
