-- The tree of a layout's check has no float.
use Rattle.std.proofs.Common.{◌≡◌, ℕ, Bool, true, false, List, [], ◌∷◌, ◌++◌, Option, Some, None, refl, ap, ◌∙◌}
use Rattle.std.specs.Prelude.{◌||◌, if◌then◌else◌}
use Rattle.serde_json.specs.Data.{Data}
use Rattle.serde_json.specs.View.{items_of}
use Rattle.serde_json.specs.Written.{has_float, items_have_float}
use Rattle.py_selftest.specs.declared.trusting.Build.{Build}
use Rattle.py_selftest.specs.declared.trusting.Build.TheVariants.{FreeThreaded, TraceRefs}
use Rattle.py_selftest.specs.declared.tree.Listed.{Listed}
use Rattle.py_selftest.specs.declared.tree.Listed.TheVariants.{Told, Differing, Untold}
use Rattle.py_selftest.specs.Checking.{CheckShown, KeyShown}
use Rattle.py_selftest.specs.declared.questions.Answer.{Answer}
use Rattle.py_selftest.specs.declared.telling.Release.{Release}
use Rattle.py_selftest.specs.Trees.{doubt_tree, known_tree, release_tree}
use Rattle.py_selftest.specs.Questions.{has_no_right_frame}
use Rattle.py_selftest.specs.declared.checking.Verdict.{Verdict}
use Rattle.py_selftest.specs.declared.checking.Verdict.TheVariants.{Agrees, Differs, Doubtful, Silent, NotDescribed}
use Rattle.py_selftest.specs.Trees.{build_tree, check_tree, is_listed, key_tree, listed_from}
use Rattle.py_selftest.specs.Trees.{listed_tree, number_tree}

number : (n : Option ℕ) → has_float (number_tree n) ≡ false
number (Some n) = refl
number None = refl

key : (k : KeyShown) → has_float (key_tree k) ≡ false
key k = λ i. false || (number k.layout i || (number k.process i || false))

listed : (which : Listed) (k : KeyShown) → has_float (listed_tree which k) ≡ false
listed Told k = key k
listed Differing k = key k
listed Untold k = refl

one_more : (b : Bool) (d : Data) (ds : List Data) → has_float d ≡ false → items_have_float (items_of ds) ≡ false
    → items_have_float (items_of ((if b then d ∷ [] else []) ++ ds)) ≡ false
one_more true d ds one rest = ap (λ x. x || items_have_float (items_of ds)) one ∙ rest
one_more false d ds one rest = rest

items : (which : Listed) (ks : List KeyShown) → items_have_float (items_of (listed_from which ks)) ≡ false
unfolding listed_from
items which [] = refl
items which (k ∷ ks) =
    one_more (is_listed which k) (listed_tree which k) (listed_from which ks) (listed which k) (items which ks)

build : (b : Option Build) → has_float (build_tree b) ≡ false
build None = refl
build (Some FreeThreaded) = refl
build (Some TraceRefs) = refl

known : (answers : List Answer) → has_float (known_tree answers) ≡ false
known [] = refl
known (a ∷ rest) = refl

release : (r : Option Release) → has_float (release_tree r) ≡ false
release None = refl
release (Some r) = refl

doubt : (v : Verdict) (b : Bool) → has_float (doubt_tree v b) ≡ false
doubt Agrees b = refl
doubt Differs b = refl
doubt Doubtful b = refl
doubt Silent b = refl
doubt NotDescribed b = refl

pub no_float : (c : CheckShown) → has_float (check_tree c) ≡ false
no_float c = λ i. build c.build i || (items Differing c.keys i
    || (doubt c.verdict (has_no_right_frame c.frames c.known) i || (known c.known i || (items Untold c.keys i
    || (release c.other_table i || (items Told c.keys i || (false || false)))))))
