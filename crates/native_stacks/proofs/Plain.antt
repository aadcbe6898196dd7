-- The tree of threads has no float.
use Rattle.std.proofs.Common.{◌≡◌, false, ℕ, List, [], ◌∷◌, map, Option, Some, None, refl, ap, ◌∙◌}
use Rattle.std.specs.Prelude.{◌||◌}
use Rattle.serde_json.specs.View.{items_of}
use Rattle.serde_json.specs.Written.{has_float, items_have_float}
use Rattle.native_frames.specs.Threads.{StackShown}
use Rattle.native_frames.proofs.Plain.{stack}
use Rattle.thread_registers.specs.declared.threads.Whose.{Whose}
use Rattle.thread_registers.specs.declared.threads.Whose.TheVariants.{Python, Other, Untold}
use Rattle.thread_registers.specs.Trees.{whose_tree}
use Rattle.native_stacks.specs.Stacks.{StacksShown}
use Rattle.native_stacks.specs.Threads.{NativeShown}
use Rattle.native_stacks.specs.Trees.{part_tree, stacks_tree, thread_tree, threads_tree}

part : (files : List (List ℕ)) (limit : ℕ) (s : Option StackShown) → has_float (part_tree files limit s) ≡ false
part files limit (Some s) = stack files limit s
part files limit None = refl

whose : (w : Whose) → has_float (whose_tree w) ≡ false
whose (Python found) = refl
whose Other = refl
whose Untold = refl

thread : (files : List (List ℕ)) (limit : ℕ) (t : NativeShown) → has_float (thread_tree files limit t) ≡ false
thread files limit t = λ i. false || (part files limit t.guessed i || (whose t.whose i
    || (part files limit t.stack i || (false || false))))

threads : (files : List (List ℕ)) (limit : ℕ) (ts : List NativeShown) → has_float (threads_tree files limit ts) ≡ false
threads files limit [] = refl
threads files limit (t ∷ ts) =
    ap (λ b. b || items_have_float (items_of (map (λ x. thread_tree files limit x) ts))) (thread files limit t)
    ∙ threads files limit ts

pub no_float : (limit : ℕ) (s : StacksShown) → has_float (stacks_tree limit s) ≡ false
no_float limit s = threads s.files limit s.threads
