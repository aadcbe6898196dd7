-- What a thread's locals lead to, over an opened process.
use Rattle.std.proofs.Common.{◌≡◌, ◌∙◌, ◌∷◌, ℕ, List, Ok, Some, ap, get_or, inr, length, map, nat_lt, refl, subst, sym}
use Rattle.std.proofs.Common.{true}
use Rattle.std.specs.Prelude.{Result, option_map, slice_get}
use Rattle.std.proofs.lemmas.Bool.{ltb-true}
use Rattle.std.proofs.lemmas.Option.{slice_get-map, slice_get_read}
use Rattle.image_memory.specs.Images.{Pushed}
use Rattle.process_memory.specs.Memory.{Region, byte_at}
use Rattle.py_layout.specs.File.{IsRightFor}
use Rattle.core_words.specs.Words.{Reach as AsksReach}
use Rattle.core_report.specs.Outcome.{IsReachOutcome, IsReachedBy, IsReachedIn, Outcome, images_read}
use Rattle.core_report.specs.Stacked.{Stacked, StackedIs, locals_asked}
use Rattle.py_fields.specs.declared.layout.Layout.{Layout}
use Rattle.py_stacks.specs.Threads.{trace_of}
use Rattle.py_stacks.specs.declared.trace.StackTrace.{StackTrace}
use Rattle.object_reach.specs.Objects.{object_at}
use Rattle.object_reach.specs.Reach.{IsRightReach}
use Rattle.object_reach.specs.declared.reached.ReachError.{ReachError}
use Rattle.object_reach.specs.declared.reached.ReachObject.{ReachObject}

-- what follows an opened process is what a command comes to
pub reached_over : (r : AsksReach) (core text : List ℕ) (images : List (List ℕ)) (pushed : Pushed) (layouts : List Layout) (s : Stacked)
    → IsRightFor text (Ok layouts) → pushed ≡ images_read r.images images → StackedIs core pushed layouts locals_asked (Ok s)
    → (outcome : Outcome) → IsReachedIn r.index s outcome → IsReachOutcome r (core ∷ text ∷ images) outcome
reached_over r core text images pushed layouts s says are opened outcome h =
    inr (layouts, says, subst (λ p. IsReachedBy r core p layouts outcome) are (inr (s, opened, h)))

-- by the same memory, layout and roots
pub leads : (pieces : List Region) (layout : Layout) (others : List Region) (other : Layout) (roots more : List ℕ)
    (answer : Result (List ReachObject) ReachError) → others ≡ pieces → other ≡ layout → more ≡ roots
    → IsRightReach (object_at other (byte_at others)) more answer → IsRightReach (object_at layout (byte_at pieces)) roots answer
leads pieces layout others other roots more answer one two three right =
    subst (λ r. IsRightReach (object_at layout (byte_at pieces)) r answer) three
    (subst (λ l. IsRightReach (object_at l (byte_at pieces)) more answer) two
    (subst (λ p. IsRightReach (object_at other (byte_at p)) more answer) one right))

pub thread_at : (traces listed : List StackTrace) (index : ℕ) (trace : StackTrace) → listed ≡ traces → nat_lt index (length listed) ≡ true
    → trace ≡ get_or listed index trace → slice_get (map trace_of traces) index ≡ Some (trace_of trace)
thread_at traces listed index trace same within is =
    slice_get-map trace_of traces index ∙ ap (λ o. option_map trace_of o)
    (ap (λ l. slice_get l index) (sym same) ∙ slice_get_read listed (length listed) index trace refl (ltb-true index (length listed) within) is)
