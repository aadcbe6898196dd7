-- Which frames are shown, and how they are marked, member by member.
use Rattle.std.proofs.Common.{◌≡◌, ℕ, zero, suc, true, false, List, [], ◌∷◌, ◌++◌, length, map, get_or, set, refl, sym}
use Rattle.std.proofs.Common.{◌∙◌, ap, arith}
use Rattle.std.specs.Prelude.{Option, Some, None}
use Rattle.py_stacks.specs.declared.trace.Frame.{Frame}
use Rattle.py_stacks.specs.Frames.{Call, call_of, shown_by, with_mark}
use Rattle.py_stacks.specs.Gathering.{mark_call, mark_last, marked}

-- marking the last frame is a write to its place
pub mark_last-set : (fs : List Frame) (i : ℕ) (f : Frame) → length fs ≡ suc i → f ≡ get_or fs i f
    → mark_last fs ≡ set fs i (marked f)
unfolding mark_last
mark_last-set [] i f len is = absurd (omega arith)
mark_last-set (g ∷ []) zero f len is = ap (λ h. marked h ∷ []) (sym is)
mark_last-set (g ∷ []) (suc i) f len is = absurd (omega arith)
mark_last-set (g ∷ h ∷ fs) zero f len is = absurd (omega arith)
mark_last-set (g ∷ h ∷ fs) (suc i) f len is = ap (λ t. g ∷ t) (mark_last-set (h ∷ fs) i f (omega arith) is)

pub mark_last-none : (fs : List Frame) → length fs ≡ 0 → mark_last fs ≡ fs
unfolding mark_last
mark_last-none [] e = refl
mark_last-none (f ∷ fs) e = absurd (omega arith)

pub length-mark_last : (fs : List Frame) → length (mark_last fs) ≡ length fs
unfolding mark_last
length-mark_last [] = refl
length-mark_last (f ∷ []) = refl
length-mark_last (f ∷ g ∷ fs) = ap suc (length-mark_last (g ∷ fs))

-- what the frames say of their calls, once the last one is marked
pub map-mark_last : (fs : List Frame) → map call_of (mark_last fs) ≡ mark_call (map call_of fs)
unfolding mark_last mark_call
map-mark_last [] = refl
map-mark_last (f ∷ []) = refl
map-mark_last (f ∷ g ∷ fs) = ap (λ cs. call_of f ∷ cs) (map-mark_last (g ∷ fs))

-- a skipped member marks the frame before it
pub shown-skipped : (ms : List (Option Call)) → shown_by false (ms ++ None ∷ []) ≡ shown_by true ms
unfolding shown_by
shown-skipped [] = refl
shown-skipped (None ∷ ms) = shown-skipped ms
shown-skipped (Some f ∷ []) = refl
shown-skipped (Some f ∷ None ∷ ms) = ap (λ fs. with_mark f true ∷ fs) (shown-skipped (None ∷ ms))
shown-skipped (Some f ∷ Some g ∷ ms) = ap (λ fs. with_mark f false ∷ fs) (shown-skipped (Some g ∷ ms))

-- one that is kept stands at the end
pub shown-kept : (ms : List (Option Call)) (f : Call)
    → shown_by false (ms ++ Some f ∷ []) ≡ shown_by false ms ++ with_mark f false ∷ []
unfolding shown_by
shown-kept [] f = refl
shown-kept (None ∷ ms) f = shown-kept ms f
shown-kept (Some g ∷ []) f = refl
shown-kept (Some g ∷ None ∷ ms) f = ap (λ fs. with_mark g true ∷ fs) (shown-kept (None ∷ ms) f)
shown-kept (Some g ∷ Some h ∷ ms) f = ap (λ fs. with_mark g false ∷ fs) (shown-kept (Some h ∷ ms) f)

-- a frame that is marked already is marked by what follows it alone
mark_after : (f : Call) (fs : List Call) → mark_call (with_mark f true ∷ fs) ≡ with_mark f true ∷ mark_call fs
unfolding mark_call
mark_after f [] = refl
mark_after f (g ∷ fs) = refl

-- at the end of the chain the last frame is marked
pub shown-last : (ms : List (Option Call)) → shown_by true ms ≡ mark_call (shown_by false ms)
unfolding shown_by mark_call
shown-last [] = refl
shown-last (None ∷ ms) = shown-last ms
shown-last (Some f ∷ []) = refl
shown-last (Some f ∷ None ∷ ms) = ap (λ fs. with_mark f true ∷ fs) (shown-last ms) ∙ sym (mark_after f (shown_by false ms))
shown-last (Some f ∷ Some g ∷ ms) = ap (λ fs. with_mark f false ∷ fs) (shown-last (Some g ∷ ms))
