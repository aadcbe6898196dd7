-- The tree of traces has no float.
use Rattle.std.proofs.Common.{◌≡◌, ◌∙◌, ℕ, ℤ, pos, negsuc, false, List, [], ◌∷◌, map, Option, Some, None, refl, ap}
use Rattle.std.specs.Prelude.{◌||◌, Vec}
use Rattle.std.specs.Global.{Global}
use Rattle.serde_json.specs.Data.{Data, number}
use Rattle.serde_json.specs.Find.{of_integer}
use Rattle.serde_json.specs.View.{items_of}
use Rattle.serde_json.specs.Written.{has_float, items_have_float}
use Rattle.py_stacks.specs.declared.trace.Frame.{Frame}
use Rattle.py_stacks.specs.declared.trace.LocalVariable.{LocalVariable}
use Rattle.py_stacks.specs.declared.trace.StackTrace.{StackTrace}
use Rattle.core_texts.specs.Tree.{frame_tree, id_tree, local_tree, report_tree, shown_tree, text_tree, trace_tree}

items : {X : Type 0} (f : X → Data) (each : (x : X) → has_float (f x) ≡ false) (xs : List X)
    → items_have_float (items_of (map (λ x. f x) xs)) ≡ false
items f each [] = refl
items f each (x ∷ xs) = ap (λ b. b || items_have_float (items_of (map (λ x. f x) xs))) (each x) ∙ items f each xs

text : (t : Option (List ℕ)) → has_float (text_tree t) ≡ false
text (Some t) = refl
text None = refl

id : (i : Option ℕ) → has_float (id_tree i) ≡ false
id (Some i) = refl
id None = refl

integer : (z : ℤ) → has_float (number (of_integer z)) ≡ false
integer (pos n) = refl
integer (negsuc n) = refl

local : (l : LocalVariable) → has_float (local_tree l) ≡ false
local l = ap (λ b. b || false) (text l.repr)

shown : (ls : Option (Vec LocalVariable Global)) → has_float (shown_tree ls) ≡ false
shown (Some ls) = items local_tree local ls.items
shown None = refl

frame : (f : Frame) → has_float (frame_tree f) ≡ false
frame f = λ i. integer f.line i || (shown f.locals i || (text f.module i || (false || (text f.short_filename i || false))))

trace : (t : StackTrace) → has_float (trace_tree t) ≡ false
trace t = λ i. items frame_tree frame t.frames.items i || (id t.os_thread_id i || (false || (integer t.pid i || (false || (false || (text t.thread_name i || false))))))

pub no_float : (traces : List StackTrace) → has_float (report_tree traces) ≡ false
no_float traces = items trace_tree trace traces
