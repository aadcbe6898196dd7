-- The tree of what is left has no float.
use Rattle.std.proofs.Common.{◌≡◌, ℕ, ◌+◌, ℤ, pos, negsuc, Bool, true, false, List, [], ◌∷◌, ◌++◌, map, drop, take}
use Rattle.std.proofs.Common.{reverse, Option, Some, None, refl, ap, ◌∙◌}
use Rattle.std.specs.Prelude.{◌||◌, Vec, position}
use Rattle.std.specs.Global.{Global}
use Rattle.serde_json.specs.Data.{Data, number}
use Rattle.serde_json.specs.Find.{of_integer}
use Rattle.serde_json.specs.View.{items_of}
use Rattle.serde_json.specs.Written.{has_float, items_have_float}
use Rattle.py_builtins.specs.declared.error.ObjectError.{ObjectError}
use Rattle.py_builtins.specs.declared.error.ObjectError.TheVariants as names
use Rattle.py_stacks.specs.declared.error.StackError.{StackError}
use Rattle.py_stacks.specs.declared.error.StackError.TheVariants as locals
use Rattle.py_stacks.specs.declared.trace.Frame.{Frame}
use Rattle.py_stacks.specs.declared.trace.LocalVariable.{LocalVariable}
use Rattle.py_fronts.specs.declared.chain_end.ChainEnd.{ChainEnd}
use Rattle.py_fronts.specs.declared.chain_end.ChainEnd.TheVariants as chain
use Rattle.py_fronts.specs.declared.frame_front.FramesFront.{FramesFront}
use Rattle.py_fronts.specs.declared.standing.Standing.{Standing}
use Rattle.py_fronts.specs.declared.standing.Standing.TheVariants as standing
use Rattle.py_fronts.specs.declared.thread_front.ThreadFront.{ThreadFront}
use Rattle.py_fronts.specs.declared.crash.Crash.{Crash}
use Rattle.py_fronts.specs.declared.lock.LockState.{LockState}
use Rattle.py_fronts.specs.declared.lock.LockState.TheVariants.{Holder, Unreadable}
use Rattle.py_fronts.specs.declared.salvaged.SalvagedInterpreter.{SalvagedInterpreter}
use Rattle.py_fronts.specs.declared.search.Looked.{Looked}
use Rattle.py_fronts.specs.Crashes.{is_crashed}
use Rattle.py_fronts.specs.Salvaged.{first_crashed}
use Rattle.salvage_json.specs.Kinds.{end_tree, fault_or_null, fault_tree, lock_tree, why_tree}
use Rattle.salvage_json.specs.Members.{frame_tree, kept_text, kept_tree, local_tree, shown_tree, standing_tree}
use Rattle.salvage_json.specs.Members.{standings_tree, text_tree}
use Rattle.repr_json.specs.Shown.{HasNoFloat, data_in, kept_float, text_in, type_in}
use Rattle.repr_json.specs.declared.shown.ShownValues.{ShownValues}
use Rattle.thread_names.specs.Lookup.{name_of, threads_named}
use Rattle.thread_names.specs.declared.names.InterpreterNames.{InterpreterNames}
use Rattle.thread_names.specs.declared.names.ThreadName.{ThreadName}
use Rattle.salvage_json.specs.Threads.{frames_tree, id_tree, name_tree, placed_trees, reversed_trees, thread_tree}
use Rattle.salvage_json.specs.Threads.{threads_tree}
use Rattle.salvage_json.specs.Salvaged.{ended_tree}
use Rattle.salvage_json.specs.Salvaged.{interpreter_tree, interpreter_trees, interpreters_tree, process_tree}
use Rattle.salvage_json.specs.Salvaged.{signal_tree, placed_trees as placed_of_all}

items : {X : Type 0} (f : X → Data) (each : (x : X) → has_float (f x) ≡ false) (xs : List X)
    → items_have_float (items_of (map (λ x. f x) xs)) ≡ false
items f each [] = refl
items f each (x ∷ xs) = ap (λ b. b || items_have_float (items_of (map (λ x. f x) xs))) (each x) ∙ items f each xs

or_first : (a b : Bool) → (a || b) ≡ false → a ≡ false
or_first false b h = refl
or_first true b h = absurd (cc)

or_second : (a b : Bool) → (a || b) ≡ false → b ≡ false
or_second false b h = h
or_second true b h = absurd (cc)

both : (a b : List Data) → items_have_float (items_of a) ≡ false → items_have_float (items_of b) ≡ false
    → items_have_float (items_of (a ++ b)) ≡ false
both [] b h k = k
both (x ∷ a) b h k =
    ap (λ t. t || items_have_float (items_of (a ++ b))) (or_first (has_float x) (items_have_float (items_of a)) h)
    ∙ both a b (or_second (has_float x) (items_have_float (items_of a)) h) k

text : (t : Option (List ℕ)) → has_float (text_tree t) ≡ false
text (Some t) = refl
text None = refl

id : (i : Option ℕ) → has_float (id_tree i) ≡ false
id (Some i) = refl
id None = refl

pub integer : (z : ℤ) → has_float (number (of_integer z)) ≡ false
integer (pos n) = refl
integer (negsuc n) = refl

-- ---- kinds

ending : (e : ChainEnd) → has_float (end_tree e) ≡ false
ending chain.Whole = refl
ending chain.Cut = refl
ending (chain.Unreadable addr len) = refl
ending (chain.Stray interpreter) = refl

lock : (l : LockState) → has_float (lock_tree l) ≡ false
lock (Holder holder) = refl
lock (Unreadable addr len) = refl

why : (e : ObjectError) → has_float (why_tree e) ≡ false
why (names.Unreadable addr len) = refl
why (names.TooLong len) = ap (λ b. b || false) (integer len)
why _ = refl

fault : (e : StackError) → has_float (fault_tree e) ≡ false
fault (locals.Unreadable addr len) = refl
fault (locals.LocalsLimit count) = ap (λ b. b || false) (integer count)
fault _ = refl

fault_or : (e : Option StackError) → has_float (fault_or_null e) ≡ false
fault_or (Some e) = fault e
fault_or None = refl

-- ---- members

kept : (t : Option (List ℕ)) (d : Data) → has_float d ≡ false → has_float (kept_text t d) ≡ false
kept (Some t) d h = refl
kept None d h = h

tree : (v : ShownValues) → HasNoFloat v → (a : ℕ) → has_float (kept_tree (data_in v a)) ≡ false
tree v h a = elim (data_in v a) as (λ d. kept_float d ≡ false → has_float (kept_tree d) ≡ false)
    [ Some d ↦ λ e. e | None ↦ λ e. refl ] (h a)

local : (v : ShownValues) → HasNoFloat v → (l : LocalVariable) → has_float (local_tree v l) ≡ false
local v h l = λ i. kept (text_in v l.addr) (text_tree l.repr) (text l.repr) i
    || (text (type_in v l.addr) i || (tree v h l.addr i || false))

shown : (v : ShownValues) → HasNoFloat v → (ls : Option (Vec LocalVariable Global)) → has_float (shown_tree v ls) ≡ false
shown v h (Some ls) = items (local_tree v) (local v h) ls.items
shown v h None = refl

frame : (v : ShownValues) → HasNoFloat v → (f : Frame) (e : Option StackError) → has_float (frame_tree v f e) ≡ false
frame v h f e = λ i. false || (shown v h f.locals i || (fault_or e i || (false || false)))

member : (v : ShownValues) → HasNoFloat v → (s : Standing) → has_float (standing_tree v s) ≡ false
member v h (standing.Frame f e) = frame v h f e
member v h (standing.Member address e) = ap (λ b. b || false) (why e)

members : (v : ShownValues) → HasNoFloat v → (ss : List Standing) → has_float (standings_tree v ss) ≡ false
members v h ss = items (standing_tree v) (member v h) ss

-- ---- threads and interpreters

frames : (v : ShownValues) → HasNoFloat v → (f : FramesFront) → has_float (frames_tree v f) ≡ false
frames v h f = λ i. ending f.end i || (members v h f.first.items i || (members v h f.last.items i || (false || false)))

name : (n : Option (List ℕ)) → has_float (name_tree n) ≡ false
name (Some n) = refl
name None = refl

thread : (v : ShownValues) → HasNoFloat v → (l : LockState) (crash : Option Crash) (ns : List ThreadName) (t : ThreadFront)
    → has_float (thread_tree v l crash ns t) ≡ false
thread v h l crash ns t = λ i. frames v h t.frames i
    || (false || (name (name_of ns t.thread_id) i || (id t.os_thread_id i || (false || false))))

reversed : (v : ShownValues) → HasNoFloat v → (l : LockState) (crash : Option Crash) (ns : List ThreadName) (ts : List ThreadFront)
    → items_have_float (items_of (reversed_trees v l crash ns ts)) ≡ false
reversed v h l crash ns ts = items (thread_tree v l crash ns) (thread v h l crash ns) (reverse ts)

placed : (v : ShownValues) → HasNoFloat v → (l : LockState) (crash : Option Crash) (ns : List ThreadName) (ts : List ThreadFront) (at : Option ℕ)
    → items_have_float (items_of (placed_trees v l crash ns ts at)) ≡ false
placed v h l crash ns ts None = reversed v h l crash ns ts
placed v h l crash ns ts (Some i) = both (reversed_trees v l crash ns (take 1 (drop i ts)))
    (reversed_trees v l crash ns (drop (i + 1) ts) ++ reversed_trees v l crash ns (take i ts))
    (reversed v h l crash ns (take 1 (drop i ts)))
    (both (reversed_trees v l crash ns (drop (i + 1) ts)) (reversed_trees v l crash ns (take i ts))
    (reversed v h l crash ns (drop (i + 1) ts)) (reversed v h l crash ns (take i ts)))

threads : (v : ShownValues) → HasNoFloat v → (l : LockState) (crash : Option Crash) (ns : List ThreadName) (ts : List ThreadFront)
    → has_float (threads_tree v l crash ns ts) ≡ false
threads v h l crash ns ts = placed v h l crash ns ts (position (λ thread. is_crashed crash thread) ts)

interpreter : (v : ShownValues) → HasNoFloat v → (crash : Option Crash) (ns : List InterpreterNames) (i : SalvagedInterpreter)
    → has_float (interpreter_tree v crash ns i) ≡ false
interpreter v h crash ns s = λ i. lock s.lock i
    || (false || (threads v h s.lock crash (threads_named ns s.front.address) s.front.threads.threads.items i
    || (ending s.front.threads.end i || false)))

some_interpreters : (v : ShownValues) → HasNoFloat v → (crash : Option Crash) (ns : List InterpreterNames) (is : List SalvagedInterpreter)
    → items_have_float (items_of (interpreter_trees v crash ns is)) ≡ false
some_interpreters v h crash ns is = items (interpreter_tree v crash ns) (interpreter v h crash ns) is

placed_interpreters : (v : ShownValues) → HasNoFloat v → (crash : Option Crash) (ns : List InterpreterNames) (is : List SalvagedInterpreter)
    (at : Option ℕ) → items_have_float (items_of (placed_of_all v crash ns is at)) ≡ false
placed_interpreters v h crash ns is None = some_interpreters v h crash ns is
placed_interpreters v h crash ns is (Some i) = both (interpreter_trees v crash ns (take 1 (drop i is)))
    (interpreter_trees v crash ns (take i is) ++ interpreter_trees v crash ns (drop (i + 1) is))
    (some_interpreters v h crash ns (take 1 (drop i is)))
    (both (interpreter_trees v crash ns (take i is)) (interpreter_trees v crash ns (drop (i + 1) is))
    (some_interpreters v h crash ns (take i is)) (some_interpreters v h crash ns (drop (i + 1) is)))

pub interpreters : (v : ShownValues) → HasNoFloat v → (crash : Option Crash) (ns : List InterpreterNames) (is : List SalvagedInterpreter)
    → has_float (interpreters_tree v crash ns is) ≡ false
interpreters v h crash ns is = placed_interpreters v h crash ns is (first_crashed crash is)

pub process : (p : Option (ℤ × List ℕ)) → has_float (process_tree p) ≡ false
process None = refl
process (Some p) = ap (λ b. b || false) (integer p.0)

pub signal : (s : Option ℤ) → has_float (signal_tree s) ≡ false
signal None = refl
signal (Some s) = integer s

ended_by : (b : Bool) (l : Looked) → l.ended ≡ b → has_float (ended_tree l) ≡ false
ended_by true l e = rw e refl
ended_by false l e = rw e refl

pub ended : (l : Looked) → has_float (ended_tree l) ≡ false
ended l = ended_by l.ended l refl
