-- The tree of exceptions has no float.
use Rattle.std.proofs.Common.{◌≡◌, false, true, ℕ, zero, suc, nat_eq, Bool, List, [], ◌∷◌, ◌++◌, length, map, Option, Some, None}
use Rattle.std.proofs.Common.{refl, ap, sym, ◌∙◌}
use Rattle.std.specs.Prelude.{◌||◌, slice_get, if◌then◌else◌}
use Rattle.serde_json.specs.Data.{Data, null, string}
use Rattle.serde_json.specs.View.{items_of}
use Rattle.serde_json.specs.Written.{has_float, items_have_float}
use Rattle.exception_texts.specs.declared.told.ExceptionsOf.{ExceptionsOf}
use Rattle.exception_texts.specs.declared.told.ExceptionsOf.TheVariants.{NotDescribed, Read}
use Rattle.exception_texts.specs.declared.told.InterpreterExceptions.{InterpreterExceptions}
use Rattle.exception_texts.specs.declared.told.ThreadTold.{ThreadTold}
use Rattle.exception_texts.specs.Known.{knows}
use Rattle.exception_texts.specs.Said.{message_text}
use Rattle.exception_texts.specs.Trees.{address_tree, addresses_tree, arguments_tree, end_tree, entries_list}
use Rattle.exception_texts.specs.Trees.{entry_tree, exception_tree, fault_tree, first_trees, frame_tree, frames_tree}
use Rattle.exception_texts.specs.Trees.{item_tree, items_tree, link_tree, members_tree, message_tree}
use Rattle.exception_texts.specs.Trees.{met_object, named_tree, notes_tree, numbered_tree, object_tree, objects_tree}
use Rattle.exception_texts.specs.Trees.{own_frame_tree, own_frames_tree, own_parts_tree, parts_tree, raised_tree, repr_tree}
use Rattle.exception_texts.specs.Trees.{reprs_tree, rule_tree, running_tree, str_tree, strs_tree, text_tree, thread_tree}
use Rattle.exception_texts.specs.Trees.{threads_tree, told_object, told_tree}
use Rattle.exception_texts.specs.LastTrees.{all_exceptions_tree, found_tree, interpreter_tree, last_tree, of_tree}
use Rattle.py_exceptions.specs.declared.last.LastException.{LastException}
use Rattle.py_exceptions.specs.declared.last.LastFound.{LastFound}
use Rattle.py_exceptions.specs.declared.last.LastFound.TheVariants as lasts
use Rattle.py_exceptions.specs.declared.last.LastName.{LastName}
use Rattle.py_exceptions.specs.declared.value.Value as field
use Rattle.py_exceptions.specs.declared.rule.Rule.{Rule}
use Rattle.py_exceptions.specs.declared.rule.Rule.TheVariants as rule
use Rattle.py_exceptions.specs.declared.entry.CalledFrame.{CalledFrame}
use Rattle.py_exceptions.specs.declared.entry.Entry.{Entry}
use Rattle.py_exceptions.specs.declared.notes.Notes.{Notes}
use Rattle.py_exceptions.specs.declared.notes.Notes.TheVariants as notes
use Rattle.py_exceptions.specs.declared.thread.RaisedParts.{RaisedParts}
use Rattle.py_exceptions.specs.declared.said.Said.{Said}
use Rattle.py_exceptions.specs.declared.exception.ToldException.{ToldException}
use Rattle.py_exceptions.specs.declared.thread.ToldThread.{ToldThread}
use Rattle.py_exceptions.specs.declared.traceback.Traceback.{Traceback}
use Rattle.py_exceptions.specs.declared.values.Values.{Values}
use Rattle.thread_exceptions.specs.declared.discovery.Met.{Met}
use Rattle.thread_exceptions.specs.declared.exception.Parts.{Parts}
use Rattle.thread_exceptions.specs.declared.exception.What.{What}
use Rattle.thread_exceptions.specs.declared.exception.What.TheVariants as whats
use Rattle.thread_exceptions.specs.declared.links.LinkEnd.{LinkEnd}
use Rattle.thread_exceptions.specs.declared.links.LinkEnd.TheVariants as links
use Rattle.thread_exceptions.specs.declared.thread.Handled.{Handled}
use Rattle.thread_exceptions.specs.declared.thread.Owner.{Owner}
use Rattle.thread_exceptions.specs.declared.thread.Owner.TheVariants as owner
use Rattle.thread_exceptions.specs.declared.thread.Raised.{Raised}
use Rattle.thread_exceptions.specs.declared.thread.Raised.TheVariants as raised
use Rattle.thread_exceptions.specs.declared.thread.Value.{Value}
use Rattle.thread_exceptions.specs.declared.thread.Value.TheVariants as value
use Rattle.thread_exceptions.specs.Groups.{Members, members_of}

-- a choice of two that have none
chosen : (b : Bool) (x y : Data) → has_float x ≡ false → has_float y ≡ false → has_float (if b then x else y) ≡ false
chosen true x y left right = left
chosen false x y left right = right

link : (a : ℕ) → has_float (link_tree a) ≡ false
link a = chosen (nat_eq a 0) null (address_tree a) refl refl

text : (t : Option (List ℕ)) → has_float (text_tree t) ≡ false
text None = refl
text (Some t) = refl

ended : (e : LinkEnd) → has_float (end_tree e) ≡ false
ended links.Null = refl
ended (links.Unreadable l) = refl
ended (links.Cycle a) = refl
ended (links.Cut a) = refl

reprs : (vs : List (Option field.Value)) → has_float (reprs_tree vs) ≡ false
reprs [] = refl
reprs (v ∷ vs) = reprs vs

strs : (vs : List (Option field.Value)) → has_float (strs_tree vs) ≡ false
strs [] = refl
strs (v ∷ vs) = strs vs

arguments : (vs : Option Values) → has_float (arguments_tree vs) ≡ false
arguments None = refl
arguments (Some v) = λ i. false || (reprs v.values.items i || false)

noted : (n : Notes) → has_float (notes_tree n) ≡ false
noted notes.Without = refl
noted (notes.Listed v) = λ i. false || (strs v.values.items i || false)
noted notes.Unreadable = refl

message : (s : Said) (own : Members) → has_float (message_tree s own) ≡ false
message s own = chosen (knows s own) (string (message_text true s own)) null refl refl

ruled : (r : Rule) → has_float (rule_tree r) ≡ false
ruled rule.Plain = refl
ruled rule.Key = refl
ruled (rule.System e t f s) = refl
ruled (rule.Import t) = refl
ruled (rule.Syntax t f l) = refl
ruled (rule.Group t) = refl
ruled (rule.Encode encoding d) = refl
ruled (rule.Decode encoding d) = refl
ruled (rule.Translate d) = refl
ruled (rule.Own class) = refl
ruled rule.Unreadable = refl

frame : (f : CalledFrame) → has_float (frame_tree f) ≡ false
frame f = λ i. text f.filename i || (false || (text f.function i || false))

own_frame : (f : Option CalledFrame) → has_float (own_frame_tree f) ≡ false
own_frame None = refl
own_frame (Some f) = frame f

both : (xs ys : List Data) → items_have_float (items_of xs) ≡ false → items_have_float (items_of ys) ≡ false
    → items_have_float (items_of (xs ++ ys)) ≡ false
both [] ys left right = right
both (x ∷ xs) ys left right = last (has_float x) (items_have_float (items_of xs)) left (both xs ys) right
  where
    last : (a b : Bool) → a || b ≡ false → (b ≡ false → items_have_float (items_of ys) ≡ false
        → items_have_float (items_of (xs ++ ys)) ≡ false) → items_have_float (items_of ys) ≡ false
        → a || items_have_float (items_of (xs ++ ys)) ≡ false
    last true b is rest right = is
    last false b is rest right = rest is right

entries : (es : List Entry) → items_have_float (items_of (entries_list es)) ≡ false
entries [] = refl
entries (e ∷ es) = ap (λ b. b || items_have_float (items_of (entries_list es))) (own_frame e.frame) ∙ entries es

frames : (t : Traceback) → has_float (frames_tree t) ≡ false
frames t = both (entries_list t.first.items) (entries_list t.last.items) (entries t.first.items) (entries t.last.items)

own_frames : (t : Option Traceback) → has_float (own_frames_tree t) ≡ false
own_frames None = refl
own_frames (Some t) = frames t

addresses : (its : List ℕ) → has_float (addresses_tree its) ≡ false
addresses [] = refl
addresses (a ∷ its) = addresses its

members : (m : Members) → has_float (members_tree m) ≡ false
members (Members.Group its left_out) = λ i. false || (addresses its i || false)
members Members.NoGroup = refl
members (Members.Lost f) = refl

exception : (a : ℕ) (p : Parts) (e : ToldException) (own : Members) → has_float (exception_tree a p e own) ≡ false
exception a p e own = λ i. false || (arguments e.said.arguments i || (link p.cause i || (link p.context i
    || (ended e.traceback.end i || (frames e.traceback i || (false || (false || (members own i
    || (message e.said own i || (ruled e.said.rule i || (noted e.notes i || (false || (false || false)))))))))))))

told : (a : ℕ) (p : Parts) (e : Option ToldException) (own : Members) → has_float (told_tree a p e own) ≡ false
told a p (Some e) own = exception a p e own
told a p None own = refl

what : (a : ℕ) (w : What) (e : Option ToldException) → has_float (object_tree (record { addr = a; what = w }) e) ≡ false
what a (whats.Exception p m) e = told a p e (members_of m)
what a whats.Other e = refl
what a (whats.Unreadable l) e = refl

met : (m : Option Met) (t : Option (Option ToldException)) → has_float (met_object m t) ≡ false
met (Some m) (Some t) = what m.addr m.what t
met (Some m) None = refl
met None t = refl

firsts : (t : ToldThread) (n : ℕ) → items_have_float (items_of (first_trees t n)) ≡ false
unfolding first_trees
firsts t zero = refl
firsts t (suc n) = both (first_trees t n) (numbered_tree t n ∷ []) (firsts t n)
    (ap (λ b. b || false) (met (slice_get t.thread.met.items n) (slice_get t.told.items n)))

objects : (t : ToldThread) → has_float (objects_tree t) ≡ false
objects t = firsts t (length t.thread.met.items)

parts : (a : ℕ) (p : Option RaisedParts) → has_float (own_parts_tree a p) ≡ false
parts a (Some p) = λ i. link a i || (own_frames p.traceback i || (false || (false || (false || false))))
parts a None = refl

raises : (r : Raised) (p : Option RaisedParts) → has_float (raised_tree r p) ≡ false
raises raised.Nothing p = refl
raises (raised.Exception a) p = refl
raises (raised.Parts class a) p = parts a p
raises (raised.Unreadable l) p = refl

named : (v : Value) → has_float (named_tree v) ≡ false
named (value.At a) = link a
named (value.Unreadable l) = refl

fault : (v : Value) → has_float (fault_tree v) ≡ false
fault (value.At a) = refl
fault (value.Unreadable l) = refl

running : (o : Owner) → has_float (running_tree o) ≡ false
running owner.Thread = refl
running (owner.Running a) = refl

item : (h : Handled) → has_float (item_tree h) ≡ false
item h = λ i. named h.value i || (fault h.value i || (running h.owner i || false))

items : (its : List Handled) → has_float (items_tree its) ≡ false
items [] = refl
items (h ∷ its) = ap (λ b. b || items_have_float (items_of (map (λ x. item_tree x) its))) (item h) ∙ items its

thread : (t : ThreadTold) → has_float (thread_tree t) ≡ false
thread t = λ i. ended t.told.thread.end i || (objects t.told i || (items t.told.thread.handled.items i
    || (raises t.told.thread.raised t.told.raised i || (false || false))))

threads : (its : List ThreadTold) → has_float (threads_tree its) ≡ false
threads [] = refl
threads (t ∷ its) = ap (λ b. b || items_have_float (items_of (map (λ x. thread_tree x) its))) (thread t) ∙ threads its

found : (name : LastName) (f : LastFound) → has_float (found_tree name f) ≡ false
found name lasts.Nothing = refl
found name (lasts.Exception a t) = λ i. false || (objects t i || (false || (false || false)))
found name lasts.Unreadable = refl

last_one : (t : Option LastException) → has_float (last_tree t) ≡ false
last_one None = refl
last_one (Some t) = found t.name t.found

of : (a : ℕ) (t : Option LastException) (e : ExceptionsOf) → has_float (of_tree a (last_tree t) e) ≡ false
of a t NotDescribed = λ i. false || (false || (last_one t i || (false || false)))
of a t (Read its) = λ i. false || (false || (last_one t i || (threads its.items i || false)))

pub no_float : (its : List InterpreterExceptions) → has_float (all_exceptions_tree its) ≡ false
no_float [] = refl
no_float (i ∷ its) = ap (λ b. b || items_have_float (items_of (map (λ x. interpreter_tree x) its)))
    (of i.interpreter i.last i.exceptions) ∙ no_float its
