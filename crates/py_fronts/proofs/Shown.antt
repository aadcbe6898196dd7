-- What stands for members, step by step.
use Rattle.std.proofs.Common.{◌≡◌, ◌≢◌, ℕ, zero, suc, ◌+◌, ◌*◌, ◌<◌, ◌≤◌, Bool, true, false, List, [], ◌∷◌, ◌++◌}
use Rattle.std.proofs.Common.{length, map, refl, ◌∙◌, ap, arith, length-append}
use Rattle.std.proofs.Math.Nat.{mul-le-mul_left}
use Rattle.std.proofs.lemmas.List.{map-append}
use Rattle.std.specs.Prelude.{MatchOption, Option, Some, None, Ok, Err, Result, is_none, ℤ, Vec}
use Rattle.std.specs.Global.{Global}
use Rattle.process_memory.specs.Memory.{Fault, Found, Memory, ◌>>=◌}
use Rattle.process_memory.specs.Seen.{Answers, FaultIs, Reading, Seen}
use Rattle.process_memory.proofs.Reading.{reading_gives, reading_none, reading_then}
use Rattle.py_fields.specs.declared.layout.Layout.{Layout}
use Rattle.py_builtins.specs.ObjectError.{object_fault}
use Rattle.py_builtins.specs.declared.error.ObjectError.{ObjectError}
use Rattle.py_stacks.specs.declared.asked.Asked.{Asked}
use Rattle.py_stacks.specs.declared.error.StackError.{StackError}
use Rattle.py_stacks.specs.declared.error.StackError.TheVariants as stack
use Rattle.py_stacks.specs.declared.trace.LocalVariable.{LocalVariable}
use Rattle.py_stacks.specs.Frames.{back_by, call_named, is_entered, is_hidden, plain_by, records_at, visible}
use Rattle.py_stacks.specs.Locals.{asked_locals, locals_cost, locals_of, locals_of_result}
use Rattle.py_stacks.specs.Met.{locals_most}
use Rattle.py_stacks.specs.Member.{MemberAt, readable}
use Rattle.py_stacks.specs.StackError.{stack_fault}
use Rattle.py_stacks.proofs.DetailBounds.{count_most}
use Rattle.py_fronts.specs.declared.standing.Locals.{Locals}
use Rattle.py_fronts.specs.declared.standing.Standing.{Standing}
use Rattle.py_fronts.specs.declared.standing.Standing.TheVariants as standing
use Rattle.py_fronts.specs.Answers.{IsOrNoMemory}
use Rattle.py_fronts.specs.Standings.{IsUnread, LocalsAre, Showing, Stood, call_by, framed, has_no_caller}
use Rattle.py_fronts.specs.Standings.{locals_or_fault, lost_locals, shows_none}
use Rattle.py_fronts.specs.Standings.{standing_at, standing_by, standing_named, standing_reads, stood, stood_result}
use Rattle.py_fronts.specs.Standings.{texts_at}
use Rattle.py_fronts.specs.Standings.Stood.{IsFrame}
use Rattle.py_fronts.specs.TableLines.{line_or_first}

-- ---- callers

hidden_none : (file name : List ℕ) (entered hidden : Bool) → is_hidden file ≡ hidden → hidden ≡ is_none (visible (Some file) (Some name) entered)
unfolding visible
hidden_none file name entered true e = rw e refl
hidden_none file name entered false e = rw e refl

abbrev texts_of : Found (List ℕ) → Found (List ℕ) → Found (List ℕ × List ℕ)
texts_of d e = d >>= (λ file. e >>= (λ name. Ok (file, name)))

none_two : (d e : Found (List ℕ)) (entered hidden : Bool) (file name : List ℕ) → texts_of d e ≡ Ok (file, name) → hidden ≡ is_hidden file
    → hidden ≡ is_none (visible (readable d) (readable e) entered)
none_two (Ok x) (Ok y) entered hidden file name both is =
    let same : x ≡ file = ap (λ (v : Found (List ℕ × List ℕ)). first_of v x) both in
    is ∙ hidden_none_of x y file entered same
  where
    first_of : Found (List ℕ × List ℕ) → List ℕ → List ℕ
    first_of (Ok p) z = p.0
    first_of (Err f) z = z

    hidden_none_of : (x y file : List ℕ) (entered : Bool) → x ≡ file → is_hidden file ≡ is_none (visible (Some x) (Some y) entered)
    hidden_none_of x y file entered same = rw same (hidden_none file y entered (is_hidden file) refl)
none_two (Ok x) (Err f) entered hidden file name both is = absurd (cc)
none_two (Err f) e entered hidden file name both is = absurd (cc)

none_error : (d e : Found (List ℕ)) (entered : Bool) (f : Fault) → texts_of d e ≡ Err f → true ≡ is_none (visible (readable d) (readable e) entered)
unfolding visible
none_error (Ok x) (Ok y) entered f both = absurd (cc)
none_error (Ok x) (Err g) entered f both = refl
none_error (Err g) e entered f both = refl

pub none_by_texts : (l : Layout) (m : Memory) (r : MemberAt) (hidden : Bool) (file name : List ℕ) → texts_at l m r ≡ Ok (file, name) → hidden ≡ is_hidden file → hidden ≡ is_none (plain_by l m r)
unfolding texts_at
none_by_texts l m r hidden file name e is = none_two _ _ _ hidden file name e is

without : (d : Found (List ℕ × List ℕ)) (o : Option Fault) (v : Bool) (result : Result Bool StackError) → ((f : Fault) → d ≡ Err f → true ≡ v) → FaultIs d o
    → MatchOption o (result ≡ Err stack.OutOfMemory) (λ f. result ≡ Ok true) → IsOrNoMemory v result
without d None v result gives h is = rw is refl
without d (Some f) v result gives h is = rw is (gives f h)

pub none_by_error : (l : Layout) (m : Memory) (r : MemberAt) (why : ObjectError) (result : Result Bool StackError) → FaultIs (texts_at l m r) (object_fault why)
    → MatchOption (object_fault why) (result ≡ Err stack.OutOfMemory) (λ f. result ≡ Ok true) → IsOrNoMemory (is_none (plain_by l m r)) result
unfolding texts_at
none_by_error l m r why result h is = without (texts_at l m r) (object_fault why) (is_none (plain_by l m r)) result (λ f e. none_error _ _ _ f e) h is

pub no_caller : (l : Layout) (m : Memory) (back : ℕ) → back ≡ 0 → true ≡ has_no_caller l m back
unfolding has_no_caller
no_caller l m back e = rw e refl

pub caller_there : (l : Layout) (m : Memory) (back : ℕ) (r : MemberAt) (result : Result Bool StackError) → back ≢ 0 → records_at l m back ≡ Ok r → IsOrNoMemory (is_none (plain_by l m r)) result
    → IsOrNoMemory (has_no_caller l m back) result
unfolding has_no_caller
caller_there l m zero r result some e h = absurd (some refl)
caller_there l m (suc back) r result some e h = rw e h

lost_caller : (d : Found MemberAt) (o : Option Fault) (l : Layout) (m : Memory) (result : Result Bool StackError) → FaultIs d o → MatchOption o (result ≡ Err stack.OutOfMemory) (λ f. result ≡ Ok true)
    → IsOrNoMemory (shows_none l m d) result
lost_caller d None l m result h is = rw is refl
lost_caller d (Some f) l m result h is = rw (is, h) refl

pub caller_lost : (l : Layout) (m : Memory) (back : ℕ) (error : StackError) (result : Result Bool StackError) → back ≢ 0 → FaultIs (records_at l m back) (stack_fault error)
    → MatchOption (stack_fault error) (result ≡ Err stack.OutOfMemory) (λ f. result ≡ Ok true) → IsOrNoMemory (has_no_caller l m back) result
unfolding has_no_caller
caller_lost l m zero error result some h is = absurd (some refl)
caller_lost l m (suc back) error result some h is = lost_caller (records_at l m (suc back)) (stack_fault error) l m result h is

-- ---- locals

pub locals_few : (asked : Bool) (l : Layout) (r : MemberAt) → locals_cost asked l r ≤ 1 + locals_most asked
unfolding locals_cost
locals_few false l r = omega arith
locals_few true l r = let most = count_most l r in omega arith

shown_by_fault : (d : Found (Option (List LocalVariable))) (e : StackError) (o : Option Fault) (locals : Locals) → stack_fault e ≡ o → FaultIs d o
    → MatchOption o (◌≡◌ {A = Result Locals StackError} (Ok locals) (Err stack.OutOfMemory)) (λ f. ◌≡◌ {A = Result Locals StackError} (Ok locals) (Ok (record { locals = None; fault = Some e })))
    → ◌≡◌ {A = Option (List LocalVariable) × Option (Option Fault)} (locals_of locals.locals, lost_locals locals.fault) (locals_or_fault d)
shown_by_fault d e None locals is h a = absurd (cc)
shown_by_fault d e (Some f) locals is h a =
    let same : locals ≡ record { locals = None; fault = Some e } = cc in
    rw (same, is, h) refl

pub locals_shown : (d : Found (Option (List LocalVariable))) (read : Result (Option (Vec LocalVariable Global)) StackError) (locals : Locals) → Answers stack_fault d (locals_of_result read) → LocalsAre read (Ok locals)
    → ◌≡◌ {A = Option (List LocalVariable) × Option (Option Fault)} (locals_of locals.locals, lost_locals locals.fault) (locals_or_fault d)
locals_shown d (Ok v) locals a is =
    let same : locals ≡ record { locals = v; fault = None } = cc in
    let found = a.is in
    rw (same, found) refl
locals_shown d (Err e) locals a is = shown_by_fault d e (stack_fault e) locals refl a.is is

lost_by : (e f : StackError) (o : Option Fault) → MatchOption o (◌≡◌ {A = Result Locals StackError} (Err f) (Err stack.OutOfMemory)) (λ g. ◌≡◌ {A = Result Locals StackError} (Err f) (Ok (record { locals = None; fault = Some e }))) → f ≡ stack.OutOfMemory
lost_by e f None h = cc
lost_by e f (Some g) h = absurd (cc)

pub locals_lost : (read : Result (Option (Vec LocalVariable Global)) StackError) (e : StackError) → LocalsAre read (Err e) → e ≡ stack.OutOfMemory
locals_lost (Ok v) e is = absurd (cc)
locals_lost (Err f) e is = lost_by f e (stack_fault f) is

-- ---- frames

call_equal : (l : Layout) (m : Memory) (r : MemberAt) (file name : List ℕ) (line line' : ℤ) (locals locals' : Option (List LocalVariable)) (fault fault' : Option (Option Fault)) (entry shim : Bool) → line ≡ line'
    → ◌≡◌ {A = Option (List LocalVariable) × Option (Option Fault)} (locals, fault) (locals', fault') → entry ≡ is_entered l.frame r.frame → shim ≡ has_no_caller l m (back_by l r)
    → IsFrame (record (call_named file name entry) { line = line; locals = locals; is_shim_entry = shim }) fault ≡ IsFrame (call_by l m r file name line' locals') fault'
call_equal l m r file name line line' locals locals' fault fault' entry shim e p f s =
    ap (λ x. IsFrame (record (call_named file name entry) { line = x; locals = locals; is_shim_entry = shim }) fault) e
    ∙ ap (λ (x : Option (List LocalVariable) × Option (Option Fault)). IsFrame (record (call_named file name entry) { line = line'; locals = x.0; is_shim_entry = shim }) x.1) p
    ∙ ap (λ x. IsFrame (record (call_named file name x) { line = line'; locals = locals'; is_shim_entry = shim }) fault') f
    ∙ ap (λ x. IsFrame (record (call_named file name (is_entered l.frame r.frame)) { line = line'; locals = locals'; is_shim_entry = x }) fault') s

pub frame_stands : (q : Asked) (l : Layout) (m : Memory) (r : MemberAt) (file name : List ℕ) (line : ℤ) (locals : Locals) (entry shim : Bool) → line ≡ line_or_first q.lineno l m r
    → ◌≡◌ {A = Option (List LocalVariable) × Option (Option Fault)} (locals_of locals.locals, lost_locals locals.fault) (locals_or_fault (asked_locals q.locals l m r)) → entry ≡ is_entered l.frame r.frame → shim ≡ has_no_caller l m (back_by l r)
    → stood (standing.Frame (record { name = name; filename = file; «module» = None; short_filename = None; line = line; locals = locals.locals; is_entry = entry; is_shim_entry = shim }) locals.fault) ≡ framed q l m r file name
frame_stands q l m r file name line locals entry shim e p f s =
    call_equal l m r file name line (line_or_first q.lineno l m r) (locals_of locals.locals) (locals_or_fault (asked_locals q.locals l m r)).0 (lost_locals locals.fault) (locals_or_fault (asked_locals q.locals l m r)).1 entry shim e p f s

pub named_stands : (q : Asked) (l : Layout) (m : Memory) (a : ℕ) (r : MemberAt) (file name : List ℕ) (result : Result Stood StackError) → texts_at l m r ≡ Ok (file, name) → IsOrNoMemory (framed q l m r file name) result
    → IsOrNoMemory (standing_named q l m a r (texts_at l m r)) result
named_stands q l m a r file name result e h = rw e h

pub record_stands : (q : Asked) (l : Layout) (m : Memory) (a : ℕ) (r : MemberAt) (result : Result Stood StackError) → records_at l m a ≡ Ok r → IsOrNoMemory (standing_named q l m a r (texts_at l m r)) result
    → IsOrNoMemory (standing_at q l m a) result
unfolding standing_at
record_stands q l m a r result e h = rw e h

unread_by : (d : Found MemberAt) (q : Asked) (l : Layout) (m : Memory) (a : ℕ) (error : StackError) (result : Result Standing StackError) → FaultIs d (stack_fault error) → IsUnread a error result → IsOrNoMemory (standing_by q l m a d) (stood_result result)
unread_by d q l m a (stack.Unreadable addr len) result h is = rw (is, h) refl
unread_by d q l m a (stack.BadValue frame) result h is = rw is refl
unread_by d q l m a (stack.LocalsLimit count) result h is = rw is refl
unread_by d q l m a stack.ThreadLimit result h is = rw is refl
unread_by d q l m a stack.FrameLimit result h is = rw is refl
unread_by d q l m a stack.ChainLimit result h is = rw is refl
unread_by d q l m a stack.OutOfMemory result h is = rw is refl

pub unread_stands : (q : Asked) (l : Layout) (m : Memory) (a : ℕ) (error : StackError) (result : Result Standing StackError) → FaultIs (records_at l m a) (stack_fault error) → IsUnread a error result
    → IsOrNoMemory (standing_at q l m a) (stood_result result)
unfolding standing_at
unread_stands q l m a error result h is = unread_by (records_at l m a) q l m a error result h is

-- ---- members, one after another

pub show_init : (q : Asked) (l : Layout) (s : Seen) → Showing q l s s [] []
show_init q l s = record { reading = reading_none _ s _ (λ m. refl) }

pub show_more : {q : Asked} {l : Layout} {s0 s1 s2 : Seen} {members : List ℕ} {shown : List Standing} (a : ℕ) (one : Standing) → Showing q l s0 s1 members shown
    → Reading (standing_reads q) s1 s2 (λ m. stood one ≡ standing_at q l m a) → Showing q l s0 s2 (members ++ a ∷ []) (shown ++ one ∷ [])
show_more {q = q} {l = l} {members = members} {shown = shown} a one w r = record {
  reading = reading_gives _ _ (reading_then (λ m. map stood (shown ++ one ∷ []) ≡ map (standing_at q l m) (members ++ a ∷ [])) w.reading r
      (λ m p e. rw (map-append stood shown (one ∷ []), map-append (standing_at q l m) members (a ∷ []), p, e) refl))
      (rw (length-append members (a ∷ [])) (omega arith)) (λ m h. h);
}

pub show_lost : {q : Asked} {l : Layout} {s0 s1 s2 : Seen} {members : List ℕ} {shown : List Standing} {P : Memory → Type 0} (e : StackError) (count : ℕ) → Showing q l s0 s1 members shown → length members < count
    → Reading (standing_reads q) s1 s2 P → ((m : Memory) → P m → e ≡ stack.OutOfMemory) → Reading (standing_reads q * count) s0 s2 (λ m. e ≡ stack.OutOfMemory)
show_lost {q = q} {members = members} e count w below r lost =
    reading_gives _ _ (reading_then (λ m. e ≡ stack.OutOfMemory) w.reading r (λ m p h. lost m h)) (omega (arith, mul-le-mul_left (standing_reads q) (more below))) (λ m h. h)
  where
    more : length members < count → length members + 1 ≤ count
    more h = omega arith
