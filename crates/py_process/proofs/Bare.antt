-- Stacks by names and marks alone are those of a walk that asks for nothing else.
use Rattle.std.proofs.Common.{◌≡◌, ℕ, Bool, true, List, [], ◌∷◌, map, refl, sym, ◌∙◌, ap, arith}
use Rattle.std.specs.Prelude.{Option, Some, None, Ok, option_map, pos}
use Rattle.std.proofs.lemmas.List.{length-map}
use Rattle.process_memory.specs.Memory.{Memory, Found, ◌>>=◌}
use Rattle.process_memory.proofs.Founds.{bound, ok_same}
use Rattle.py_fields.specs.declared.layout.Layout.{Layout}
use Rattle.py_stacks.specs.Asking.{asked_of, nothing}
use Rattle.py_stacks.specs.Detail.{detail_at}
use Rattle.py_stacks.specs.Frames.{AreFrames, Call, begins_hidden, detailed, plain_by, records_at, shown_at, shown_by}
use Rattle.py_stacks.specs.Frames.{with_detail}
use Rattle.py_stacks.specs.Member.{MemberAt}
use Rattle.py_stacks.specs.Stacks.{by_holder}
use Rattle.py_stacks.specs.StacksOver.{AreStacksOver}
use Rattle.py_stacks.specs.Threads.{AreTraces, AreTracesOf, IsTraceOf, Trace}
use Rattle.py_stacks.specs.Values.{by_value, value_text, value_width, with_values}
use Rattle.py_stacks.specs.declared.asked.Asked.{Asked}
use Rattle.py_stacks.specs.declared.config.Config.{Config}
use Rattle.py_stacks.proofs.Details.{nothing_found}
use Rattle.py_process.specs.Reports.{bare_call, bare_trace}

-- a frame without its line and locals, and a trace of such frames
abbrev undetailed : Call → Call
undetailed c = with_detail c (record { line = pos 0; locals = None })

abbrev undetailed_trace : Trace → Trace
undetailed_trace t = record t { frames = map undetailed t.frames }

-- ---- the frames of one thread

detailed_less : (q : Asked) (l : Layout) (m : Memory) (r : MemberAt) (p x : Option Call)
    → detailed q l m r p ≡ Ok x → detailed nothing l m r p ≡ Ok (option_map undetailed x)
detailed_less q l m r None x e = ap (λ o. Ok (option_map undetailed o)) (ok_same None x e)
detailed_less q l m r (Some c) x e =
    let d = bound (detail_at q l m r) (λ d. Ok (Some (with_detail c d))) x e in
    rw (nothing_found l m r) (ap (λ o. Ok (option_map undetailed o)) (ok_same _ x d.2))

shown_less : (q : Asked) (l : Layout) (m : Memory) (a : ℕ) (x : Option Call)
    → shown_at q l m a ≡ Ok x → shown_at nothing l m a ≡ Ok (option_map undetailed x)
unfolding shown_at
shown_less q l m a x e =
    let r = bound (records_at l m a) (λ r. detailed q l m r (plain_by l m r)) x e in
    after (records_at l m a) r.0 r.1 (detailed_less q l m r.0 (plain_by l m r.0) x r.2)
  where
    after : (d : Found MemberAt) (r : MemberAt) → d ≡ Ok r
        → detailed nothing l m r (plain_by l m r) ≡ Ok (option_map undetailed x)
        → (d >>= (λ r. detailed nothing l m r (plain_by l m r))) ≡ Ok (option_map undetailed x)
    after d r e f = rw e f

each_less : (q : Asked) (l : Layout) (m : Memory) (members : List ℕ) (parts : List (Option Call))
    → map (shown_at q l m) members ≡ map Ok parts
    → map (shown_at nothing l m) members ≡ map Ok (map (option_map undetailed) parts)
each_less q l m [] [] e = refl
each_less q l m [] (p ∷ ps) e = absurd (cc)
each_less q l m (a ∷ rest) [] e = absurd (cc)
each_less q l m (a ∷ rest) (p ∷ ps) e =
    let here : shown_at q l m a ≡ Ok p = cc in
    let others : map (shown_at q l m) rest ≡ map Ok ps = cc in
    rw (shown_less q l m a p here, each_less q l m rest ps others) refl

begins_less : (last : Bool) (ms : List (Option Call))
    → begins_hidden last (map (option_map undetailed) ms) ≡ begins_hidden last ms
begins_less last [] = refl
begins_less last (None ∷ ms) = refl
begins_less last (Some c ∷ ms) = refl

shows_less : (last : Bool) (ms : List (Option Call))
    → shown_by last (map (option_map undetailed) ms) ≡ map undetailed (shown_by last ms)
unfolding shown_by
shows_less last [] = refl
shows_less last (None ∷ ms) = shows_less last ms
shows_less last (Some c ∷ ms) = rw (begins_less last ms, shows_less last ms) refl

frames_less : (q : Asked) (l : Layout) (m : Memory) (first : ℕ) (frames : List Call)
    → AreFrames q l m first frames → AreFrames nothing l m first (map undetailed frames)
frames_less q l m first frames h = record {
  members = h.members;
  chain = h.chain;
  parts = map (option_map undetailed) h.parts;
  each = each_less q l m h.members h.parts h.each;
  shows = ap (map undetailed) h.shows ∙ sym (shows_less true h.parts);
  met = h.met;
  kept = omega (arith, h.kept, length-map frames undetailed);
}

-- ---- the threads

trace_less : (q : Asked) (l : Layout) (m : Memory) (a : ℕ) (t : Trace) → IsTraceOf q l m a t
    → IsTraceOf nothing l m a (undetailed_trace t)
trace_less q l m a t h = record {
  thread = h.thread;
  read = h.read;
  first = h.first;
  names = h.names;
  fields = ap undetailed_trace h.fields;
  frames = frames_less q l m h.first t.frames h.frames;
}

traces_less : (q : Asked) (l : Layout) (m : Memory) (threads : List ℕ) (ts : List Trace)
    → AreTracesOf q l m threads ts → AreTracesOf nothing l m threads (map undetailed_trace ts)
traces_less q l m [] [] h = tt
traces_less q l m [] (t ∷ ts) h = absurd h
traces_less q l m (a ∷ rest) [] h = absurd h
traces_less q l m (a ∷ rest) (t ∷ ts) h = (trace_less q l m a t h.0, traces_less q l m rest ts h.1)

-- a walk that asks for more is one that asks for nothing, but for the lines and locals
walk_less : (q : Asked) (l : Layout) (m : Memory) (interpreter : ℕ) (ts : List Trace)
    → AreTraces q l m interpreter ts → AreTraces nothing l m interpreter (map undetailed_trace ts)
walk_less q l m interpreter ts h = record {
  head = h.head;
  names = h.names;
  threads = h.threads;
  chain = h.chain;
  each = traces_less q l m h.threads ts h.each;
  within = h.within;
}

-- ---- what is told of them beside

cons_same : {A : Type 0} (x y : A) (xs ys : List A) → x ≡ y → xs ≡ ys → x ∷ xs ≡ y ∷ ys
cons_same x y xs ys p q = rw (p, q) refl

calls_kept : (f : Call → Call) → ((c : Call) → bare_call (f c) ≡ bare_call c) → (cs : List Call)
    → map bare_call (map f cs) ≡ map bare_call cs
calls_kept f same [] = refl
calls_kept f same (c ∷ cs) = cons_same _ _ _ _ (same c) (calls_kept f same cs)

traces_kept : (f : Trace → Trace) → ((t : Trace) → bare_trace (f t) ≡ bare_trace t) → (ts : List Trace)
    → map bare_trace (map f ts) ≡ map bare_trace ts
traces_kept f same [] = refl
traces_kept f same (t ∷ ts) = cons_same _ _ _ _ (same t) (traces_kept f same ts)

value_kept : (texts : ℕ → List ℕ) (t : Trace) → bare_trace (by_value texts t) ≡ bare_trace t
value_kept texts t = ap (λ cs. (t.thread_id, cs)) (calls_kept (with_values texts) (λ c. refl) t.frames)

told_bare : (f : Trace → Trace) (texts : ℕ → List ℕ) (id : ℕ) (unmarked walked traces : List Trace)
    → traces ≡ map (by_value texts) (map f walked) → walked ≡ map (by_holder id) unmarked
    → ((t : Trace) → bare_trace (f t) ≡ bare_trace t) → map bare_trace traces ≡ map bare_trace unmarked
told_bare f texts id unmarked walked traces tells marks same =
    ap (map bare_trace) tells ∙ traces_kept (by_value texts) (value_kept texts) (map f walked)
    ∙ traces_kept f same walked ∙ ap (map bare_trace) marks ∙ traces_kept (by_holder id) (λ t. refl) unmarked

-- without their details they are the same too
less_bare : (ts : List Trace) → map bare_trace ts ≡ map bare_trace (map undetailed_trace ts)
less_bare [] = refl
less_bare (t ∷ ts) = cons_same _ _ _ _ (less_one t) (less_bare ts)
  where
    calls_less : (cs : List Call) → map bare_call cs ≡ map bare_call (map undetailed cs)
    calls_less [] = refl
    calls_less (c ∷ cs) = cons_same _ _ _ _ refl (calls_less cs)

    less_one : (t : Trace) → bare_trace t ≡ bare_trace (undetailed_trace t)
    less_one t = ap (λ cs. (t.thread_id, cs)) (calls_less t.frames)

-- traces by names and marks alone, with the walk that asks for nothing else
pub record IsBare (l : Layout) (m : Memory) (interpreter : ℕ) (traces : List Trace) : Type 0 where
  pub walked : List Trace
  pub are : AreTraces nothing l m interpreter walked
  pub same : map bare_trace traces ≡ map bare_trace walked

pub over_bare : (c : Config) (l : Layout) (m : Memory) (lock interpreter : ℕ) (traces : List Trace)
    → AreStacksOver c l m lock interpreter traces → IsBare l m interpreter traces
over_bare c l m lock interpreter traces h = record {
  walked = map undetailed_trace h.stacks.unmarked;
  are = walk_less (asked_of c) l m interpreter h.stacks.unmarked h.stacks.threads;
  same = told_bare _ (value_text l m (value_width c.dump_locals)) h.stacks.holder_id h.stacks.unmarked h.walked traces
      h.tells h.stacks.marks (λ t. refl)
      ∙ less_bare h.stacks.unmarked;
}
