-- A front shows the threads and frames of a report, where there is one.
use Rattle.std.proofs.Common.{◌≡◌, ℕ, zero, suc, ◌-◌, ◌<◌, inl, inr, ◌⊎◌, min, Bool, true, false, leb, List, [], ◌∷◌}
use Rattle.std.proofs.Common.{◌++◌, length, map, refl, sym, ◌∙◌, ap, arith}
use Rattle.std.proofs.lemmas.Bool.{leb-false, leb-true}
use Rattle.std.proofs.lemmas.Bool.Decides.{nat_tests}
use Rattle.std.proofs.lemmas.List.{length-map, map-append}
use Rattle.std.proofs.lemmas.List.Elements.{All-cons, All-contains, All-head, All-nil, All-tail, Contains-append_cases}
use Rattle.std.proofs.lemmas.List.Elements.{Contains-append_left, Contains-append_right}
use Rattle.std.proofs.Common.{◌/◌, subst}
use Rattle.std.specs.Prelude.{All, Contains, ◌||◌, nat_lt, if◌then◌else◌, IfOk, Option, Some, None, Ok, Err, Result, nat_eq}
use Rattle.std.specs.List.{filter, flat_map}
use Rattle.elf64_core.specs.Fields.{u64_in}
use Rattle.process_memory.specs.Memory.{Found, Memory, ◌>>=◌, record_at}
use Rattle.process_memory.specs.Walk.{IsChain}
use Rattle.process_memory.proofs.Founds.{bound, ok_same}
use Rattle.py_fields.specs.declared.version.Version.{Version}
use Rattle.py_fields.specs.declared.layout.Layout.{Layout}
use Rattle.py_stacks.specs.declared.asked.Asked.{Asked}
use Rattle.py_stacks.specs.Asking.{nothing}
use Rattle.py_stacks.specs.Frames.{AreFrames, Call, back_of, member_limit}
use Rattle.py_stacks.specs.Interpreter.{interpreter_named_by, named_at, threads_head}
use Rattle.py_stacks.specs.Threads.{AreTraces, AreTracesOf, IsTraceOf, Trace, thread_after, thread_limit}
use Rattle.py_stacks.specs.declared.error.StackError.{StackError}
use Rattle.py_process.specs.Candidates.{IsInterpreterIn, candidates_of, head_by, runtime_words, section_words}
use Rattle.py_process.specs.Candidates.{words_in, words_of_image, words_of_images}
use Rattle.py_process.specs.Facts.{Facts, Known}
use Rattle.py_process.specs.Reports.{bare_call}
use Rattle.py_fronts.specs.declared.fronts.Fronts.{Fronts}
use Rattle.py_fronts.specs.declared.interpreters.FoundInterpreter.{FoundInterpreter}
use Rattle.py_fronts.specs.declared.interpreters.InterpreterSearch.{InterpreterSearch}
use Rattle.py_fronts.specs.declared.thread_front.ThreadsFront.{ThreadsFront}
use Rattle.py_fronts.specs.Answers.{IsOrNoMemory}
use Rattle.py_fronts.specs.BesideReports.{AgreeWithReport, AgreesWithReport, FindsReported, IsReported, IsSought}
use Rattle.py_fronts.specs.BesideReports.{NameIt, NoTextAtNull, ShowTraces, ShowsCalls, ShowsTrace}
use Rattle.py_fronts.specs.BesideReports.{frames_among, is_shown}
use Rattle.py_fronts.specs.Candidates.{bss_of_image, head_given, head_in_sections, named_candidates, or_else}
use Rattle.py_fronts.specs.Candidates.{has_long_section, is_long_image, record_candidates, runtime_of_image}
use Rattle.py_fronts.specs.Candidates.{searched_candidates, section_count, section_limit, section_there, words_there}
use Rattle.py_fronts.specs.FirstFrames.{ShowsEnds}
use Rattle.py_fronts.specs.FrameFronts.{FramesShown, all_members_limit, chain_from, chain_of_thread, frames_shown}
use Rattle.py_fronts.specs.FrameFronts.{thread_members_limit}
use Rattle.py_fronts.specs.Front.{Break, Front, Leads, front_at, or_lost}
use Rattle.py_fronts.specs.Front.Ending.{Whole, Cut}
use Rattle.py_fronts.specs.Fronts.{InterpreterShown, fronts_at, fronts_result, interpreter_front, interpreters_fronts}
use Rattle.py_fronts.specs.Fronts.{threads_from}
use Rattle.py_fronts.specs.Interpreters.{Told, finds_of, interpreters_at, is_found, looked_at, told_at}
use Rattle.py_fronts.specs.Interpreters.{told_result}
use Rattle.py_fronts.specs.Members.{caller_of, is_kept, members_front}
use Rattle.py_fronts.specs.ShownInterpreters.{IsHeaded, IsShown, IsTaken, IsTakenWhole}
use Rattle.py_fronts.specs.Standings.{Stood, standing_at}
use Rattle.py_fronts.specs.ThreadFronts.{after_record, front_shown, left_after, thread_of, thread_shown, threads_front}
use Rattle.py_fronts.specs.ThreadFronts.{threads_of, threads_result, threads_shown}
use Rattle.py_fronts.proofs.AllFound.{named_all, searched_all}
use Rattle.py_fronts.proofs.SearchLaws.{neither, not_ended}
use Rattle.py_fronts.proofs.SectionSteps.{record_there}
use Rattle.py_fronts.proofs.FindLaws.{interpreters_shown}
use Rattle.py_fronts.proofs.FirstFrameLaws.{ends_found}
use Rattle.py_fronts.proofs.FrontLaws.{chain_front, front_full, front_more, front_only, some_next}
use Rattle.py_fronts.proofs.MemberFrames.{among_append, among_few, chain_frames}

-- ---- frames

-- a chain that has more members than are met is cut where so many were met
cut_front : (next : ℕ → Result ℕ Break) (to : ℕ → Found ℕ) (k head : ℕ) (members : List ℕ)
    → ((a n : ℕ) → to a ≡ Ok n → next a ≡ Ok n) → IsChain to head members → k < length members
    → ((front_at next k head).ending ≡ Cut) × (length (front_at next k head).members ≡ k)
unfolding IsChain
cut_front next to k head [] same chain more = absurd (omega (arith, more))
cut_front next to zero head (x ∷ xs) same chain more =
    let full = front_full next head chain.0 in
    (ap (λ (f : Front). f.ending) full, ap (λ (f : Front). length f.members) full)
cut_front next to (suc k) head (x ∷ xs) same chain more =
    let n = some_next (to x) (λ n. IsChain to n xs) chain.2 in
    let step : next head ≡ Ok n.0 = ap next (sym chain.1) ∙ same x n.0 n.1 in
    let here = front_more next k head n.0 chain.0 step in
    let rest = cut_front next to k n.0 xs same n.2 (omega (arith, more)) in
    (ap (λ (f : Front). f.ending) here ∙ rest.0, ap (λ (f : Front). length f.members) here ∙ omega (arith, rest.1))

no_loss : (l : Layout) (m : Memory) (a n : ℕ) → back_of l m a ≡ Ok n → or_lost (back_of l m a) ≡ Ok n
no_loss l m a n e = rw e refl

ends_calls : (q : Asked) (l : Layout) (m : Memory) (limit : ℕ) (kept : List ℕ) (frames : FramesShown)
    (calls : List Call) → ShowsEnds q l m limit kept frames
    → frames_among (map (standing_at q l m) kept) ≡ map bare_call calls → ShowsCalls frames calls
ends_calls q l m limit kept frames calls ends all =
    let st : ℕ → Stood = standing_at q l m in
    let split : frames_among (map st kept) ≡ frames_among
    (map st ends.first) ++ (frames_among (map st ends.hidden) ++ frames_among (map st ends.last)) =
    ap (λ xs. frames_among (map st xs)) ends.parts
    ∙ ap frames_among (map-append st ends.first (ends.hidden ++ ends.last))
    ∙ among_append (map st ends.first) (map st (ends.hidden ++ ends.last))
    ∙ ap (λ xs. frames_among (map st ends.first) ++ frames_among xs) (map-append st ends.hidden ends.last)
    ∙ ap (λ xs. frames_among (map st ends.first) ++ xs) (among_append (map st ends.hidden) (map st ends.last)) in
    record {
      hidden = frames_among (map st ends.hidden);
      fewer = omega (arith, among_few (map st ends.hidden), length-map ends.hidden st, ends.counts);
      parts = sym all ∙ split
          ∙ ap (λ xs. frames_among xs ++ (frames_among (map st ends.hidden) ++ frames_among (map st ends.last)))
          (sym ends.shows_first)
          ∙ ap (λ xs. frames_among frames.first ++ (frames_among (map st ends.hidden) ++ frames_among xs))
          (sym ends.shows_last);
    }

abbrev ShowsFrames : FramesShown → List Call → Type 0
ShowsFrames frames calls = ((frames.ending ≡ Whole) × ShowsCalls frames calls)
    ⊎ ((frames.ending ≡ Cut) × (frames.met < member_limit))

frames_by : (q : Asked) (l : Layout) (m : Memory) (limit most first : ℕ) (calls : List Call) → NoTextAtNull l m
    → (h : AreFrames nothing l m first calls) → (fits : Bool) → leb (length h.members) most ≡ fits
    → ShowsFrames (frames_shown q l m limit (chain_from l m most (Ok first))) calls
unfolding frames_shown
frames_by q l m limit most first calls bare h true e =
    let front = chain_front (caller_of l m) (back_of l m) most first h.members (no_loss l m) h.chain
    (leb-true (length h.members) most e) in
    let all = chain_frames q l m first h.members h.parts bare h.chain h.each ∙ ap (map bare_call) (sym h.shows) in
    let kept : filter (is_kept l m) (members_front l m most first).members ≡ filter (is_kept l m) h.members = ap
    (λ (f : Front). filter (is_kept l m) f.members) front in
    inl (
      ap (λ (f : Front). f.ending) front,
      ends_calls q l m limit _ _ calls
          (ends_found q l m limit (chain_from l m most (Ok first)))
          (ap (λ xs. frames_among (map (standing_at q l m) xs)) kept ∙ all),
    )
frames_by q l m limit most first calls bare h false e =
    let cut = cut_front (caller_of l m) (back_of l m) most first h.members (no_loss l m) h.chain
    (leb-false (length h.members) most e) in
    inr (cut.0, omega (arith, cut.1, leb-false (length h.members) most e, h.met))

-- ---- threads

after_named : (l : Layout) (i n : ℕ) (d : Found (List ℕ))
    → (d >>= (λ thread. Ok (u64_in thread l.thread.next))) ≡ Ok n
    → (d >>= (λ thread. Ok (u64_in thread l.thread.interp))) ≡ Ok i
    → after_record l i d ≡ Ok n
after_named l i n (Err f) next named = absurd (cc)
after_named l i n (Ok thread) next named =
    let is : u64_in thread l.thread.interp ≡ i = ok_same _ i named in
    let same : nat_eq (u64_in thread l.thread.interp) i ≡ true = grind (arith, nat_tests) in
    rw same (ap Ok (ok_same (u64_in thread l.thread.next) n next))

named_next : (l : Layout) (i : ℕ) (m : Memory) (a n : ℕ) → thread_after l m a ≡ Ok n
    → interpreter_named_by l m a ≡ Ok i → thread_of l i m a ≡ Ok n
unfolding thread_after interpreter_named_by thread_of
named_next l i m a n next named = after_named l i n (record_at m a l.thread.size) next named

named_leads : (l : Layout) (i : ℕ) (m : Memory) (head : ℕ) (threads : List ℕ) → NameIt l m i threads
    → IsChain (thread_after l m) head threads → Leads (thread_of l i m) head threads 0
unfolding IsChain Leads
named_leads l i m head [] named chain = chain
named_leads l i m head (x ∷ xs) named chain =
    let n = some_next (thread_after l m x) (λ n. IsChain (thread_after l m) n xs) chain.2 in
    let here = All-head (λ a. interpreter_named_by l m a ≡ Ok i) x xs named in
    let rest = All-tail (λ a. interpreter_named_by l m a ≡ Ok i) x xs named in
    (chain.0, chain.1, rw (named_next l i m x n.0 n.1 here) (named_leads l i m n.0 xs rest n.2))

thread_shows : (q : Asked) (l : Layout) (m : Memory) (limit left a : ℕ) (trace : Trace) → NoTextAtNull l m
    → IsTraceOf nothing l m a trace → ShowsTrace (thread_shown q l m limit left a) trace
unfolding thread_shown chain_of_thread
thread_shows q l m limit left a trace bare h =
    let r = h.read in
    let first = h.names in
    let shown = frames_by q l m limit (min left thread_members_limit) h.first trace.frames bare h.frames
    (leb (length h.frames.members) (min left thread_members_limit)) refl in
    record {
      thread_id = rw r (sym (ap (λ (t : Trace). t.thread_id) h.fields));
      os_thread_id = rw r (sym (ap (λ (t : Trace). t.os_thread_id) h.fields));
      frames = rw (r, first) shown;
    }

threads_show : (q : Asked) (l : Layout) (m : Memory) (limit left : ℕ) (threads : List ℕ) (traces : List Trace)
    → NoTextAtNull l m → AreTracesOf nothing l m threads traces
    → ShowTraces (threads_shown q l m limit left threads) traces
unfolding threads_shown
threads_show q l m limit left [] [] bare h = tt
threads_show q l m limit left [] (t ∷ ts) bare h = absurd h
threads_show q l m limit left (a ∷ rest) [] bare h = absurd h
threads_show q l m limit left (a ∷ rest) (t ∷ ts) bare h = (
  thread_shows q l m limit left a t bare h.0,
  threads_show q l m limit
      (left - (thread_shown q l m limit left a).frames.met) rest ts bare h.1,
)

whole_threads : (l : Layout) (m : Memory) (i head : ℕ) (traces : List Trace) (are : AreTraces nothing l m i traces)
    → NameIt l m i are.threads → threads_head l m i ≡ Ok head
    → threads_front l i m head ≡ record { members = are.threads; ending = Whole }
whole_threads l m i head traces are named there =
    let same : are.head ≡ head = ok_same are.head head (sym are.names ∙ there) in
    let chain : IsChain (thread_after l m) head are.threads = rw (← same) are.chain in
    front_only (thread_of l i m) thread_limit head are.threads Whole 0
    (named_leads l i m head are.threads named chain) are.within refl

-- the front of an interpreter's threads from its first one on
front_agrees : (q : Asked) (l : Layout) (m : Memory) (limit left i head : ℕ) → threads_head l m i ≡ Ok head
    → AgreesWithReport l m i (front_shown q l m limit left (threads_front l i m head))
front_agrees q l m limit left i head there traces are named bare =
    let front = whole_threads l m i head traces are named there in
    rw front (record { whole = refl; threads = threads_show q l m limit left are.threads traces bare are.each })

pub threads_agree : (q : Asked) (l : Layout) (m : Memory) (limit left i head : ℕ) (r : Result ThreadsFront StackError)
    → IsOrNoMemory (front_shown q l m limit left (threads_front l i m head)) (threads_result r)
    → IfOk r (λ front. threads_head l m i ≡ Ok head → AgreesWithReport l m i (threads_of front))
threads_agree q l m limit left i head (Ok front) e = λ there. rw e (front_agrees q l m limit left i head there)
threads_agree q l m limit left i head (Err e) h = tt

-- ---- the interpreter of a report is found

-- the words of a section that is all there, and has no more than are looked at
found_words : (m : Memory) (at size x : ℕ) (d : Found (List ℕ)) → record_at m at size ≡ d
    → nat_lt section_limit (size / 8) ≡ false → Contains (words_in d) x → Contains (section_there m at size) x
found_words m at size x (Ok bytes) e short h =
    let all : size / 8 ≡ section_count size = grind (arith, nat_tests) in
    subst (λ ws. Contains ws x) (record_there m at size bytes e ∙ ap (words_there m at) all) h
found_words m at size x (Err f) e short h = absurd (omega (arith, h.1))

in_section : (m : Memory) (at size x : ℕ) → nat_lt section_limit (size / 8) ≡ false → Contains (section_words m at size) x
    → Contains (section_there m at size) x
in_section m at size x short h = found_words m at size x (record_at m at size) refl short h

in_runtime : (m : Memory) (at size x : ℕ) (none : Bool) → nat_lt section_limit (size / 8) ≡ false
    → Contains (if none then [] else section_words m at size) x
    → Contains (if none then [] else section_there m at size) x
in_runtime m at size x true short h = h
in_runtime m at size x false short h = in_section m at size x short h

in_image : (m : Memory) (image : Option Facts) (a : ℕ) → is_long_image image ≡ false
    → Contains (words_of_image m image) a → Contains (runtime_of_image m image) a ⊎ Contains (bss_of_image m image) a
in_image m None a short h = inl h
in_image m (Some facts) a short h =
    let p = neither (nat_lt section_limit (facts.pyruntime_size / 8)) (nat_lt section_limit (facts.bss_size / 8)) short in
    elim (Contains-append_cases (runtime_words m facts.pyruntime_addr facts.pyruntime_size)
    (section_words m facts.bss_addr facts.bss_size) a h) [
      | inl runtime ↦ inl (in_runtime m facts.pyruntime_addr facts.pyruntime_size a (nat_eq facts.pyruntime_addr 0) p.0
          runtime)
      | inr bss ↦ inr (in_section m facts.bss_addr facts.bss_size a p.1 bss)
    ]

in_images : (m : Memory) (k : Known) (a : ℕ) → has_long_section k ≡ false → Contains (words_of_images m k) a
    → Contains (searched_candidates k m) a
unfolding searched_candidates
in_images m k a short h =
    let p = neither (is_long_image k.program) (is_long_image k.library) short in
    let runtimes = runtime_of_image m k.program ++ runtime_of_image m k.library in
    let sections = bss_of_image m k.program ++ bss_of_image m k.library in
    elim (Contains-append_cases (words_of_image m k.program) (words_of_image m k.library) a h) [
      | inl program ↦ elim (in_image m k.program a p.0 program) [
        | inl one ↦ Contains-append_left runtimes sections a
            (Contains-append_left (runtime_of_image m k.program) (runtime_of_image m k.library) a one)
        | inr one ↦ Contains-append_right runtimes sections a
            (Contains-append_left (bss_of_image m k.program) (bss_of_image m k.library) a one)
      ]
      | inr library ↦ elim (in_image m k.library a p.1 library) [
        | inl one ↦ Contains-append_left runtimes sections a
            (Contains-append_right (runtime_of_image m k.program) (runtime_of_image m k.library) a one)
        | inr one ↦ Contains-append_right runtimes sections a
            (Contains-append_right (bss_of_image m k.program) (bss_of_image m k.library) a one)
      ]
    ]

in_first : (xs ys : List ℕ) (a : ℕ) → Contains xs a → Contains (or_else xs ys) a
in_first [] ys a h = absurd (omega (arith, h.1))
in_first (x ∷ xs) ys a h = h

in_given : (k : Known) (v : Version) (l : Layout) (m : Memory) (a : ℕ) → Contains (head_by l.head k v l m) a
    → Contains (head_given k v l m) a
unfolding head_given
in_given k v l m a h = in_first (head_by l.head k v l m) (head_in_sections k v l m) a h

-- a candidate of a report is among the words of a section, where it isn't named
in_words : (k : Known) (v : Version) (l : Layout) (m : Memory) (a : ℕ) → Contains (candidates_of k v l m) a
    → Contains (named_candidates k v l m) a ⊎ Contains (words_of_images m k) a
unfolding candidates_of named_candidates
in_words k v l m a h =
    let heads = head_given k v l m in
    elim (Contains-append_cases (head_by l.head k v l m) (words_of_images m k) a h) [
      | inl head ↦ inl (Contains-append_left heads (flat_map (record_candidates l m) heads) a (in_given k v l m a head))
      | inr words ↦ inr words
    ]

names_back : (l : Layout) (m : Memory) (a head : ℕ) → named_at l m a ≡ Ok a → threads_head l m a ≡ Ok head
    → interpreter_named_by l m head ≡ Ok a
unfolding named_at
names_back l m a head named there =
    let h = bound (threads_head l m a) (interpreter_named_by l m) a named in
    ap (interpreter_named_by l m) (ok_same head h.0 (sym there ∙ h.1)) ∙ h.2

reported_headed : (c : ℕ → Bool) (l : Layout) (m : Memory) (a : ℕ) → c 0 ≡ false → (is : IsInterpreterIn c l m a)
    → IsHeaded c l m a is.head
reported_headed c l m a null is =
    record {
      lies = is.lies;
      names = is.names;
      some = λ z. let both : false ≡ true = sym null ∙ ap c (sym z) ∙ is.head_lies in cc;
      head_lies = is.head_lies;
      named = names_back l m a is.head is.is.named is.names;
    }

-- an interpreter that is named is taken; so is one that is a word of a section, where all was looked at
module _ (c : ℕ → Bool) (k : Known) (v : Version) (l : Layout) (m : Memory)
    (few : (interpreters_at c k v l m).more ≡ false) (null : c 0 ≡ false) (a : ℕ) (h : IsReported c k v l m a) where
  by_name : Contains (named_candidates k v l m) a → is_found (interpreters_at c k v l m).found a ≡ true
  by_name named =
      All-contains (IsTaken c l m (interpreters_at c k v l m)) (named_candidates k v l m) a
      (named_all c k v l m few).named named h.first.is.head (reported_headed c l m a null h.first.is)

  by_search : (looked_at c k v l m).ended ≡ false → Contains (words_of_images m k) a
      → is_found (interpreters_at c k v l m).found a ≡ true
  by_search ended words =
      let headed = reported_headed c l m a null h.first.is in
      All-contains (IsTakenWhole c l m (interpreters_at c k v l m)) (searched_candidates k m) a
      (searched_all c k v l m few ended) (in_images m k a (not_ended c k v l m ended).short words) h.first.is.head
      headed
      (ap (λ (f : Front). f.ending) (whole_threads l m a h.first.is.head h.traces h.are h.named headed.names))

  reported_by : IsSought (looked_at c k v l m).ended k v l m a → is_found (interpreters_at c k v l m).found a ≡ true
  reported_by (inl named) = by_name named
  reported_by (inr ended) =
      let here : Contains (candidates_of k v l m) a = rw h.first.parts
      (Contains-append_right h.first.before (a ∷ h.first.after) a (0, omega arith, refl)) in
      elim (in_words k v l m a here) [
        | inl named ↦ by_name named
        | inr words ↦ by_search ended words
      ]

pub reported_found : (c : ℕ → Bool) (k : Known) (v : Version) (l : Layout) (m : Memory)
    (r : Result InterpreterSearch StackError) → IsOrNoMemory (told_at c k v l m) (told_result r)
    → IfOk r (λ search. FindsReported search.looked.ended c k v l m (finds_of search.finds))
reported_found c k v l m (Ok search) e = λ few null a h sought.
    ap (λ (t : Told). is_found t.finds.found a) e
    ∙ reported_by c k v l m (ap (λ (t : Told). t.finds.more) (sym e) ∙ few) null a h
    (subst (λ (t : Told). IsSought t.looked.ended k v l m a) e sought)
reported_found c k v l m (Err e) h = tt

-- ---- all fronts

each_agrees : (c : ℕ → Bool) (q : Asked) (l : Layout) (m : Memory) (limit left : ℕ) (found : List FoundInterpreter)
    → All (IsShown c l m) found
    → All (λ (one : InterpreterShown). AgreesWithReport l m one.address one.threads)
    (interpreters_fronts q l m limit left found)
unfolding interpreters_fronts
each_agrees c q l m limit left [] h = All-nil (λ (one : InterpreterShown). AgreesWithReport l m one.address one.threads)
each_agrees c q l m limit left (one ∷ rest) h =
    All-cons (λ (one : InterpreterShown). AgreesWithReport l m one.address one.threads)
    (interpreter_front q l m limit left one)
    (interpreters_fronts q l m limit (left_after left (threads_from q l m limit left one).threads) rest)
    (front_agrees q l m limit left one.address one.head (All-head (IsShown c l m) one rest h).headed.names)
    (each_agrees c q l m limit (left_after left (threads_from q l m limit left one).threads) rest
    (All-tail (IsShown c l m) one rest h))

same_addresses : (q : Asked) (l : Layout) (m : Memory) (limit left : ℕ) (found : List FoundInterpreter) (a : ℕ)
    → is_shown (interpreters_fronts q l m limit left found) a ≡ is_found found a
unfolding interpreters_fronts
same_addresses q l m limit left [] a = refl
same_addresses q l m limit left (one ∷ rest) a = ap (λ b. nat_eq one.address a || b)
    (same_addresses q l m limit (left_after left (threads_from q l m limit left one).threads) rest a)

agree_at : (c : ℕ → Bool) (k : Known) (v : Version) (l : Layout) (m : Memory) (q : Asked) (limit : ℕ)
    → AgreeWithReport c k v l m (fronts_at c k v l m q limit)
unfolding fronts_at
agree_at c k v l m q limit = record {
  shown = λ few null a h sought. same_addresses q l m limit all_members_limit (interpreters_at c k v l m).found a
      ∙ reported_by c k v l m few null a h sought;
  each = each_agrees c q l m limit all_members_limit (interpreters_at c k v l m).found
      (interpreters_shown c k v l m).each;
}

pub fronts_agree : (c : ℕ → Bool) (k : Known) (v : Version) (l : Layout) (m : Memory) (q : Asked) (limit : ℕ)
    (r : Result Fronts StackError) → IsOrNoMemory (fronts_at c k v l m q limit) (fronts_result r)
    → IfOk (fronts_result r) (λ fronts. AgreeWithReport c k v l m fronts)
fronts_agree c k v l m q limit (Ok fronts) e = rw e (agree_at c k v l m q limit)
fronts_agree c k v l m q limit (Err e) h = tt
