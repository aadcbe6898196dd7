-- What is told over mappings depends on what they show alone: their addresses, their places in files, and the bytes.
use Rattle.std.proofs.Common.{◌≡◌, ◌∙◌, ℕ, ◌+◌, ◌-◌, Bool, true, false, List, [], ◌∷◌, length, map, refl, sym, ap, subst}
use Rattle.std.specs.Prelude.{Option, Some, None, option_and_then, option_map, option_copied, is_none}
use Rattle.std.specs.Prelude.{slice_get}
use Rattle.std.specs.List.{find}
use Rattle.frame_rows.specs.declared.row.Machine.{Machine}
use Rattle.process_memory.specs.Memory.{Memory}
use Rattle.core_unwind.specs.declared.end.End.{End}
use Rattle.core_unwind.specs.declared.end.End.TheVariants as how
use Rattle.core_unwind.specs.declared.frame.Frame.{Frame}
use Rattle.core_unwind.specs.declared.frame.Turn.{Turn}
use Rattle.core_unwind.specs.declared.guess.Guess.{Guess}
use Rattle.core_unwind.specs.declared.mark.Manner.{Manner}
use Rattle.core_unwind.specs.declared.mark.Mark.{Mark}
use Rattle.core_unwind.specs.declared.place.CodePlace.{CodePlace}
use Rattle.core_unwind.specs.declared.place.Mapping.{Mapping}
use Rattle.core_unwind.specs.declared.state.State.{State}
use Rattle.core_unwind.specs.Bases.{IsBased, IsBasedAt, IsBasedBy, base_of}
use Rattle.core_unwind.specs.Guesses.{IsInCode, IsJumpAt, IsJumpOf, return_word, stack_top}
use Rattle.core_unwind.specs.Marks.{IsGuessedIf, IsMarkedIf, IsStep, IsUncoveredBy, coded, is_uncovered, stops_uncovered}
use Rattle.core_unwind.specs.Origins.{IsBaseGuess, IsGuess, IsGuessIf, is_no_file, jumped}
use Rattle.core_unwind.specs.Places.{IsSpot, IsSpotIn, IsSpotOf, Site, holds}
use Rattle.core_unwind.specs.Stacks.{Chain, IsStack, Leads}
use Rattle.core_unwind.specs.Steps.{IsTableStep}
use Rattle.std.specs.Prelude.{Result, ◌&&◌, cond, nat_le, nat_lt}
use Rattle.std.proofs.lemmas.Option.{slice_get-map}
use Rattle.native_frames.specs.declared.stacks.Function.{Function}
use Rattle.native_frames.specs.declared.stacks.NativeFrame.{NativeFrame}
use Rattle.native_frames.specs.Mapped.{MappingShown, mapping_shown}
use Rattle.native_frames.specs.Naming.{AreNamed, Each, IsFunctionAt, IsFunctionIn, bytes_behind, bytes_of}
use Rattle.native_frames.specs.Threads.{IsGuessUnless, IsGuessedStack, IsNamedStack, StackPair, StackShown, missing_at}

shown_head : (m n : MappingShown) (ms ns : List MappingShown) → m ∷ ms ≡ n ∷ ns → m ≡ n
shown_head m n ms ns e = cc

shown_tail : (m n : MappingShown) (ms ns : List MappingShown) → m ∷ ms ≡ n ∷ ns → ms ≡ ns
shown_tail m n ms ns e = cc

shown_none : (m : MappingShown) (ms : List MappingShown) → ◌≡◌ {A = List MappingShown} [] (m ∷ ms) → ⊥
shown_none m ms e = cc

some_head : (m n : MappingShown) → Some m ≡ Some n → m ≡ n
some_head m n e = cc

some_none : (m : MappingShown) → ◌≡◌ {A = Option MappingShown} None (Some m) → ⊥
some_none m e = cc

-- ---- look-ups

abbrev held : ℕ → MappingShown → Bool
held at s = nat_le s.start at && nat_lt at s.end

pub find_same : (at : ℕ) (ms ns : List Mapping) → map mapping_shown ms ≡ map mapping_shown ns
    → option_map mapping_shown (find (holds at) ms) ≡ option_map mapping_shown (find (holds at) ns)
find_same at [] [] e = refl
find_same at [] (n ∷ ns) e = absurd (shown_none (mapping_shown n) (map mapping_shown ns) e)
find_same at (m ∷ ms) [] e = absurd (shown_none (mapping_shown m) (map mapping_shown ms) (sym e))
find_same at (m ∷ ms) (n ∷ ns) e =
    let head = shown_head (mapping_shown m) (mapping_shown n) (map mapping_shown ms) (map mapping_shown ns) e in
    let rest = find_same at ms ns (shown_tail (mapping_shown m) (mapping_shown n) (map mapping_shown ms)
    (map mapping_shown ns) e) in
    let both : holds at m ≡ holds at n = ap (held at) head in
    by (holds at m) (holds at n) both head rest
  where
    by : (a b : Bool) → a ≡ b → mapping_shown m ≡ mapping_shown n
        → option_map mapping_shown (find (holds at) ms) ≡ option_map mapping_shown (find (holds at) ns)
        → option_map mapping_shown (cond a (Some m) (find (holds at) ms))
        ≡ option_map mapping_shown (cond b (Some n) (find (holds at) ns))
    by true true same head rest = ap (λ (s : MappingShown). Some s) head
    by true false same head rest = absurd cc
    by false true same head rest = absurd cc
    by false false same head rest = rest

get_same : (ms ns : List Mapping) (i : ℕ) → map mapping_shown ms ≡ map mapping_shown ns
    → option_map mapping_shown (slice_get ms i) ≡ option_map mapping_shown (slice_get ns i)
get_same ms ns i e = sym (slice_get-map mapping_shown ms i) ∙ ap (λ xs. slice_get xs i) e
    ∙ slice_get-map mapping_shown ns i

spot_at : (at : ℕ) (om on : Option Mapping) (x : Result Site End)
    → option_map mapping_shown om ≡ option_map mapping_shown on → IsSpotIn at on x → IsSpotIn at om x
spot_at at None None x e h = h
spot_at at None (Some n) x e h = absurd (some_none (mapping_shown n) e)
spot_at at (Some m) None x e h = absurd (some_none (mapping_shown m) (sym e))
spot_at at (Some m) (Some n) x e h =
    let same : mapping_shown n ≡ mapping_shown m = sym (some_head (mapping_shown m) (mapping_shown n) e) in
    subst (λ (s : MappingShown). IsSpotOf at s.file (s.offset + (at - s.start)) s.bytes x) same h

none_same : (om on : Option Mapping) → option_map mapping_shown om ≡ option_map mapping_shown on
    → is_none om ≡ is_none on
none_same None None e = refl
none_same None (Some n) e = absurd (some_none (mapping_shown n) e)
none_same (Some m) None e = absurd (some_none (mapping_shown m) (sym e))
none_same (Some m) (Some n) e = refl

abbrev file_of : Option MappingShown → Option ℕ
file_of o = option_map (λ (s : MappingShown). s.file) o

file_shown : (o : Option Mapping) → option_map (λ (m : Mapping). m.file) o ≡ file_of (option_map mapping_shown o)
file_shown None = refl
file_shown (Some m) = refl

abbrev bytes_in : Option MappingShown → Option (List ℕ)
bytes_in None = None
bytes_in (Some s) = s.bytes

bytes_shown : (o : Option Mapping) → option_and_then (λ (m : Mapping). option_copied m.bytes) o
    ≡ bytes_in (option_map mapping_shown o)
bytes_shown None = refl
bytes_shown (Some m) = refl

-- ---- any step that is one is one

module _ (step other : State → Turn → Type 0) (gives : (s : State) (t : Turn) → step s t → other s t) where
  leads_same : (s : State) (fs : List Frame) (at : State) → Leads step s fs at → Leads other s fs at
  unfolding Leads
  leads_same s [] at h = h
  leads_same s (f ∷ fs) at h = (h.0, gives _ _ h.1, leads_same h.0 fs at h.2)

  stack_same : (limit : ℕ) (first : State) (c : Chain) → IsStack step limit first c → IsStack other limit first c
  stack_same limit first c p = record {
    callees = p.callees;
    leads = leads_same first p.callees c.last p.leads;
    last = p.last;
    next = p.next;
    turns = gives _ _ p.turns;
    frames = p.frames;
    within = p.within;
    ends = p.ends;
  }

module _ (ms ns : List Mapping) (e : map mapping_shown ms ≡ map mapping_shown ns) where
  spot_same : (at : ℕ) (x : Result Site End) → IsSpot ns at x → IsSpot ms at x
  spot_same at x h = spot_at at (find (holds at) ms) (find (holds at) ns) x (find_same at ms ns e) h

  code_same : (word : ℕ) (b : Bool) → IsInCode ns word b → IsInCode ms word b
  code_same word b h = record { answer = h.answer; spot = spot_same _ h.answer h.spot; is = h.is }

  module _ (m : Memory) (s : State) where
    table_same : (bits : ℕ) (t : Turn) → IsTableStep ns bits m s t → IsTableStep ms bits m s t
    table_same bits t h = record { answer = h.answer; spot = spot_same _ h.answer h.spot; is = h.is }

    by_same : (base : ℕ) (word : Option ℕ) (g : _) → IsBasedBy ns m s base word g
        → IsBasedBy ms m s base word g
    by_same base None g h = h
    by_same base (Some word) g h = record {
      is_code = h.is_code;
      in_code = code_same word h.is_code h.in_code;
      is = h.is;
    }

    at_same : (base : Option ℕ) (g : _) → IsBasedAt ns m s base g → IsBasedAt ms m s base g
    at_same None g h = h
    at_same (Some base) g h = by_same base _ g h

    based_same : (machine : Machine) (g : _) → IsBased ns machine m s g → IsBased ms machine m s g
    based_same machine g h = at_same (base_of machine s) g h

    guessed_same : (b : Bool) (machine : Machine) (tabled t : Turn) → IsGuessedIf b ns machine m s tabled t
        → IsGuessedIf b ms machine m s tabled t
    guessed_same false machine tabled t h = h
    guessed_same true machine tabled t h = (h.0, based_same machine h.0 h.1, h.2)

    uncovered_same : (manner : Manner) (tabled : Turn) (g : _) (t : Turn)
        → IsUncoveredBy ns manner m s tabled g t → IsUncoveredBy ms manner m s tabled g t
    uncovered_same manner tabled None t h = guessed_same manner.guesses manner.machine tabled t h
    uncovered_same manner tabled (Some g) t h = h

    marked_same : (b : Bool) (manner : Manner) (tabled t : Turn) → IsMarkedIf b ns manner m s tabled t
        → IsMarkedIf b ms manner m s tabled t
    marked_same false manner tabled t h = h
    marked_same true manner tabled t h = uncovered_same manner tabled (coded manner.machine m s) t h

    step_same : (manner : Manner) (t : Turn) → IsStep ns manner m s t → IsStep ms manner m s t
    step_same manner t h = record {
      tabled = h.tabled;
      by_table = table_same manner.code_bits h.tabled h.by_table;
      is = marked_same (stops_uncovered h.tabled.next) manner h.tabled t h.is;
    }

  -- ---- guesses

  module _ (machine : Machine) (m : Memory) where
    jump_of : (s : State) (top : ℕ) (word : Option ℕ) (g : Option State) → IsJumpOf ns machine s top word g
        → IsJumpOf ms machine s top word g
    jump_of s top None g h = h
    jump_of s top (Some word) g h = record {
      is_code = h.is_code;
      in_code = code_same word h.is_code h.in_code;
      is = h.is;
    }

    jump_at : (s : State) (top : Option ℕ) (g : Option State) → IsJumpAt ns machine m s top g
        → IsJumpAt ms machine m s top g
    jump_at s None g h = h
    jump_at s (Some top) g h = jump_of s top (return_word machine m s top) g h

    base_same : (b : Bool) (s : State) (g : Option Guess) → IsBaseGuess b ns machine m s g
        → IsBaseGuess b ms machine m s g
    base_same false s g h = h
    base_same true s g h = (h.0, based_same m s machine h.0 h.1, h.2)

    guess_if : (b : Bool) (c : Chain) (g : Option Guess) → IsGuessIf b ns machine m c g → IsGuessIf b ms machine m c g
    guess_if true c g h = (h.0, jump_at c.last (stack_top machine c.last) h.0 h.1, h.2)
    guess_if false c g h = base_same (is_uncovered c.end) c.last g h

    jumped_same : (c : Chain) → jumped ns c ≡ jumped ms c
    jumped_same c = ap (λ (b : Bool). is_no_file c.end && (c.last.is_exact && b))
        (sym (none_same (find (holds c.last.pc) ms) (find (holds c.last.pc) ns) (find_same c.last.pc ms ns e)))

    guess_same : (c : Chain) (g : Option Guess) → IsGuess ns machine m c g → IsGuess ms machine m c g
    guess_same c g h = guess_if (jumped ms c) c g
        (subst (λ (b : Bool). IsGuessIf b ns machine m c g) (jumped_same c) h)

    unless_same : (strict : Bool) (c : Chain) (g : Option Guess) → IsGuessUnless strict ns machine m c g
        → IsGuessUnless strict ms machine m c g
    unless_same true c g h = h
    unless_same false c g h = guess_same c g h

  -- ---- names

  missing_same : (end : End) → missing_at ns end ≡ missing_at ms end
  missing_same (how.NoFile at) =
      file_shown (find (holds at) ns) ∙ ap file_of (sym (find_same at ms ns e)) ∙ sym (file_shown (find (holds at) ms))
  missing_same how.Whole = refl
  missing_same (how.NoTable at) = refl
  missing_same (how.Unreadable at) = refl
  missing_same (how.Refused r) = refl
  missing_same how.NotAbove = refl
  missing_same (how.Cut l) = refl

  bytes_same : (file : ℕ) → bytes_of ns file ≡ bytes_of ms file
  bytes_same file =
      bytes_shown (slice_get ns file) ∙ ap bytes_in (sym (get_same ms ns file e)) ∙ sym (bytes_shown (slice_get ms file))

  function_same : (f : Frame) (place : Option CodePlace) (o : Option Function) → IsFunctionAt ns f place o
      → IsFunctionAt ms f place o
  function_same f None o h = h
  function_same f (Some place) o h =
      subst (λ (b : Option (List ℕ)). IsFunctionIn b place.address (bytes_behind f) o) (bytes_same place.file) h

  named_same : (fs : List Frame) (xs : List NativeFrame) → AreNamed ns fs xs → AreNamed ms fs xs
  unfolding Each
  named_same [] xs h = h
  named_same (f ∷ fs) xs h = (
    h.0,
    h.1,
    h.2,
    record { frame = h.3.frame; function = function_same f f.place h.0.function h.3.function },
    named_same fs h.1 h.4,
  )

  -- ---- stacks

  module _ (m : Memory) where
    told_same : (manner : Manner) (left : ℕ) (guess : Option Mark) (first : State) (c : Chain) (x : StackShown)
        → IsNamedStack ns manner m left guess first c x → IsNamedStack ms manner m left guess first c x
    told_same manner left guess first c x h = record {
      follows = stack_same (IsStep ns manner m) (IsStep ms manner m) (λ s t k. step_same m s manner t k) _ first c
          h.follows;
      named = named_same c.frames x.frames h.named;
      ends = h.ends;
      missing = h.missing ∙ missing_same c.end;
      guessed = h.guessed;
    }

    behind_same : (machine : Machine) (bits left : ℕ) (guess : Option Guess) (x : Option StackShown)
        → IsGuessedStack ns machine bits m left guess x → IsGuessedStack ms machine bits m left guess x
    behind_same machine bits left None x h = h
    behind_same machine bits left (Some g) x h = (h.0, h.1, h.2, told_same _ left (Some g.mark) g.caller h.0 h.1 h.3)

    pub pair_same : (machine : Machine) (bits : ℕ) (strict : Bool) (left : ℕ) (first : State)
        (x : StackShown × Option StackShown) → StackPair ns machine bits m strict left first x
        → StackPair ms machine bits m strict left first x
    pair_same machine bits strict left first x h = record {
      chain = h.chain;
      stack = told_same _ left None first h.chain x.0 h.stack;
      guess = h.guess;
      guesses = unless_same machine m strict h.chain h.guess h.guesses;
      behind = behind_same machine bits (left - length h.chain.frames) h.guess x.1 h.behind;
    }
