-- What is told of a thread's stacks is one answer alone, where tables ascend.
use Rattle.std.proofs.Common.{◌≡◌, ◌∙◌, ℕ, ◌-◌, ◌<◌, Bool, true, false, List, [], ◌∷◌, ◌++◌, length, refl, sym, ap, subst, arith}
use Rattle.std.proofs.Common.{inl, inr, ◌⊎◌}
use Rattle.std.specs.Prelude.{Option, Some, None, Result, Ok, Err, IfOk}
use Rattle.elf64_core.specs.Symbols.{SymbolEntry}
use Rattle.elf64_core.specs.declared.symbol.SymbolKind.{SymbolKind}
use Rattle.covering_symbols.specs.Covering.{AreImageSymbols, AreSymbolsOf, Covering, IsNearer}
use Rattle.frame_rows.specs.declared.row.Machine.{Machine}
use Rattle.process_memory.specs.Memory.{Memory}
use Rattle.core_unwind.specs.declared.end.End.{End}
use Rattle.core_unwind.specs.declared.frame.Frame.{Frame}
use Rattle.core_unwind.specs.declared.guess.Guess.{Guess}
use Rattle.core_unwind.specs.declared.mark.Manner.{Manner}
use Rattle.core_unwind.specs.declared.mark.Mark.{Mark}
use Rattle.core_unwind.specs.declared.place.CodePlace.{CodePlace}
use Rattle.core_unwind.specs.declared.place.Mapping.{Mapping}
use Rattle.core_unwind.specs.declared.state.State.{State}
use Rattle.core_unwind.specs.Guesses.{IsInCode, IsJumpAt, IsJumpOf, guessed_caller, is_site, jump_if, return_word}
use Rattle.core_unwind.specs.Guesses.{stack_top}
use Rattle.core_unwind.specs.Marks.{IsStep, is_uncovered}
use Rattle.core_unwind.specs.Origins.{IsBaseGuess, IsGuessIf, base_guess, jump_guess, jumped}
use Rattle.core_unwind.specs.Places.{IsOpened}
use Rattle.core_unwind.specs.Stacks.{AllAscend, Chain}
use Rattle.core_unwind.proofs.FileLaws.{spot_once}
use Rattle.core_unwind.proofs.MarkLaws.{based_once, step_once}
use Rattle.core_unwind.proofs.StackLaws.{stack_once}
use Rattle.native_frames.specs.declared.stacks.Function.{Function}
use Rattle.native_frames.specs.declared.stacks.NativeFrame.{NativeFrame}
use Rattle.native_frames.specs.declared.thread.StackParts.{StackParts}
use Rattle.native_frames.specs.Limits.{limit_of}
use Rattle.native_frames.specs.Naming.{AreNamed, Each, IsFunctionAmong, IsFunctionAt, IsFunctionBy, IsFunctionIn, IsNamed}
use Rattle.native_frames.specs.Naming.{bytes_behind, bytes_of, function_by}
use Rattle.native_frames.specs.Threads.{IsGuessUnless, IsGuessedStack, IsNamedStack, StackPair, StackShown, manner_of}
use Rattle.native_frames.specs.Threads.{pair_of}

-- ---- functions

symbols_once : (bytes : List ℕ) (kind : SymbolKind) (x y : List SymbolEntry) → AreSymbolsOf bytes kind x
    → AreSymbolsOf bytes kind y → x ≡ y
symbols_once bytes kind x y (inl h) (inl k) = h.1 ∙ sym k.1
symbols_once bytes kind x y (inl h) (inr k) = absurd (k.0 h.0)
symbols_once bytes kind x y (inr h) (inl k) = absurd (h.0 k.0)
symbols_once bytes kind x y (inr h) (inr k) = h.1 ∙ sym k.1

all_once : (bytes : List ℕ) (x y : List SymbolEntry) → AreImageSymbols bytes x → AreImageSymbols bytes y → x ≡ y
all_once bytes x y h k = h.all
    ∙ ap (λ l. l ++ h.dynamic) (symbols_once bytes _ h.plain k.plain h.plain_are k.plain_are)
    ∙ ap (λ l. k.plain ++ l) (symbols_once bytes _ h.dynamic k.dynamic h.dynamic_are k.dynamic_are) ∙ sym k.all

both_nearer : (n m : ℕ × SymbolEntry) → IsNearer n m → IsNearer m n → ⊥
both_nearer n m (inl a) (inl b) = absurd (omega arith)
both_nearer n m (inl a) (inr b) = let e = b.0 in absurd (omega arith)
both_nearer n m (inr a) (inl b) = let e = a.0 in absurd (omega arith)
both_nearer n m (inr a) (inr b) = by a.1 b.1
  where
    by : (n.1.size < m.1.size) ⊎ ((n.1.size ≡ m.1.size) × (n.0 < m.0)) → (m.1.size < n.1.size) ⊎ ((m.1.size ≡ n.1.size)
        × (m.0 < n.0)) → ⊥
    by (inl c) (inl d) = absurd (omega arith)
    by (inl c) (inr d) = let e = d.0 in absurd (omega arith)
    by (inr c) (inl d) = let e = c.0 in absurd (omega arith)
    by (inr c) (inr d) = let e = c.1 in let f = d.1 in absurd (omega arith)

covering_once : (symbols : List SymbolEntry) (addr : ℕ) (x y : Option ℕ) → Covering symbols addr x
    → Covering symbols addr y → x ≡ y
covering_once symbols addr None None h k = refl
covering_once symbols addr None (Some n) h k = absurd (h (n, k.symbol) k.among k.covers)
covering_once symbols addr (Some n) None h k = absurd (k (n, h.symbol) h.among h.covers)
covering_once symbols addr (Some n) (Some m) h k =
    by (h.nearest (m, k.symbol) k.among k.covers) (k.nearest (n, h.symbol) h.among h.covers)
  where
    by : (m ≡ n) ⊎ IsNearer (n, h.symbol) (m, k.symbol) → (n ≡ m) ⊎ IsNearer (m, k.symbol) (n, h.symbol)
        → Some n ≡ Some m
    by (inl e) q = ap (λ i. Some i) (sym e)
    by (inr a) (inl e) = ap (λ i. Some i) e
    by (inr a) (inr b) = absurd (both_nearer (n, h.symbol) (m, k.symbol) a b)

module _ (address more : ℕ) where
  among_once : (symbols : List SymbolEntry) (x y : Option Function) → IsFunctionAmong symbols address more x
      → IsFunctionAmong symbols address more y → x ≡ y
  among_once symbols x y h k =
      h.is ∙ ap (function_by symbols address more) (covering_once symbols address h.found k.found h.covers k.covers)
      ∙ sym k.is

  by_once : (file : Option (List ℕ)) (x y : Option Function) → IsFunctionBy file address more x
      → IsFunctionBy file address more y → x ≡ y
  by_once None x y h k = h ∙ sym k
  by_once (Some file) x y h k =
      let same : h.0 ≡ k.0 = all_once file h.0 k.0 h.1 k.1 in
      among_once k.0 x y (subst (λ (s : List SymbolEntry). IsFunctionAmong s address more x) same h.2) k.2

  opened_once : (file : List ℕ) (x y : Option (List ℕ)) → IsOpened file x → IsOpened file y → x ≡ y
  opened_once file x y (inl p) (inl q) = p.1 ∙ sym q.1
  opened_once file x y (inl p) (inr q) = absurd (p.0 q.0)
  opened_once file x y (inr p) (inl q) = absurd (q.0 p.0)
  opened_once file x y (inr p) (inr q) = p.1 ∙ sym q.1

  in_once : (bytes : Option (List ℕ)) (x y : Option Function) → IsFunctionIn bytes address more x
      → IsFunctionIn bytes address more y → x ≡ y
  in_once None x y h k = h ∙ sym k
  in_once (Some bytes) x y h k =
      let same : h.0 ≡ k.0 = opened_once bytes h.0 k.0 h.1 k.1 in
      by_once k.0 x y (subst (λ (e : Option (List ℕ)). IsFunctionBy e address more x) same h.2) k.2

module _ (mappings : List Mapping) where
  at_once : (f : Frame) (place : Option CodePlace) (x y : Option Function) → IsFunctionAt mappings f place x
      → IsFunctionAt mappings f place y → x ≡ y
  at_once f None x y h k = h ∙ sym k
  at_once f (Some place) x y h k = in_once place.address (bytes_behind f) (bytes_of mappings place.file) x y h k

  named_once : (f : Frame) (x y : NativeFrame) → IsNamed mappings f x → IsNamed mappings f y → x ≡ y
  named_once f x y h k =
      ap (λ (g : Frame). record { frame = g; function = x.function }) (h.frame ∙ sym k.frame)
      ∙ ap (λ (o : Option Function). record { frame = y.frame; function = o })
      (at_once f f.place x.function y.function h.function k.function)

  frames_once : (fs : List Frame) (xs ys : List NativeFrame) → AreNamed mappings fs xs → AreNamed mappings fs ys
      → xs ≡ ys
  unfolding Each
  frames_once [] xs ys h k = h ∙ sym k
  frames_once (f ∷ fs) xs ys h k =
      h.2 ∙ ap (λ (n : NativeFrame). n ∷ h.1) (named_once f h.0 k.0 h.3 k.3)
      ∙ ap (λ (ns : List NativeFrame). k.0 ∷ ns) (frames_once fs h.1 k.1 h.4 k.4) ∙ sym k.2

-- ---- guesses

module _ (mappings : List Mapping) (machine : Machine) (m : Memory) where
  code_once : (word : ℕ) (x y : Bool) → IsInCode mappings word x → IsInCode mappings word y → x ≡ y
  code_once word x y p q = p.is ∙ ap is_site (spot_once mappings _ p.answer q.answer p.spot q.spot) ∙ sym q.is

  jump_of : (s : State) (top : ℕ) (word : Option ℕ) (x y : Option State) → IsJumpOf mappings machine s top word x
      → IsJumpOf mappings machine s top word y → x ≡ y
  jump_of s top None x y p q = p ∙ sym q
  jump_of s top (Some word) x y p q =
      p.is ∙ ap (λ (b : Bool). jump_if b (guessed_caller machine s top word))
      (code_once word p.is_code q.is_code p.in_code q.in_code) ∙ sym q.is

  jump_at : (s : State) (top : Option ℕ) (x y : Option State) → IsJumpAt mappings machine m s top x
      → IsJumpAt mappings machine m s top y → x ≡ y
  jump_at s None x y p q = p ∙ sym q
  jump_at s (Some top) x y p q = jump_of s top (return_word machine m s top) x y p q

  base_once : (uncovered : Bool) (s : State) (x y : Option Guess) → IsBaseGuess uncovered mappings machine m s x
      → IsBaseGuess uncovered mappings machine m s y → x ≡ y
  base_once false s x y p q = p ∙ sym q
  base_once true s x y p q = p.2 ∙ ap base_guess (based_once mappings m s machine p.0 q.0 p.1 q.1) ∙ sym q.2

  guess_if : (is_jump : Bool) (c : Chain) (x y : Option Guess) → IsGuessIf is_jump mappings machine m c x
      → IsGuessIf is_jump mappings machine m c y → x ≡ y
  guess_if true c x y p q =
      p.2 ∙ ap jump_guess (jump_at c.last (stack_top machine c.last) p.0 q.0 p.1 q.1) ∙ sym q.2
  guess_if false c x y p q = base_once (is_uncovered c.end) c.last x y p q

  unless_once : (strict : Bool) (c : Chain) (x y : Option Guess) → IsGuessUnless strict mappings machine m c x
      → IsGuessUnless strict mappings machine m c y → x ≡ y
  unless_once true c x y p q = p ∙ sym q
  unless_once false c x y p q = guess_if (jumped mappings c) c x y p q

-- ---- stacks

module _ (mappings : List Mapping) (m : Memory) (ascends : AllAscend mappings) where
  chain_once : (manner : Manner) (left : ℕ) (guess : Option Mark) (first : State) (c d : Chain) (x y : StackShown)
      → IsNamedStack mappings manner m left guess first c x → IsNamedStack mappings manner m left guess first d y → c ≡ d
  chain_once manner left guess first c d x y p q =
      stack_once (IsStep mappings manner m)
      (λ s t u h k. step_once mappings manner m s t u ascends h k) (limit_of left) first c d p.follows q.follows

  stack_is : (manner : Manner) (left : ℕ) (guess : Option Mark) (first : State) (c : Chain) (x y : StackShown)
      → IsNamedStack mappings manner m left guess first c x → IsNamedStack mappings manner m left guess first c y → x ≡ y
  stack_is manner left guess first c x y p q =
      ap (λ (fs : List NativeFrame). record { frames = fs; end = x.end; missing = x.missing; guess = x.guess })
      (frames_once mappings c.frames x.frames y.frames p.named q.named)
      ∙ ap (λ (e : End). record { frames = y.frames; end = e; missing = x.missing; guess = x.guess })
      (p.ends ∙ sym q.ends)
      ∙ ap (λ (o : Option ℕ). record { frames = y.frames; end = y.end; missing = o; guess = x.guess })
      (p.missing ∙ sym q.missing)
      ∙ ap (λ (o : Option Mark). record { frames = y.frames; end = y.end; missing = y.missing; guess = o })
      (p.guessed ∙ sym q.guessed)

  told_once : (manner : Manner) (left : ℕ) (guess : Option Mark) (first : State) (c d : Chain) (x y : StackShown)
      → IsNamedStack mappings manner m left guess first c x → IsNamedStack mappings manner m left guess first d y → x ≡ y
  told_once manner left guess first c d x y p q =
      let same = chain_once manner left guess first c d x y p q in
      stack_is manner left guess first d x y
      (subst (λ (e : Chain). IsNamedStack mappings manner m left guess first e x) same p) q

  guessed_once : (machine : Machine) (code_bits left : ℕ) (guess : Option Guess) (x y : Option StackShown)
      → IsGuessedStack mappings machine code_bits m left guess x → IsGuessedStack mappings machine code_bits m left guess y
      → x ≡ y
  guessed_once machine code_bits left None x y p q = p ∙ sym q
  guessed_once machine code_bits left (Some g) x y p q =
      p.2 ∙ ap (λ (s : StackShown). Some s) (told_once (manner_of machine code_bits true) left (Some g.mark) g.caller p.0
      q.0 p.1 q.1 p.3 q.3) ∙ sym q.2

  pub pair_once : (machine : Machine) (code_bits : ℕ) (strict : Bool) (left : ℕ) (first : State)
      (x y : StackShown × Option StackShown) → StackPair mappings machine code_bits m strict left first x
      → StackPair mappings machine code_bits m strict left first y → x ≡ y
  pair_once machine code_bits strict left first x y p q =
      let manner = manner_of machine code_bits false in
      let chain = chain_once manner left None first p.chain q.chain x.0 y.0 p.stack q.stack in
      let stack = told_once manner left None first p.chain q.chain x.0 y.0 p.stack q.stack in
      let guess = unless_once mappings machine m strict q.chain p.guess q.guess
      (subst (λ (c : Chain). IsGuessUnless strict mappings machine m c p.guess) chain p.guesses) q.guesses in
      let behind = subst (λ (c : Chain). IsGuessedStack mappings machine code_bits m (left - length c.frames) p.guess x.1)
      chain p.behind in
      let guessed = guessed_once machine code_bits (left - length q.chain.frames) q.guess x.1 y.1
      (subst (λ (g : Option Guess). IsGuessedStack mappings machine code_bits m (left - length q.chain.frames) g x.1) guess
      behind) q.behind in
      ap (λ (s : StackShown). (s, x.1)) stack ∙ ap (λ (o : Option StackShown). (y.0, o)) guessed

  pub parts_only : {E : Type 0} (machine : Machine) (code_bits : ℕ) (strict : Bool) (left : ℕ) (first : State)
      (r : Result StackParts E)
      → IfOk r (λ parts. StackPair mappings machine code_bits m strict left first (pair_of parts))
      → (other : StackShown × Option StackShown) → StackPair mappings machine code_bits m strict left first other
      → IfOk r (λ parts. pair_of parts ≡ other)
  parts_only machine code_bits strict left first (Ok parts) h other k =
      pair_once machine code_bits strict left first (pair_of parts) other h k
  parts_only machine code_bits strict left first (Err e) h other k = tt
