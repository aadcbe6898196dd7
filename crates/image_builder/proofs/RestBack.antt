-- What is kept of whole stacks has its locals, so that nothing else is needed for a report.
use Rattle.std.proofs.Common.{subst, ◌≡◌, ℕ, zero, suc, ◌+◌, ◌<◌, ◌≤◌, ◌^◌, Bool, true, false, cond, ltb, leb, List, []}
use Rattle.std.proofs.Common.{◌∷◌, map, refl, sym, ap, ◌∙◌, rules, arith, inl, inr}
use Rattle.std.specs.Int.{w32, cast_signed}
use Rattle.std.proofs.lemmas.Bool.{leb-true}
use Rattle.std.specs.Prelude.{Some, Option, Ok, Err, IsOk, IsOkAnd, ◌⊎◌}
use Rattle.elf64_core.specs.Fields.{u32_in}
use Rattle.process_memory.specs.Memory.{Memory, Found, record_at}
use Rattle.process_memory.specs.Memory.Fault.{BadValue, LocalsLimit}
use Rattle.process_memory.specs.Walk.{IsChain}
use Rattle.process_memory.proofs.Founds.{bound, ok_same}
use Rattle.py_fields.specs.declared.layout.Layout.{Layout}
use Rattle.py_stacks.specs.declared.asked.Asked.{Asked}
use Rattle.py_stacks.specs.declared.trace.LocalVariable.{LocalVariable}
use Rattle.py_stacks.specs.Detail.{Detail, detail_at}
use Rattle.py_stacks.specs.Frames.{Call, back_of, detailed, plain_by, records_at, shown_at}
use Rattle.py_stacks.specs.Lines.{line_at}
use Rattle.py_stacks.specs.Locals.{asked_locals, count_of, count_of_locals, local_at, locals_at, locals_from}
use Rattle.py_stacks.specs.Locals.{names_tuple_of}
use Rattle.py_stacks.specs.Member.{MemberAt}
use Rattle.py_stacks.specs.Threads.{AreTraces, AreTracesOf, IsTraceOf, Trace, first_frame_at, thread_after}
use Rattle.py_process.specs.Variables.{Follows, HasLocals, IsKeptMember}

pub is_ok : {T : Type 0} (d : Found T) (x : T) → d ≡ Ok x → IsOk d
is_ok d x e = rw e (search rules)

-- ---- members of a chain

abbrev IsIn : ℕ → List ℕ → Type 0
IsIn a [] = ⊥
IsIn a (x ∷ xs) = (a ≡ x) ⊎ IsIn a xs

ok_and : {T : Type 0} (d : Found T) (P : T → Type 0) (x : T) → d ≡ Ok x → IsOkAnd d P → P x
ok_and (Ok y) P x e h = subst P (ok_same y x e) h
ok_and (Err f) P x e h = absurd (cc)

-- what is reached from a chain's head is one of its members
follows_in : (next : ℕ → Found ℕ) → (head : ℕ) (members path : List ℕ) (a : ℕ) → IsChain next head members
    → Follows next head path a → IsIn a members
unfolding IsChain
follows_in next head [] [] a chain path = absurd (path.0 chain)
follows_in next head (x ∷ xs) [] a chain path = inl (sym path.1 ∙ sym chain.1)
follows_in next head [] (b ∷ rest) a chain path = absurd (path.0 chain)
follows_in next head (x ∷ xs) (b ∷ rest) a chain path =
    let after : IsChain next b xs =
    ok_and (next x) (λ n. IsChain next n xs) b (ap next chain.1 ∙ path.1) chain.2 in
    inr (follows_in next b xs rest a after path.2)

part_of : {T : Type 0} (read : ℕ → Found T) (members : List ℕ) (parts : List T) (a : ℕ)
    → map read members ≡ map Ok parts → IsIn a members → (p : T) × (read a ≡ Ok p)
part_of read [] parts a each is_in = absurd is_in
part_of read (x ∷ xs) [] a each is_in = absurd (cc)
part_of read (x ∷ xs) (p ∷ ps) a each (inl same) = (p, ap read same ∙ let here : read x ≡ Ok p = cc in here)
part_of read (x ∷ xs) (p ∷ ps) a each (inr is_in) =
    part_of read xs ps a (let rest : map read xs ≡ map Ok ps = cc in rest) is_in

trace_in : (q : Asked) (l : Layout) (m : Memory) (threads : List ℕ) (traces : List Trace) (a : ℕ)
    → AreTracesOf q l m threads traces → IsIn a threads → (t : Trace) × IsTraceOf q l m a t
trace_in q l m [] traces a each is_in = absurd is_in
trace_in q l m (x ∷ xs) [] a each is_in = absurd each
trace_in q l m (x ∷ xs) (t ∷ ts) a each (inl same) = (t, subst (λ y. IsTraceOf q l m y t) (sym same) each.0)
trace_in q l m (x ∷ xs) (t ∷ ts) a each (inr is_in) = trace_in q l m xs ts a each.1 is_in

-- ---- locals

module _ (l : Layout) (m : Memory) (r : MemberAt) where
  each_ok : (n index : ℕ) (ls : List LocalVariable) → locals_from l m r index n ≡ Ok ls → (k : ℕ) → index ≤ k
      → k < index + n → IsOk (local_at l m r k)
  unfolding locals_from
  each_ok zero index ls e k from below = absurd (omega arith)
  each_ok (suc n) index ls e k from below =
      let one = bound (local_at l m r index) _ ls e in
      let two = bound (locals_from l m r (index + 1) n) _ ls one.2 in
      elim (at_or_behind index k from) [
        | inl same ↦ is_ok (local_at l m r k) one.0 (ap (local_at l m r) same ∙ one.1)
        | inr behind ↦ each_ok n (index + 1) two.0 two.1 k (omega arith) (omega arith)
      ]
    where
      at_or_behind : (index k : ℕ) → index ≤ k → (k ≡ index) ⊎ (index + 1 ≤ k)
      at_or_behind index k le = grind (arith)

  few : (n : ℕ) → count_of l r ≡ Ok n → (u32_in r.code l.code.nlocals ≡ n) × (n ≤ 65535)
  unfolding count_of
  few n = by (u32_in r.code l.code.nlocals)
    where
      tested : (c : ℕ) (t : Bool) → leb c 65535 ≡ t → cond t (Ok c) (Err (LocalsLimit (cast_signed w32 c))) ≡ Ok n
          → (c ≡ n) × (n ≤ 65535)
      tested c true le e =
          let same : c ≡ n = ok_same c n e in
          (same, subst (λ x. x ≤ 65535) same (leb-true c 65535 le))
      tested c false le e = absurd (cc)

      by : (c : ℕ) → count_of_locals r.frame_at c ≡ Ok n → (c ≡ n) × (n ≤ 65535)
      by c = elim (ltb c (2 ^ 31)) as (λ t. cond t (cond (leb c 65535) (Ok c) (Err (LocalsLimit (cast_signed w32 c))))
          (Err (BadValue r.frame_at)) ≡ Ok n → (c ≡ n) × (n ≤ 65535)) [
            | true ↦ tested c (leb c 65535) refl
            | false ↦ λ e. absurd (cc)
          ]

  has_locals : (ls : List LocalVariable) → locals_at l m r ≡ Ok ls → HasLocals l m r
  unfolding locals_at
  has_locals ls e =
      let one = bound (count_of l r) _ ls e in
      let two = bound (record_at m (names_tuple_of l r) l.tuple.size) _ ls one.2 in
      let n = few one.0 one.1 in
      record {
        few = omega (arith, n.0, n.1);
        tuple = is_ok (record_at m (names_tuple_of l r) l.tuple.size) two.0 two.1;
        each = λ index below. each_ok one.0 0 ls two.2 index (omega arith) (omega (arith, n.0));
      }

module _ (q : Asked) (l : Layout) (m : Memory) (asked : q.locals ≡ true) where
  of_detail : (r : MemberAt) (d : Detail) → detail_at q l m r ≡ Ok d → HasLocals l m r
  unfolding detail_at
  of_detail r d e =
      let one = bound (line_at q.lineno l m r) _ d e in
      let two = bound (asked_locals q.locals l m r) _ d one.2 in
      let all : asked_locals true l m r ≡ Ok two.0 = ap (λ b. asked_locals b l m r) (sym asked) ∙ two.1 in
      let three = bound (locals_at l m r) _ two.0 all in
      has_locals l m r three.0 three.1

  of_member : (a : ℕ) (r : MemberAt) (c : Call) (p : Option Call) → records_at l m a ≡ Ok r → plain_by l m r ≡ Some c
      → shown_at q l m a ≡ Ok p → HasLocals l m r
  unfolding shown_at
  of_member a r c p read shows e =
      let one = bound (records_at l m a) (λ r. detailed q l m r (plain_by l m r)) p e in
      let same : one.0 ≡ r = ok_same one.0 r (sym one.1 ∙ read) in
      let here : detailed q l m r (Some c) ≡ Ok p = ap (detailed q l m r) (sym shows)
      ∙ subst (λ x. detailed q l m x (plain_by l m x) ≡ Ok p) same one.2 in
      let two = bound (detail_at q l m r) _ p here in
      of_detail r two.0 two.1

  -- each kept member of whole stacks has its locals
  pub kept_has_locals : (a : ℕ) (traces : List Trace) → AreTraces q l m a traces → (r : MemberAt)
      → IsKeptMember l m a r → HasLocals l m r
  kept_has_locals a traces are r kept =
      let head : are.head ≡ kept.head = ok_same are.head kept.head (sym are.names ∙ kept.names) in
      let chain : IsChain (thread_after l m) kept.head are.threads =
      subst (λ h. IsChain (thread_after l m) h are.threads) head are.chain in
      let t = trace_in q l m are.threads traces kept.thread_at are.each
      (follows_in (thread_after l m) kept.head are.threads kept.threads kept.thread_at chain kept.to_thread) in
      in_frames t.0 t.1
    where
      in_frames : (t : Trace) → IsTraceOf q l m kept.thread_at t → HasLocals l m r
      in_frames t is =
          let thread : is.thread ≡ kept.thread = ok_same is.thread kept.thread (sym is.read ∙ kept.read_thread) in
          let first : is.first ≡ kept.first = ok_same is.first kept.first
          (sym is.names ∙ ap (first_frame_at l m) thread ∙ kept.names_first) in
          let f = is.frames in
          let chain : IsChain (back_of l m) kept.first f.members =
          subst (λ h. IsChain (back_of l m) h f.members) first f.chain in
          let p = part_of (shown_at q l m) f.members f.parts kept.member f.each
          (follows_in (back_of l m) kept.first f.members kept.members kept.member chain kept.to_member) in
          of_member kept.member r kept.call p.0 kept.read kept.shows p.1
