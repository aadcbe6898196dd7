-- The words of the bss lead to the interpreter and to the lock, and the image's number to the version.
use Rattle.std.proofs.Common.{◌≡◌, ℕ, ◌+◌, ◌-◌, ◌<◌, ◌^◌, cond, List, [], ◌∷◌, map, take, refl, sym, ap, ap₂, ◌∙◌}
use Rattle.std.proofs.Common.{arith, rules, subst}
use Rattle.std.specs.Prelude.{Some, None, Option, Ok, Err, IsSome, slice_get}
use Rattle.std.specs.Option.{unwrap_or}
use Rattle.std.specs.Int.{w32, to_le_bytes}
use Rattle.std.proofs.lemmas.Bool.{lt-ltb}
use Rattle.std.proofs.lemmas.Nat.{from_le_bytes-to_le_bytes_4}
use Rattle.elf64_core.specs.Fields.{u64_in}
use Rattle.elf64_core.specs.declared.header.Machine.{Machine}
use Rattle.process_memory.specs.Memory.{Memory, Found, record_at, word_at}
use Rattle.process_memory.specs.Memory.Fault.{Missing}
use Rattle.py_fields.specs.Offsets.{tstate_current_offset}
use Rattle.py_fields.specs.declared.version.Version.{Version}
use Rattle.py_fields.specs.Places.{IsGroup, offsets_places}
use Rattle.py_fields.specs.Sound.{IsSound, IsRecord}
use Rattle.py_fields.proofs.Fields.{some_is}
use Rattle.py_fields.specs.declared.layout.Head.{Head}
use Rattle.py_fields.specs.declared.layout.Head.TheVariants.{Symbol, Runtime, Offsets}
use Rattle.py_fields.specs.declared.layout.Lock.{Lock}
use Rattle.py_fields.specs.declared.layout.Lock.TheVariants.{Symbol as SymbolLock, Runtime as RuntimeLock, Gil}
use Rattle.py_fields.specs.declared.layout.OffsetsAt.{OffsetsAt}
use Rattle.py_fields.specs.declared.layout.Layout.{Layout}
use Rattle.py_process.specs.Candidates.{candidate_of, head_by, head_by_offsets, head_where}
use Rattle.py_process.specs.Lock.{in_runtime, lock_address_of, lock_by, lock_found, lock_word}
use Rattle.py_process.specs.Sources.{FirstTells, sources_of, version_of_number}
use Rattle.object_builder.specs.Objects.{Write, object, optional_write, write_place}
use Rattle.object_builder.specs.Objects.Value.{U64}
use Rattle.object_builder.specs.Placing.{Stands}
use Rattle.object_builder.proofs.Objects.{length-object, u64_read}
use Rattle.object_builder.proofs.Placing.{record_stands_first, word_stands}
use Rattle.memory_builder.specs.Laid.{gil_place}
use Rattle.image_builder.specs.Built.{built_lock, runtime_lock}
use Rattle.image_builder.specs.Built as built
use Rattle.image_builder.specs.ImageFacts.{image_known}
use Rattle.image_builder.specs.RuntimeWords.{HasWordRoom, head_field, head_place, interpreter_at, lock_word_place}
use Rattle.image_builder.specs.RuntimeWords.{runtime_words, words_writes}
use Rattle.image_builder.proofs.RuntimeWords.{AllIn, current_in, words_group}

some_of : {T : Type 0} (o : Option T) → IsSome o → (x : T) × (o ≡ Some x)
some_of None e = absurd (search rules)
some_of (Some x) e = (x, refl)

module _ (l : Layout) (sound : IsSound l) (m : Memory) (v : Version) (machine : Machine) (holder : ℕ)
    (room : HasWordRoom l machine v) (s : Stands m 0x50_0000 (runtime_words l machine v holder)) where
  abbrev ws : List Write
  ws = words_writes l machine v holder

  group : IsGroup 0x2_0000 (map write_place ws)
  group = words_group l machine v holder sound room

  stand : Stands m 0x50_0000 (object 0x2_0000 ws)
  unfolding runtime_words
  stand = s

  word_here : (i at n : ℕ) → slice_get ws i ≡ Some (record { at = at; value = U64 n }) → n < 2 ^ 64
      → word_at m (0x50_0000 + at) ≡ Ok n
  word_here i at n e fits = word_stands 0x2_0000 ws i at n group e fits stand

  head_word : word_at m (0x50_0000 + head_place l.head v) ≡ Ok interpreter_at
  head_word = word_here 0 (head_place l.head v) interpreter_at refl (omega arith)

  head_at : (h : Head) → l.head ≡ h → word_at m (0x50_0000 + head_place h v) ≡ Ok interpreter_at
  head_at h e = subst (λ h. word_at m (0x50_0000 + head_place h v) ≡ Ok interpreter_at) e head_word

  offsets_head : (o : OffsetsAt) → l.head ≡ Offsets → l.offsets ≡ Some o
      → head_by_offsets o m 0x50_0000 ≡ Ok interpreter_at
  unfolding head_by_offsets offsets_places
  offsets_head o h e =
      let r = some_is l.offsets (λ (o : OffsetsAt). IsRecord o.size (offsets_places o)) o sound.groups.offsets e in
      let short = r.short in
      let object_is = object 0x2_0000 ws in
      let field = ap (λ x. Some (optional_write x (U64 0x1_0000))) (ap₂ head_field h e) in
      let read : record_at m 0x50_0000 o.size ≡ Ok (take o.size object_is) =
      record_stands_first o.size stand (omega (arith, length-object 0x2_0000 ws group)) in
      let first : u64_in (take o.size object_is) o.head ≡ 0x1_0000 =
      u64_read 0x2_0000 ws group o.size (omega arith) 1 o.head 0x1_0000 field (omega arith) r.group.inside.0 in
      let second : word_at m (0x50_0000 + 0x1_0000) ≡ Ok interpreter_at = head_at Offsets h in
      rw (read, first) second

  pub head_back : head_by l.head image_known v l m ≡ interpreter_at ∷ []
  head_back = by l.head refl
    where
      by : (h : Head) → l.head ≡ h → head_by h image_known v l m ≡ interpreter_at ∷ []
      by Symbol e = ap candidate_of (head_at Symbol e)
      by Runtime e = ap candidate_of (head_at Runtime e)
      by Offsets e =
          let o = some_of l.offsets (sound.has_groups.offsets.1 e) in
          ap (λ x. head_where x (Some 0x50_0000) m) o.1 ∙ ap candidate_of (offsets_head o.0 e o.1)

  -- ---- the lock

  pub lock_word_back : (at : ℕ) → lock_word_place l.lock machine v ≡ Some at → holder < 2 ^ 64
      → word_at m (0x50_0000 + at) ≡ Ok holder
  lock_word_back at e fits = word_here 2 at holder (ap (λ o. Some (optional_write o (U64 holder))) e) fits

  pub lock_back : ((at : ℕ) → l.interpreter.gil ≡ Some at →
      word_at m (interpreter_at + at) ≡ Ok (gil_place l interpreter_at))
      → lock_address_of machine image_known v l m interpreter_at ≡ Ok (built_lock l v machine)
  unfolding lock_address_of lock_found
  lock_back gil_word = by l.lock refl
    where
      in_record : (o : Option ℕ) → AllIn o → unwrap_or (in_runtime (Some 0x50_0000) o) (Ok 0) ≡ Ok (runtime_lock o)
      in_record None h = refl
      in_record (Some at) h = ap (λ t. cond {A = Found ℕ} t (Ok (0x50_0000 + at)) (Err (Missing (2 ^ 64 - 1) 8)))
          (lt-ltb (0x50_0000 + at) (2 ^ 64) (omega (arith, h.1)))

      by : (k : Lock) → l.lock ≡ k → unwrap_or (lock_by k machine image_known v l m interpreter_at) (Ok 0)
          ≡ Ok (built.lock_by k l v machine)
      by SymbolLock e = refl
      by RuntimeLock e = in_record (tstate_current_offset machine v) (current_in machine v)
      by Gil e =
          let at = some_of l.interpreter.gil (sound.interpreter.has_gil.1 e) in
          ap (λ o. unwrap_or (lock_word m interpreter_at o) (Ok 0)) at.1 ∙ gil_word at.0 at.1

-- ---- the version

-- the number at `Py_Version` tells the version
pub version_back : (m : Memory) (number : ℕ) → number < 2 ^ 32 → Stands m 0x40_1000 (to_le_bytes w32 number)
    → FirstTells m (sources_of image_known) (Ok (Some (version_of_number number)))
unfolding sources_of FirstTells
version_back m number fits s =
    let read : record_at m 0x40_1000 4 ≡ Ok (to_le_bytes w32 number) = record_stands_first 4 s (omega arith) ∙ refl in (
      Ok (Some (version_of_number number)),
      sym (rw read (ap (λ n. Ok (Some (version_of_number n)))
          (from_le_bytes-to_le_bytes_4 number fits))),
      refl,
    )
