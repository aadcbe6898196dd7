-- The lock of a built core names the owner's thread.
use Rattle.std.proofs.Common.{◌≡◌, ◌≢◌, ℕ, ◌+◌, ◌<◌, ◌^◌, refl, sym, ap, ◌∙◌, arith, rules, subst}
use Rattle.std.specs.Prelude.{Some, None, Option, Ok, IsSome, map}
use Rattle.elf64_core.specs.declared.header.Machine.{Machine}
use Rattle.process_memory.specs.Memory.{Memory, word_at}
use Rattle.py_fields.specs.Offsets.{tstate_current_offset}
use Rattle.py_fields.specs.declared.version.Version.{Version}
use Rattle.py_fields.specs.Sound.{IsSound}
use Rattle.py_fields.specs.declared.layout.Lock.{Lock}
use Rattle.py_fields.specs.declared.layout.Lock.TheVariants.{Symbol, Runtime, Gil}
use Rattle.py_fields.specs.declared.layout.Layout.{Layout}
use Rattle.py_stacks.specs.Holder.{holder_id_at}
use Rattle.object_builder.specs.Placing.{Stands}
use Rattle.memory_builder.specs.Laid.{gil_place, laid_program, owner_id, owner_place, place_or_none}
use Rattle.memory_builder.specs.Program.{Program, Thread}
use Rattle.memory_builder.specs.ReadBack.{NamesOwner, TellsOwner}
use Rattle.image_builder.specs.Built.{built_lock, lock_by, runtime_lock}
use Rattle.image_builder.specs.Covered.{IsCovered}
use Rattle.image_builder.specs.RuntimeWords.{HasWordRoom, interpreter_at, lock_word_place, runtime_words}
use Rattle.image_builder.proofs.WordsBack.{lock_word_back}

some_of : {T : Type 0} (o : Option T) → IsSome o → (x : T) × (o ≡ Some x)
some_of None e = absurd (search rules)
some_of (Some x) e = (x, refl)

none_of : {T : Type 0} (o : Option T) → (IsSome o → ⊥) → o ≡ None
none_of None e = refl
none_of (Some x) e = absurd (e (search rules))

module _ (l : Layout) (sound : IsSound l) (m : Memory) (v : Version) (machine : Machine) (p : Program)
    (covered : IsCovered l v machine p.owner) (room : HasWordRoom l machine v)
    (words : Stands m 0x50_0000 (runtime_words l machine v (owner_place l interpreter_at p)))
    (owner_fits : owner_place l interpreter_at p < 2 ^ 64)
    (objects : Stands m interpreter_at (laid_program l interpreter_at p))
    (tells : TellsOwner l interpreter_at p (laid_program l interpreter_at p)) where
  abbrev Names : ℕ → Type 0
  Names lock = holder_id_at l m lock ≡ Ok (owner_id p)

  -- by a word, where the lock has no record of its own
  by_word : (lock : ℕ) → lock ≢ 0 → (l.lock ≡ Gil → ⊥) → word_at m lock ≡ Ok (owner_place l interpreter_at p)
      → Names lock
  by_word lock some no_gil word =
      let none = none_of l.gil (λ h. no_gil (sound.has_groups.gil.0 h)) in
      tells.held m objects lock (subst (λ o. NamesOwner o l m interpreter_at lock p) (sym none) (some, word))

  by_runtime : (o : Option ℕ) → l.lock ≡ Runtime → tstate_current_offset machine v ≡ o → Names (runtime_lock o)
  unfolding holder_id_at
  by_runtime (Some at) e offset =
      by_word (0x50_0000 + at) (omega arith) (λ g. let other : Runtime ≡ Gil = sym e ∙ g in
      cc) (lock_word_back l sound m v machine (owner_place l interpreter_at p) room words at
      (ap (λ k. lock_word_place k machine v) e ∙ offset) owner_fits)
  by_runtime None e offset =
      let unowned = none_of p.owner (λ h. let s = some_of _ (covered.lock h e) in let both : None ≡ Some s.0 =
      sym offset ∙ s.1 in cc) in
      ap (λ o. Ok (place_or_none (map (λ (t : Thread). t.id) p.threads) o)) (sym unowned)

  pub lock_names : Names (built_lock l v machine)
  lock_names = by l.lock refl
    where
      by : (k : Lock) → l.lock ≡ k → Names (lock_by k l v machine)
      by Symbol e = by_word 0x51_0008 (omega arith) (λ g. let other : Symbol ≡ Gil = sym e ∙ g in
          cc) (lock_word_back l sound m v machine (owner_place l interpreter_at p) room words 0x1_0008
          (ap (λ k. lock_word_place k machine v) e) owner_fits)
      by Runtime e = by_runtime (tstate_current_offset machine v) e refl
      by Gil e =
          let g = some_of l.gil (sound.has_groups.gil.1 e) in
          tells.held m objects (gil_place l interpreter_at) (subst
          (λ o. NamesOwner o l m interpreter_at (gil_place l interpreter_at) p) (sym g.1) refl)
