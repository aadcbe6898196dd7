-- The stacks of a program that stands in memory, as a `Config` asks for them.
use Rattle.std.proofs.Common.{◌≡◌, ℕ, ◌+◌, List, [], ◌∷◌, map, refl, sym, ap, ap₂, arith}
use Rattle.std.specs.Prelude.{Some, None, Option, Ok, Err}
use Rattle.process_memory.specs.Memory.{Memory, Fault, record_at, word_at}
use Rattle.process_memory.specs.Memory.Fault.{Missing, BadDict}
use Rattle.process_memory.proofs.Records.{record_lack}
use Rattle.py_fields.specs.Places.{dict_places}
use Rattle.py_fields.specs.Sound.{IsSound, IsRecord}
use Rattle.py_fields.proofs.Fields.{some_is}
use Rattle.py_fields.specs.declared.layout.DictAt.{DictAt}
use Rattle.py_fields.specs.declared.layout.Dicts.{Dicts}
use Rattle.py_fields.specs.declared.layout.Dicts.TheVariants.{Absent, General, Compact}
use Rattle.py_fields.specs.declared.layout.Layout.{Layout}
use Rattle.py_builtins.specs.Dicts.{dict_by, dict_slots}
use Rattle.py_names.specs.Names.{interpreter_names_at, names_at, names_by}
use Rattle.py_stacks.specs.declared.asked.Asked.{Asked}
use Rattle.py_stacks.specs.declared.config.Config.{Config}
use Rattle.py_stacks.specs.Asking.{asked_of}
use Rattle.py_stacks.specs.NamedStacks.{by_name, name_by}
use Rattle.py_stacks.specs.Stacks.{AreStacks, by_holder}
use Rattle.py_stacks.specs.StacksOver.{AreStacksOver}
use Rattle.py_stacks.specs.Values.{by_value, value_text, value_width}
use Rattle.memory_builder.specs.Program.{Program, Thread}
use Rattle.memory_builder.specs.Laid.{first_place}
use Rattle.memory_builder.specs.Sizes.{thread_size}
use Rattle.memory_builder.proofs.Plain.{stacks_for, trace_for, traces_for}

-- ---- no thread has a name

module _ (l : Layout) (sound : IsSound l) (m : Memory) (none : m 0 ≡ None) where
  dict_none : (o : Option DictAt) → l.dict ≡ o → (e : Fault) × (dict_by l m 0 o ≡ Err e)
  dict_none None e = (BadDict, refl)
  dict_none (Some at) e =
      let r = some_is l.dict (λ (x : DictAt). IsRecord x.size (dict_places x)) at sound.groups.dict e in
      let missing : record_at m 0 at.size ≡ Err (Missing 0 at.size) =
      record_lack m 0 at.size 0 (omega arith) r.positive none in
      (Missing 0 at.size, rw missing refl)

  no_dict : (e : Fault) × (dict_slots l m 0 ≡ Err e)
  unfolding dict_slots
  no_dict = dict_none l.dict refl

  names_lost : (a : ℕ) → word_at m (a + l.interpreter.modules) ≡ Ok 0 → (id : ℕ)
      → name_by (interpreter_names_at l m a) id ≡ None
  unfolding interpreter_names_at
  names_lost a word id = rw (word, no_dict.1) refl

  pub names_none : (a : ℕ) → word_at m (a + l.interpreter.modules) ≡ Ok 0 → (id : ℕ)
      → name_by (names_at l m a) id ≡ None
  unfolding names_at
  names_none a word id = by l.dicts
    where
      lost : name_by (interpreter_names_at l m a) id ≡ None
      lost = names_lost a word id

      by : (d : Dicts) → name_by (names_by d (interpreter_names_at l m a)) id ≡ None
      by Absent = refl
      by General = lost
      by Compact = lost

unnamed : (names : ℕ → Option (List ℕ)) → ((id : ℕ) → names id ≡ None)
    → (l : Layout) (q : Asked) (owner a : ℕ) (ts : List Thread)
    → map (by_name names) (map (by_holder owner) (traces_for q l a ts)) ≡ map (by_holder owner) (traces_for q l a ts)
unnamed names none l q owner a [] = refl
unnamed names none l q owner a (t ∷ ts) = ap₂ (λ n rest. by_holder owner (record (trace_for q l a t) {
  thread_name =
      n;
}) ∷ rest) (none t.id) (unnamed names none l q owner (a + thread_size l t) ts)

-- ---- the stacks

module _ (l : Layout) (sound : IsSound l) (m : Memory) (none : m 0 ≡ None) (a : ℕ)
    (word : word_at m (a + l.interpreter.modules) ≡ Ok 0) where
  pub over_back : (c : Config) (lock owner : ℕ) (p : Program)
      → AreStacks (asked_of c) l m lock a (stacks_for (asked_of c) l a owner p)
      → AreStacksOver c l m lock a (map (by_value (value_text l m (value_width c.dump_locals)))
      (stacks_for (asked_of c) l a owner p))
  over_back c lock owner p h = record {
    walked = stacks_for (asked_of c) l a owner p;
    stacks = h;
    tells = ap (map (by_value (value_text l m (value_width c.dump_locals))))
        (sym (unnamed (name_by (names_at l m a)) (names_none l sound m none a word) l (asked_of c) owner
        (first_place l a) p.threads));
  }
