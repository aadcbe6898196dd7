-- The stacks of a program that stands in memory are those that it tells.
use Rattle.std.proofs.Common.{◌≡◌, ◌≢◌, ℕ, ◌%◌, List, refl, sym, ◌∙◌, subst, arith}
use Rattle.std.specs.Prelude.{Option, Some, None, Ok}
use Rattle.process_memory.specs.Memory.{Memory}
use Rattle.process_memory.proofs.Founds.{ok_same}
use Rattle.py_fields.specs.Sound.{IsSound}
use Rattle.py_fields.specs.declared.layout.GilAt.{GilAt}
use Rattle.py_fields.specs.declared.layout.Layout.{Layout}
use Rattle.py_stacks.specs.declared.config.Config.{Config}
use Rattle.py_stacks.specs.Asking.{asked_of}
use Rattle.py_stacks.specs.Holder.{holder_id_at}
use Rattle.py_stacks.specs.Lines.{family_of}
use Rattle.py_stacks.specs.StacksOver.{AreStacksOver}
use Rattle.py_stacks.specs.Threads.{Trace}
use Rattle.py_stacks.proofs.Holders.{holder_word}
use Rattle.py_stacks.proofs.OverLaws.{over_whole}
use Rattle.memory_builder.specs.Laid.{gil_place, laid_program, owner_id}
use Rattle.object_builder.specs.Placing.{Stands}
use Rattle.memory_builder.specs.Program.{Program}
use Rattle.memory_builder.specs.ReadBack.{NamesOwner, StandsAlone, TellsInterpreter, TellsOwner, TellsStacks}
use Rattle.object_builder.specs.Room.{HasRoom}
use Rattle.memory_builder.specs.Told.{program_told}
use Rattle.memory_builder.specs.Validity.{IsValidProgram}
use Rattle.memory_builder.proofs.Alone.{owner_alone}
use Rattle.memory_builder.proofs.OverBack.{over_back}
use Rattle.memory_builder.proofs.ProgramBack.{IsWhole, StandProgram, gil_back, gil_word, modules_word, owner_held}
use Rattle.memory_builder.proofs.ProgramBack.{program_is, stacks_held, stand_program}
use Rattle.memory_builder.proofs.Tellings.{program_shows}
use Rattle.memory_builder.proofs.Valid.{program_whole}

-- stacks that are right are the same
same_stacks : (c : Config) (l : Layout) (m : Memory) (lock a : ℕ) (one other : List Trace)
    → AreStacksOver c l m lock a one → AreStacksOver c l m lock a other → one ≡ other
same_stacks c l m lock a one other h g = ok_same one other (sym (over_whole c l m lock a one h)
    ∙ over_whole c l m lock a other g)

module _ (l : Layout) (sound : IsSound l) (room : HasRoom l) (a : ℕ) (some : a ≢ 0) (mul : a % 16 ≡ 0) (p : Program)
    (valid : IsValidProgram (family_of l.lines) p) where
  told_stacks : (m : Memory) → StandsAlone m a (laid_program l a p) → (c : Config) (lock holder_id : ℕ)
      → holder_id_at l m lock ≡ Ok holder_id
      → AreStacksOver c l m lock a (program_told c l a holder_id p)
  told_stacks m s c lock holder_id held =
      let is = program_whole l p valid in
      let st : StandProgram l sound m a p = stand_program l sound m a p s.stands in
      subst (λ ts. AreStacksOver c l m lock a ts) (program_shows l sound room m a p some mul is.threads st c holder_id)
      (over_back l sound m s.none a (modules_word l sound room m a p some mul is st) c lock holder_id p
      (stacks_held l sound room m a p some mul is st (asked_of c) lock holder_id held))

  pub tells_stacks : TellsStacks l a p (laid_program l a p)
  tells_stacks m s c lock holder_id held traces =
      let told = told_stacks m s c lock holder_id held in (
        λ h. same_stacks c l m lock a traces (program_told c l a holder_id p) h told,
        λ e. subst (λ ts. AreStacksOver c l m lock a ts) (sym e) told,
      )

  owner_held_by : (m : Memory) → Stands m a (laid_program l a p) → (lock : ℕ) → NamesOwner l.gil l m a lock p
      → holder_id_at l m lock ≡ Ok (owner_id p)
  owner_held_by m s lock names =
      let is = program_whole l p valid in
      let st : StandProgram l sound m a p = stand_program l sound m a p s in
      by is st l.gil refl names
    where
      by : (is : IsWhole l p) (st : StandProgram l sound m a p) (o : Option GilAt) → l.gil ≡ o
          → NamesOwner o l m a lock p → holder_id_at l m lock ≡ Ok (owner_id p)
      by is st None e names = owner_held l sound room m a p some mul is st lock names.0 (holder_word l m lock e
          ∙ names.1)
      by is st (Some g) e names =
          let place : gil_place l a ≢ 0 = omega arith in
          subst (λ n. holder_id_at l m n ≡ Ok (owner_id p)) (sym names)
          (owner_held l sound room m a p some mul is st (gil_place l a) place
          (gil_back l sound room m a p some mul is st g e))

  pub tells_owner : TellsOwner l a p (laid_program l a p)
  tells_owner = record { held = owner_held_by; alone = owner_alone (family_of l.lines) p valid }

  pub tells_interpreter : TellsInterpreter l a (laid_program l a p)
  tells_interpreter = record {
    passes = λ m s. program_is l sound room m a p some mul (program_whole l p valid) (stand_program l sound m a p s);
    lock = λ m s at e. gil_word l sound room m a p some mul (program_whole l p valid)
        (stand_program l sound m a p s) at e;
  }
