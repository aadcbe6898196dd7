-- The interpreter of a built core is the first candidate that passes the test.
use Rattle.std.proofs.Common.{◌≡◌, ◌≢◌, ℕ, ◌+◌, ◌≤◌, ◌<◌, Bool, true, false, ltb, leb, List, [], ◌∷◌, ◌++◌, refl, ap}
use Rattle.std.proofs.Common.{arith}
use Rattle.std.specs.Prelude.{IsTrue, ◌||◌}
use Rattle.std.specs.List.{sum_by}
use Rattle.std.proofs.lemmas.Bool.{lt-ltb, le-leb}
use Rattle.std.proofs.lemmas.List.Elements.{All-nil}
use Rattle.std.proofs.lemmas.List.Sums.{sum_by-cons}
use Rattle.process_memory.specs.Memory.{Memory}
use Rattle.image_memory.specs.Maps.{in_maps}
use Rattle.py_fields.specs.declared.version.Version.{Version}
use Rattle.py_fields.specs.Sound.{IsSound}
use Rattle.py_fields.specs.declared.layout.Layout.{Layout}
use Rattle.py_stacks.specs.Interpreter.{IsInterpreter}
use Rattle.py_stacks.specs.Lines.{family_of}
use Rattle.py_process.specs.Candidates.{IsFirstOf, IsInterpreterIn, candidates_of, head_by, words_of_images}
use Rattle.object_builder.specs.Placing.{Stands}
use Rattle.object_builder.specs.Room.{HasRoom}
use Rattle.memory_builder.specs.Chains.{head_of}
use Rattle.memory_builder.specs.Laid.{first_place, laid_program}
use Rattle.memory_builder.specs.Program.{Program, Thread}
use Rattle.memory_builder.specs.Sizes.{program_size, shared_size, thread_size}
use Rattle.memory_builder.specs.Validity.{IsValidProgram}
use Rattle.memory_builder.proofs.ProgramBack.{head_word, stand_program}
use Rattle.memory_builder.proofs.Valid.{program_whole}
use Rattle.image_builder.specs.CoreFacts.{built_maps}
use Rattle.image_builder.specs.ImageFacts.{image_known}
use Rattle.image_builder.specs.RuntimeWords.{interpreter_at}

-- the objects' map holds their addresses
lies : (n a : ℕ) → 0x60_0000 ≤ a → a < 0x60_0000 + n → IsTrue (in_maps (built_maps n) a)
lies n a from below = in_third a (le-leb 0x60_0000 a from) (lt-ltb a (0x60_0000 + n) below)
  where
    or_true : (p q : Bool) → (p || (q || (true || false))) ≡ true
    or_true true q = refl
    or_true false true = refl
    or_true false false = refl

    in_third : (a : ℕ) → leb 0x60_0000 a ≡ true → ltb a (0x60_0000 + n) ≡ true → in_maps (built_maps n) a ≡ true
    in_third a e f = rw (e, f) (or_true _ _)

module _ (l : Layout) (sound : IsSound l) (room : HasRoom l) (m : Memory) (p : Program)
    (valid : IsValidProgram (family_of l.lines) p) (n : ℕ) (size : n ≡ program_size l p)
    (st : Stands m interpreter_at (laid_program l interpreter_at p)) (passes : IsInterpreter l m interpreter_at) where
  abbrev first : ℕ
  first = first_place l interpreter_at

  -- the first thread begins inside of the objects
  inside : (ts : List Thread) → ts ≢ [] → n ≡ shared_size l + sum_by (thread_size l) ts
      → IsTrue (in_maps (built_maps n) (head_of first ts))
  unfolding shared_size thread_size
  inside [] some is = absurd (some refl)
  inside (t ∷ ts) some is = lies n first (omega arith) (omega (
    arith,
    is,
    sum_by-cons (thread_size l) t ts,
    sound.thread.positive,
  ))

  program_is_size : n ≡ shared_size l + sum_by (thread_size l) p.threads
  unfolding program_size
  program_is_size = size

  begins : n ≡ shared_size l + sum_by (thread_size l) p.threads → 0 < n
  unfolding shared_size
  begins is = omega (arith, is)

  is_interpreter : IsInterpreterIn (in_maps (built_maps n)) l m interpreter_at
  is_interpreter =
      let whole = program_whole l p valid in
      record {
        lies = lies n interpreter_at (omega arith) (omega (arith, begins program_is_size));
        head = head_of first p.threads;
        names = head_word l sound room m interpreter_at p (omega arith) refl whole
            (stand_program l sound m interpreter_at p st);
        head_lies = inside p.threads whole.some program_is_size;
        is = passes;
      }

  pub is_first : (v : Version) → head_by l.head image_known v l m ≡ interpreter_at ∷ []
      → IsFirstOf (in_maps (built_maps n)) l m (candidates_of image_known v l m) interpreter_at
  unfolding candidates_of
  is_first v head = record {
    before = [];
    after = words_of_images m image_known;
    parts = ap (λ hs. hs ++ words_of_images m image_known) head;
    is = is_interpreter;
    none_before = All-nil _;
  }
