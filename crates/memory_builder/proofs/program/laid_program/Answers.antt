use Rattle.std.proofs.Common.{◌≡◌, ◌∙◌, ◌+◌, ◌++◌, [], List, ℕ, length, map, ap, ap₂, subst, sym, arith}
use Rattle.std.specs.Prelude.{Ok}
use Rattle.std.specs.List.{AllByRecursion, sum_by}
use Rattle.py_stacks.specs.Lines.{family_of}
use Rattle.memory_builder.specs.declared.parts.ProgramThread.{ProgramThread}
use Rattle.memory_builder.specs.Chains.{addresses_from, head_of}
use Rattle.memory_builder.specs.Laid.{first_place, gil_place, interpreter_object, interpreter_writes, laid_gil}
use Rattle.memory_builder.specs.Laid.{laid_program, owner_place, place_or_none, three_types, types_at, types_place}
use Rattle.memory_builder.specs.Mirror.{program_in, program_thread}
use Rattle.object_builder.specs.Objects.{aligned, object}
use Rattle.memory_builder.specs.Program.{Thread}
use Rattle.memory_builder.specs.ReadBack.{TellsInterpreter, TellsOwner, TellsStacks}
use Rattle.memory_builder.proofs.ProgramBack.{length-program}
use Rattle.memory_builder.proofs.Inverse.{tells_interpreter, tells_owner, tells_stacks}
use Rattle.memory_builder.specs.Sizes.{interpreter_len, rounded, thread_size}
use Rattle.memory_builder.specs.Threads.{laid_threads}
use Rattle.memory_builder.specs.Validity.{IsValidFrame}
use Rattle.memory_builder.proofs.Adding.{four_added}
use Rattle.memory_builder.proofs.Programs.{frames_valid, owner_valid, threads_fit}
use Rattle.memory_builder.proofs.program.laid_program.Goals as goal

pub types_at-types-requires-clause-fits : goal.types_at-types-requires-clause-fits
types_at-types-requires-clause-fits c =
    let len_is = c.rounded.ensures.value ∙ ap rounded c.interpreter_len.ensures.value in
    omega (
      arith,
      len_is,
      c.gil_size.ensures.value,
      threads_fit c.args.layout.now c.args.at
          (program_in c.args.program.now) c.requires.fits,
    )

pub owner_place-requires-clause-valid : goal.owner_place-requires-clause-valid
owner_place-requires-clause-valid c = frames_valid (family_of c.args.layout.now.lines)
    (program_in c.args.program.now) c.requires.valid

pub owner_place-requires-clause-owner : goal.owner_place-requires-clause-owner
owner_place-requires-clause-owner c = owner_valid (family_of c.args.layout.now.lines)
    (program_in c.args.program.now) c.requires.valid

pub owner_place-requires-clause-fits : goal.owner_place-requires-clause-fits
owner_place-requires-clause-fits c =
    let l = c.args.layout.now in
    let len_is = c.rounded.ensures.value ∙ ap rounded c.interpreter_len.ensures.value in
    let list_is = ap (λ t. t.list) c.types_at-types.ensures in
    omega (
      arith,
      len_is,
      c.gil_size.ensures.value,
      list_is,
      c.type_size.ensures.value,
      threads_fit l c.args.at (program_in c.args.program.now) c.requires.fits,
    )

pub add_types-requires-clause-integer : goal.add_types-requires-clause-integer
add_types-requires-clause-integer c =
    let len_is = c.rounded.ensures.value ∙ ap rounded c.interpreter_len.ensures.value in
    omega (
      arith,
      len_is,
      c.gil_size.ensures.value,
      ap (λ t. t.integer) c.types_at-types.ensures,
      threads_fit c.args.layout.now c.args.at (program_in c.args.program.now) c.requires.fits,
    )

pub add_types-requires-clause-text : goal.add_types-requires-clause-text
add_types-requires-clause-text c =
    let len_is = c.rounded.ensures.value ∙ ap rounded c.interpreter_len.ensures.value in
    omega (
      arith,
      len_is,
      c.gil_size.ensures.value,
      ap (λ t. t.text) c.types_at-types.ensures,
      threads_fit c.args.layout.now c.args.at (program_in c.args.program.now) c.requires.fits,
    )

pub add_types-requires-clause-list : goal.add_types-requires-clause-list
add_types-requires-clause-list c =
    let len_is = c.rounded.ensures.value ∙ ap rounded c.interpreter_len.ensures.value in
    omega (
      arith,
      len_is,
      c.gil_size.ensures.value,
      ap (λ t. t.list) c.types_at-types.ensures,
      threads_fit c.args.layout.now c.args.at (program_in c.args.program.now) c.requires.fits,
    )

pub add_threads-requires-clause-valid : goal.add_threads-requires-clause-valid
add_threads-requires-clause-valid c =
    subst (λ (xs : List ProgramThread). AllByRecursion (λ (t : Thread). AllByRecursion
    (IsValidFrame (family_of c.args.layout.now.lines)) t.frames) (map program_thread xs))
    (sym c.deref-2.ensures.value)
    (frames_valid (family_of c.args.layout.now.lines) (program_in c.args.program.now) c.requires.valid)

pub add_threads-requires-clause-fits : goal.add_threads-requires-clause-fits
add_threads-requires-clause-fits c =
    let l = c.args.layout.now in
    let len_is = c.rounded.ensures.value ∙ ap rounded c.interpreter_len.ensures.value in
    let list_is = ap (λ t. t.list) c.types_at-types.ensures in
    let sum_is = ap (λ xs. sum_by (thread_size l) (map program_thread xs)) c.deref-2.ensures.value in
    omega (
      arith,
      len_is,
      c.gil_size.ensures.value,
      list_is,
      sum_is,
      c.type_size.ensures.value,
      threads_fit l c.args.at (program_in c.args.program.now) c.requires.fits,
    )

pub returns-clause-laid : goal.returns-clause-laid
unfolding laid_program
returns-clause-laid c =
    let l = c.args.layout.now in
    let p = program_in c.args.program.now in
    let a = c.args.at in
    let gil_is : a + c.rounded.result ≡ gil_place l a = ap (λ n. a + n) (c.rounded.ensures.value
    ∙ ap rounded c.interpreter_len.ensures.value) in
    let place_is : a + c.rounded.result + c.gil_size.result ≡ types_place l a =
    ap₂ (λ n k. n + k) gil_is c.gil_size.ensures.value in
    let types_are : c.types_at-types.result ≡ types_at l (types_place l a) = c.types_at-types.ensures
    ∙ ap (types_at l) place_is in
    let first_is : c.types_at-types.result.list + c.type_size.result ≡ first_place l a =
    ap₂ (λ n k. n + k) (ap (λ t. t.list) types_are) c.type_size.ensures.value in
    let head_is : c.threads_head-head.result ≡ head_of (first_place l a) p.threads = c.threads_head-head.ensures
    ∙ ap₂ (λ n xs. head_of n (map program_thread xs)) first_is c.deref.ensures.value in
    let holder_is : c.in_ok-holder.holder ≡ owner_place l a p = c.in_ok-holder.ensures
    ∙ ap (λ n. place_or_none (addresses_from (thread_size l) n p.threads) p.owner) first_is in
    let one : c.add_interpreter.new.out.items ≡ [] ++ aligned (interpreter_object l a p) =
    c.in_ok-add_interpreter.ensures ∙ ap (λ ys. ys ++ aligned
    (object (interpreter_len l) (interpreter_writes l c.threads_head-head.result (a + c.rounded.result))))
    c.new-out.ensures.items
    ∙ ap₂ (λ n k. [] ++ aligned (object (interpreter_len l) (interpreter_writes l n k))) head_is gil_is in
    four_added {T = ℕ} {E = ℕ} (Ok 0) c.add_threads.new.out.items
    [] c.add_interpreter.new.out.items c.add_gil.new.out.items c.add_types.new.out.items
    (aligned (interpreter_object l a p)) (laid_gil l.gil (owner_place l a p))
    (three_types l (types_at l (types_place l a))) (laid_threads l (types_at l (types_place l a)) a
    (first_place l a) p.threads)
    one
    (c.in_ok-add_gil.ensures ∙ ap (λ n. c.add_interpreter.new.out.items ++ laid_gil l.gil n) holder_is)
    (c.in_ok-add_types.ensures ∙ ap (λ t. c.add_gil.new.out.items ++ three_types l t) types_are)
    (c.in_ok-add_threads.ensures ∙ ap₂ (λ t n. c.add_types.new.out.items
    ++ laid_threads l t a n (map program_thread c.deref-2.result.now)) types_are first_is
    ∙ ap (λ xs. c.add_types.new.out.items ++ laid_threads l (types_at l (types_place l a)) a (first_place l a)
    (map program_thread xs)) c.deref-2.ensures.value)

pub returns-clause-size : goal.returns-clause-size
returns-clause-size c =
    let p = program_in c.args.program.now in
    ap (λ bs. length bs) (returns-clause-laid c) ∙ length-program c.args.layout.now c.requires.sound c.args.at p

pub returns-clause-stacks : goal.returns-clause-stacks
returns-clause-stacks c room place =
    let l = c.args.layout.now in
    let p = program_in c.args.program.now in
    subst (λ (bs : List ℕ). TellsStacks l c.args.at p bs) (sym (returns-clause-laid c))
    (tells_stacks l c.requires.sound room c.args.at place.some place.even p c.requires.valid)

pub returns-clause-owner : goal.returns-clause-owner
returns-clause-owner c room place =
    let l = c.args.layout.now in
    let p = program_in c.args.program.now in
    subst (λ (bs : List ℕ). TellsOwner l c.args.at p bs) (sym (returns-clause-laid c))
    (tells_owner l c.requires.sound room c.args.at place.some place.even p c.requires.valid)

pub returns-clause-interpreter : goal.returns-clause-interpreter
returns-clause-interpreter c room place =
    let l = c.args.layout.now in
    let p = program_in c.args.program.now in
    subst (λ (bs : List ℕ). TellsInterpreter l c.args.at bs) (sym (returns-clause-laid c))
    (tells_interpreter l c.requires.sound room c.args.at place.some place.even p c.requires.valid)
