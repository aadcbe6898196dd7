use Rattle.std.proofs.Common.{◌≡◌, subst, arith}
use Rattle.std.specs.Prelude.{IfOk}
use Rattle.py_stacks.specs.Lines.{family_of}
use Rattle.memory_builder.specs.Chains.{addresses_from}
use Rattle.memory_builder.specs.Laid.{place_or_none}
use Rattle.memory_builder.specs.Mirror.{program_in}
use Rattle.memory_builder.specs.Sizes.{thread_size}
use Rattle.memory_builder.proofs.Programs.{first_is, frames_valid, owner_valid, threads_fit}
use Rattle.memory_builder.proofs.program.holder_place.Goals as goal

pub owner_place-requires-clause-valid : goal.owner_place-requires-clause-valid
owner_place-requires-clause-valid c = frames_valid (family_of c.args.layout.now.lines) (program_in c.args.program.now) c.requires.valid

pub owner_place-requires-clause-owner : goal.owner_place-requires-clause-owner
owner_place-requires-clause-owner c = owner_valid (family_of c.args.layout.now.lines) (program_in c.args.program.now) c.requires.valid

pub owner_place-requires-clause-fits : goal.owner_place-requires-clause-fits
owner_place-requires-clause-fits c =
    let l = c.args.layout.now in
    omega (arith, first_is l c.args.at c.shared_size.result c.shared_size.ensures.value, threads_fit l c.args.at (program_in c.args.program.now) c.requires.fits)

pub returns : goal.returns
returns c =
    let l = c.args.layout.now in
    let p = program_in c.args.program.now in
    subst (λ first. IfOk c.owner_place.result (λ place. place ≡ place_or_none (addresses_from (thread_size l) first p.threads) p.owner))
    (first_is l c.args.at c.shared_size.result c.shared_size.ensures.value) c.owner_place.ensures
