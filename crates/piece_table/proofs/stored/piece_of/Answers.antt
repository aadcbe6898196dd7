use Rattle.std.proofs.Common.{◌≡◌, subst, arith, inl, inr, ⊎_elim}
use Rattle.std.specs.Prelude.{None}
use Rattle.process_memory.specs.Memory.{byte_at}
use Rattle.process_memory.proofs.RunParts.{first_byte_there}
use Rattle.piece_table.specs.Files.{regions_in}
use Rattle.piece_table.specs.Places.{IsRun, stands_at}
use Rattle.piece_table.proofs.Files.{byte_none, run_bytes, run_inside, run_read}
use Rattle.piece_table.proofs.stored.piece_of.Goals as goal

pub returns-in_err-run-clause-none : goal.returns-in_err-run-clause-none
returns-in_err-run-clause-none g c = (
  λ _. ⊎_elim (λ (empty : c.args.len ≡ 0). inl empty)
      (λ (none : stands_at c.table.result.now c.args.addr ≡ None).
      inr (byte_none _ _ c.args.addr c.table.ensures.held (subst (λ rs. stands_at rs c.args.addr ≡ None) c.table.ensures.same none)))
      (c.run.ensures.none.0 c.in_err-run.was),
  λ _. c.from_residual.ensures,
)

pub bytes_of-requires-clause-known : goal.bytes_of-requires-clause-known
bytes_of-requires-clause-known g c =
    let run = c.in_ok-run.run' in
    let h = subst (λ rs. IsRun rs c.args.addr c.args.len run.file run.start run.size) c.table.ensures.same c.in_ok-run.ensures.run in
    (run_inside _ _ c.args.addr run.file run.start run.size c.table.ensures.held h.some h.each).known

pub bytes_of-requires-clause-inside : goal.bytes_of-requires-clause-inside
bytes_of-requires-clause-inside g c =
    let run = c.in_ok-run.run' in
    let h = subst (λ rs. IsRun rs c.args.addr c.args.len run.file run.start run.size) c.table.ensures.same c.in_ok-run.ensures.run in
    (run_inside _ _ c.args.addr run.file run.start run.size c.table.ensures.held h.some h.each).inside

pub returns-clause-bytes : goal.returns-clause-bytes
returns-clause-bytes g c =
    let run = c.in_ok-run.run' in
    let h = subst (λ rs. IsRun rs c.args.addr c.args.len run.file run.start run.size) c.table.ensures.same c.in_ok-run.ensures.run in
    (run_bytes _ _ c.args.addr run.file run.start run.size c.bytes_of.result.now c.table.ensures.held h.some h.each c.bytes_of.ensures).1

pub returns-clause-run : goal.returns-clause-run
returns-clause-run g c =
    let run = c.in_ok-run.run' in
    let h = subst (λ rs. IsRun rs c.args.addr c.args.len run.file run.start run.size) c.table.ensures.same c.in_ok-run.ensures.run in
    let count = (run_bytes _ _ c.args.addr run.file run.start run.size c.bytes_of.result.now c.table.ensures.held h.some h.each c.bytes_of.ensures).0 in
    run_read _ _ c.args.addr c.args.len run.file run.start run.size c.bytes_of.result.now h c.bytes_of.ensures count

pub returns-clause-none : goal.returns-clause-none
returns-clause-none g c =
    let run = c.in_ok-run.run' in
    let h = subst (λ rs. IsRun rs c.args.addr c.args.len run.file run.start run.size) c.table.ensures.same c.in_ok-run.ensures.run in
    let count = (run_bytes _ _ c.args.addr run.file run.start run.size c.bytes_of.result.now c.table.ensures.held h.some h.each c.bytes_of.ensures).0 in (
      λ e. absurd (cc),
      λ none. ⊎_elim (λ (empty : c.args.len ≡ 0). absurd (omega (arith, h.some, h.short)))
          (λ (lacks : byte_at (regions_in (g.S.Stored.files c.args.stored.now) (g.S.Stored.ranges c.args.stored.now)) c.args.addr ≡ None).
          absurd (first_byte_there _ c.args.addr c.bytes_of.result.now (omega (arith, count, h.some)) (returns-clause-bytes g c) lacks))
          none,
    )
