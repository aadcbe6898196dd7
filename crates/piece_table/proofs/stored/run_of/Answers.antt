use Rattle.std.proofs.Common.{◌≡◌, ◌-◌, ◌^◌, subst, arith}
use Rattle.std.specs.Prelude.{None}
use Rattle.piece_table.specs.Places.{IsStretch, stands_at}
use Rattle.piece_table.proofs.Files.{byte_none, run_bytes, run_inside}
use Rattle.piece_table.proofs.stored.run_of.Goals as goal

pub returns-in_err-run-clause-none : goal.returns-in_err-run-clause-none
returns-in_err-run-clause-none g c = λ _.
    byte_none _ _ c.args.addr c.table.ensures.held
    (subst (λ rs. stands_at rs c.args.addr ≡ None) c.table.ensures.same (c.stretch.ensures.none c.in_err-run.was))

pub bytes_of-requires-clause-known : goal.bytes_of-requires-clause-known
bytes_of-requires-clause-known g c =
    let run = c.in_ok-run.run' in
    let h = subst (λ rs. IsStretch rs c.args.addr (2 ^ 64 - 1) run.file run.start run.size) c.table.ensures.same c.in_ok-run.ensures.run in
    (run_inside _ _ c.args.addr run.file run.start run.size c.table.ensures.held h.some h.each).known

pub bytes_of-requires-clause-inside : goal.bytes_of-requires-clause-inside
bytes_of-requires-clause-inside g c =
    let run = c.in_ok-run.run' in
    let h = subst (λ rs. IsStretch rs c.args.addr (2 ^ 64 - 1) run.file run.start run.size) c.table.ensures.same c.in_ok-run.ensures.run in
    (run_inside _ _ c.args.addr run.file run.start run.size c.table.ensures.held h.some h.each).inside

pub returns-clause-some : goal.returns-clause-some
returns-clause-some g c =
    let run = c.in_ok-run.run' in
    let h = subst (λ rs. IsStretch rs c.args.addr (2 ^ 64 - 1) run.file run.start run.size) c.table.ensures.same c.in_ok-run.ensures.run in
    let count = (run_bytes _ _ c.args.addr run.file run.start run.size c.bytes_of.result.now c.table.ensures.held h.some h.each c.bytes_of.ensures).0 in
    omega (arith, count, h.some)

pub returns-clause-bytes : goal.returns-clause-bytes
returns-clause-bytes g c =
    let run = c.in_ok-run.run' in
    let h = subst (λ rs. IsStretch rs c.args.addr (2 ^ 64 - 1) run.file run.start run.size) c.table.ensures.same c.in_ok-run.ensures.run in
    (run_bytes _ _ c.args.addr run.file run.start run.size c.bytes_of.result.now c.table.ensures.held h.some h.each c.bytes_of.ensures).1
