use Rattle.std.proofs.Common.{◌≡◌, ◌≢◌, ℕ, zero, suc, List, ap, refl, arith}
use Rattle.std.specs.Prelude.{Ok}
use Rattle.std.proofs.lemmas.Result.{err_from_is_err_and}
use Rattle.process_memory.specs.Memory.{Memory, ◌>>=◌}
use Rattle.process_memory.specs.Seen.{read_fault}
use Rattle.process_memory.proofs.Reading.{reads_next, reads_halt, reads_end, reads_same, reading_short}
use Rattle.py_selftest.specs.Members.{is_called_at, member_if_at, step_at, step_by}
use Rattle.py_selftest.specs.declared.members.Step.TheVariants.{End}
use Rattle.py_selftest.proofs.members.read_step.Goals as goal

module _ (m : Memory) (name : List ℕ) (table offset : ℕ) where
  step_end : (a : ℕ) → a ≡ 0 → step_by m name table offset a ≡ Ok End
  unfolding step_by
  step_end a e = rw e refl

  step_some : (a : ℕ) → a ≢ 0 → step_by m name table offset a
      ≡ (is_called_at m name a >>= member_if_at m table offset)
  unfolding step_by
  step_some zero some = absurd (some refl)
  step_some (suc a) some = refl

pub returns-in_err-addr : goal.returns-in_err-addr
unfolding step_at
returns-in_err-addr g c =
    let p = err_from_is_err_and c.from_residual.result c.from_residual.ensures.1 in
    rw p.1 (reads_halt 4 p.0 _ (reading_short c.in_err-addr.ensures.answer) (ap read_fault p.2) (omega arith))

pub returns-then-addr-eq0 : goal.returns-then-addr-eq0
unfolding step_at
returns-then-addr-eq0 g c =
    reads_next {k = 3} 4 _ (reading_short c.in_ok-addr.ensures.answer)
    (reads_same _ _ (λ m. step_end m c.args.name.now c.args.table c.args.offset c.in_ok-addr.addr (omega arith))
    (reads_end 3 refl)) (omega arith)

pub returns-in_err-is : goal.returns-in_err-is
unfolding step_at
returns-in_err-is g c =
    let p = err_from_is_err_and c.from_residual-in_err-is.result c.from_residual-in_err-is.ensures.1 in
    rw p.1 (reads_next {k = 3} 4 _ (reading_short c.in_ok-addr.ensures.answer)
    (reads_same _ _ (λ m. step_some m c.args.name.now c.args.table c.args.offset c.in_ok-addr.addr (omega arith))
    (reads_halt 3 p.0 _ c.in_err-is.ensures (ap read_fault p.2) (omega arith))) (omega arith))

pub returns : goal.returns
unfolding step_at
returns g c =
    reads_next {k = 3} 4 _ (reading_short c.in_ok-addr.ensures.answer)
    (reads_same _ _ (λ m. step_some m c.args.name.now c.args.table c.args.offset c.in_ok-addr.addr (omega arith))
    (reads_next 3 _ c.in_ok-is.ensures c.member_if.ensures (omega arith))) (omega arith)
