use Rattle.std.proofs.Common.{◌≡◌, ◌∙◌, ◌+◌, ◌-◌, ◌^◌, arith}
use Rattle.process_memory.proofs.Reading.{reads_known, word_outside}
use Rattle.py_names.proofs.TypedSteps.{beside_on, beside_back, beside_out}
use Rattle.py_names.proofs.typed.word_beside.Goals as goal

pub returns-then-distance : goal.returns-then-distance
returns-then-distance g c = rw (beside_on c.args.addr c.args.distance (omega arith)) c.word_past.ensures.answer

pub returns-then-back-addr : goal.returns-then-back-addr
returns-then-back-addr g c =
    let back : c.args.addr - (2 ^ 64 - c.args.distance) ≡ c.args.addr - (18446744073709551615 - c.args.distance + 1) = omega arith in
    rw (beside_back c.args.addr c.args.distance (omega arith) (omega arith) ∙ back) c.word.ensures.answer

pub returns : goal.returns
returns g c = reads_known 1 _ _ (λ m. rw (beside_out c.args.addr c.args.distance (omega arith) (omega arith)) (word_outside m _ (omega arith)))
