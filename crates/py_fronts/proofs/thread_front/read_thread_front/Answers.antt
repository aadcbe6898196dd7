use Rattle.std.proofs.Common.{arith, refl, ap, min, ◌≡◌, ◌≤◌}
use Rattle.std.proofs.lemmas.Result.{err_from_is_err_and}
use Rattle.process_memory.specs.Memory.{byte_at}
use Rattle.process_memory.proofs.Reading.{reading_gives, reading_here, reading_then}
use Rattle.py_fields.proofs.Fields.{thread_fits}
use Rattle.py_fronts.specs.FrameFronts.{ends_reads, frames_front}
use Rattle.py_fronts.specs.Members.{Chained, chained}
use Rattle.py_fronts.specs.ThreadFronts.{thread_front}
use Rattle.py_fronts.proofs.Steps.{lost_first, lost_then}
use Rattle.py_fronts.proofs.ThreadSteps.{frames_met, thread_cost, thread_stands}
use Rattle.py_fronts.proofs.thread_front.read_thread_front.Goals as goal

pub returns-in_err-chain-clause-answer : goal.returns-in_err-chain-clause-answer
returns-in_err-chain-clause-answer g c =
    let p = err_from_is_err_and c.from_residual.result c.from_residual.ensures.1 in
    let most : c.min-most.result ≡ min c.args.left 1048576 = omega arith in
    let cost = thread_cost c.args.asked c.args.layout.now (byte_at (g.P.ProcessMemory.seen c.args.process.now).pieces) c.args.limit c.args.left c.args.at c.args.thread.now c.min-most.result most in
    rw p.1 (lost_first _ c.in_err-chain.ensures.answer p.2 (omega (arith, cost)))

pub returns-in_err-frames-clause-answer : goal.returns-in_err-frames-clause-answer
returns-in_err-frames-clause-answer g c =
    let p = err_from_is_err_and c.from_residual-in_err-frames.result c.from_residual-in_err-frames.ensures.1 in
    let most : c.min-most.result ≡ min c.args.left 1048576 = omega arith in
    let cost = thread_cost c.args.asked c.args.layout.now (byte_at (g.P.ProcessMemory.seen c.args.process.now).pieces) c.args.limit c.args.left c.args.at c.args.thread.now c.min-most.result most in
    let kept = ap (λ (x : Chained). ends_reads c.args.asked c.args.limit x.kept) (reading_here c.in_ok-chain.ensures.answer) in
    rw p.1 (lost_then _ c.in_ok-chain.ensures.answer c.in_err-frames.ensures p.2 (omega (arith, cost, kept)))

pub u64_in-thread_id-requires : goal.u64_in-thread_id-requires
u64_in-thread_id-requires g c = omega (arith, (thread_fits c.requires.sound).id, c.requires.whole)

pub native_id-os_thread_id-requires : goal.native_id-os_thread_id-requires
native_id-os_thread_id-requires g c = λ place is. omega (arith, (thread_fits c.requires.sound).native_id place is, c.requires.whole)

pub returns-clause-answer : goal.returns-clause-answer
returns-clause-answer g c =
    let most : c.min-most.result ≡ min c.args.left 1048576 = omega arith in
    let cost = thread_cost c.args.asked c.args.layout.now (byte_at (g.P.ProcessMemory.seen c.args.process.now).pieces) c.args.limit c.args.left c.args.at c.args.thread.now c.min-most.result most in
    let kept = ap (λ (x : Chained). ends_reads c.args.asked c.args.limit x.kept) (reading_here c.in_ok-chain.ensures.answer) in
    reading_gives _ _ (reading_then _ c.in_ok-chain.ensures.answer c.in_ok-frames.ensures (λ m a b.
    thread_stands c.args.asked c.args.layout.now m c.args.limit c.args.left c.args.at c.args.thread.now (chained c.in_ok-chain.chain) (frames_front c.in_ok-frames.frames) c.min-most.result
    (thread_front (record { address = c.args.at; thread_id = c.u64_in-thread_id.result; os_thread_id = c.native_id-os_thread_id.result; frames = c.in_ok-frames.frames })) most a b refl c.u64_in-thread_id.ensures c.native_id-os_thread_id.ensures refl))
    (omega (arith, cost, kept)) (λ m h. h)

pub returns-clause-few : goal.returns-clause-few
returns-clause-few g c =
    let most : c.min-most.result ≤ c.args.left = omega arith in
    let met = frames_met c.args.asked c.args.layout.now _ c.args.limit c.in_ok-frames.frames (chained c.in_ok-chain.chain) (reading_here c.in_ok-frames.ensures) in
    omega (arith, met, most, c.in_ok-chain.ensures.few)
