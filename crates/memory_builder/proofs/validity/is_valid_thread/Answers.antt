use Rattle.std.proofs.Common.{◌≡◌, ◌∙◌, ◌≢◌, ◌<◌, map, sym, true, false, arith}
use Rattle.std.specs.List.{AllByRecursion}
use Rattle.std.proofs.lemmas.Bool.{leb-true, le-leb, ltb-true}
use Rattle.memory_builder.specs.Mirror.{frame_in, program_thread}
use Rattle.memory_builder.specs.Program.{Thread}
use Rattle.memory_builder.specs.Validity.{IsValidThread}
use Rattle.memory_builder.proofs.Lists.{all_map, all_unmap, length_map}
use Rattle.memory_builder.proofs.validity.is_valid_thread.Goals.{then-thread-gt0, else-thread-gt0}
use Rattle.memory_builder.proofs.validity.is_valid_thread.Goals as goal

pub returns-then-is_new : goal.returns-then-is_new
returns-then-is_new c =
    let t = c.args.thread.now in
    let facts : (0 < t.id) × AllByRecursion (λ other. other.id ≢ t.id) c.args.earlier.now =
    elim c.if-thread-gt0.branch [
      | then-thread-gt0 w ↦ (w.if-thread-gt0.true, w.is_new.ensures.0 (sym w.value-is ∙ c.if-is_new.true))
      | else-thread-gt0 w ↦ absurd (omega (
        arith,
        w.if-thread-gt0.false,
        ltb-true 0 t.id (sym w.value-is ∙ c.if-is_new.true),
      ))
    ] in
    let count = length_map frame_in t.frames.items in (
      λ few. record {
        positive = facts.0;
        fits = omega arith;
        new = all_map (λ (other : Thread). other.id ≢ t.id) program_thread c.args.earlier.now facts.1;
        few = omega (arith, count, t.frames.ok.0, c.len.ensures, leb-true c.len.result 4096 few);
      },
      λ (valid : IsValidThread (map program_thread c.args.earlier.now) (program_thread t)).
          le-leb c.len.result 4096 (omega (arith, count, t.frames.ok.0, c.len.ensures, valid.few)),
    )

pub returns-else-is_new : goal.returns-else-is_new
returns-else-is_new c =
    let t = c.args.thread.now in (
      λ yes. let clash : true ≡ false = sym yes ∙ c.if-is_new.false in cc,
      λ (valid : IsValidThread (map program_thread c.args.earlier.now) (program_thread t)).
          elim c.if-thread-gt0.branch [
            | then-thread-gt0 w ↦ w.value-is ∙ w.is_new.ensures.1
                (all_unmap (λ (other : Thread). other.id ≢ t.id) program_thread c.args.earlier.now valid.new)
            | else-thread-gt0 w ↦ absurd (omega (arith, w.if-thread-gt0.false, valid.positive))
          ],
    )
