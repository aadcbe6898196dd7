use Rattle.std.proofs.Common.{◌≡◌, ◌++◌, ◌+◌, ap, ◌∙◌, arith, append_assoc, refl, subst, length}
use Rattle.image_memory.specs.Backed.{regions_of}
use Rattle.process_memory.specs.Memory.{byte_at}
use Rattle.core_slim.proofs.Pieces.{AreCopied, all_copied, held_ends, more_copied}
use Rattle.core_slim.proofs.writing.add_piece.Goals as goal

pub overflow_add-piece : goal.overflow_add-piece
overflow_add-piece c =
    omega (arith, held_ends (regions_of c.args.dump.now) c.args.piece (omega arith) c.requires)

pub loop-done-preserved : goal.loop-done-preserved
loop-done-preserved c =
    let i = c.loop-done.invariant in
    let m = byte_at (regions_of c.args.dump.now) in
    let run = c.in-Some.found.now in
    let short = c.in-Some.ensures.run.2.short in
    record {
      within = omega (arith, short);
      copied = i.copied ++ run;
      are =
          more_copied m c.args.piece.start c.loop-done.done (c.loop-done.done + length run) i.copied run i.are
          c.in-Some.ensures.bytes refl;
      bytes =
          c.in_ok-extend_from_slice-in-Some.ensures.items ∙ ap (λ b. b ++ run) i.bytes
          ∙ append_assoc c.args.bytes.now.items i.copied run;
    }

pub returns : goal.returns
returns c =
    let i = c.loop-done.invariant in
    let m = byte_at (regions_of c.args.dump.now) in
    let all : c.loop-done.done ≡ c.args.piece.len = omega (arith, i.within) in
    let copied =
    all_copied m c.args.piece i.copied (subst (λ n. AreCopied m c.args.piece.start n i.copied) all i.are) in
    i.bytes ∙ ap (λ b. c.args.bytes.now.items ++ b) copied
