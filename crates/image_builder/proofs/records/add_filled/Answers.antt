use Rattle.std.proofs.Common.{◌≡◌, ◌∙◌, ◌+◌, ◌++◌, refl, arith}
use Rattle.std.specs.Prelude.{IfOk, Ok, Err}
use Rattle.image_builder.specs.Records.{filled}
use Rattle.image_builder.proofs.Appending.{filled_is}
use Rattle.image_builder.proofs.records.add_filled.Goals as goal

pub overflow_add-start : goal.overflow_add-start
overflow_add-start c = omega (arith, c.len-start.ensures, c.args.out.now.ok, c.args.out.now.small, c.requires.small)

pub returns : goal.returns
returns c =
    elim c.resize.result as (λ r. c.resize.result ≡ r → IfOk r (λ _. c.resize.new.self.items ≡ c.args.out.now.items
    ++ filled c.args.size c.args.bytes.now)) [
      | Ok u ↦ λ e. (rw e at c.resize.ensures.items)
          ∙ filled_is c.args.out.now.items c.args.bytes.now c.extend_from_slice.new.self.items c.args.size
          (c.len-start.result + c.args.size) c.extend_from_slice.new.self.len c.requires.inside
          (omega (arith, c.len-start.ensures, c.args.out.now.ok.0)) c.in_ok-extend_from_slice.ensures.items
          c.extend_from_slice.new.self.ok.0
      | Err x ↦ λ e. tt
    ] refl
