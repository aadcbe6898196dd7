use Rattle.std.proofs.Common.{length, refl}
use Rattle.core_texts.proofs.Padding.{padded}
use Rattle.core_texts.proofs.part.parts.Goals as goal

pub returns : goal.returns
returns c =
    padded c.args.list.now _ _ (length c.args.list.now) c.copy_from_slice.ensures.after (refl, (refl, (refl, (refl, (refl, (refl, (refl, (refl, (refl, tt)))))))))
