use Rattle.std.proofs.Common.{◌∙◌, sym, ap, arith, ◌∷◌, ◌++◌, []}
use Rattle.std.proofs.lemmas.List.FromFn.{map-range_with_len_more}
use Rattle.native_pairs.specs.declared.item.Item.TheVariants.{Native}
use Rattle.native_pairs.proofs.item.native_items.Goals as goal

pub loop-native-preserved : goal.loop-native-preserved
loop-native-preserved c =
    c.in_ok-push.ensures.items ∙ ap (λ xs. xs ++ Native c.loop-native.native ∷ []) c.loop-native.invariant
    ∙ sym (map-range_with_len_more (λ n. Native n) 0 c.loop-native.native c.loop-native.native (omega arith))
