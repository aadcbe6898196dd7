use Rattle.std.proofs.Common.{◌∙◌, sym, ap, arith, ◌∷◌, ◌++◌, [], append_assoc, length, length-append}
use Rattle.std.proofs.lemmas.List.{append-nil}
use Rattle.std.proofs.lemmas.List.FromFn.{map-range_with_len_more}
use Rattle.native_pairs.specs.declared.item.Item.TheVariants.{Python}
use Rattle.native_pairs.specs.Items.{pythons}
use Rattle.native_pairs.proofs.item.push_pythons.Goals as goal

pub loop-init : goal.loop-init
loop-init c = record { adds = sym (append-nil c.args.items.now.items); next = omega arith; few = c.requires.few }

pub loop-preserved : goal.loop-preserved
loop-preserved c = record {
  adds = c.in_ok-push.ensures.items ∙ ap (λ xs. xs ++ Python c.loop.next ∷ []) c.loop.invariant.adds
      ∙ append_assoc c.args.items.now.items (pythons c.args.from c.loop.counter) (Python c.loop.next ∷ [])
      ∙ ap (λ xs. c.args.items.now.items ++ xs)
      (sym (map-range_with_len_more (λ n. Python n) c.args.from c.loop.counter c.loop.next
      (sym c.loop.invariant.next)));
  next = omega (arith, c.loop.invariant.next);
  few = omega (
    arith,
    c.loop.invariant.few,
    ap length c.in_ok-push.ensures.items,
    length-append c.loop.items.items (Python c.loop.next ∷ []),
  );
}
