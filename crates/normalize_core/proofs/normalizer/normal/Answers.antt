use Rattle.std.proofs.Common.{ℕ, sym, ap, ◌∙◌, subst}
use Rattle.std.specs.List.{AllZip}
use Rattle.std.specs.List.Sorted.{IsPermutation}
use Rattle.std.proofs.lemmas.List.Sorted.{IsNonDecreasingBy-from_sort}
use Rattle.normalize_core.specs.Met.{HasMet}
use Rattle.normalize_core.specs.Normal.{IsMetaAt, first_addrs}
use Rattle.normalize_core.proofs.Meeting.{output-met}
use Rattle.normalize_core.proofs.Orders.{ascends-from}
use Rattle.normalize_core.proofs.normalizer.normal.Goals as goal

pub returns : goal.returns
returns c =
    let asked = c.args.query.now in
    let addrs = c.args.addrs.now in
    let ascending = c.sort.new.self.items in
    let met = subst (λ as_sorted. HasMet asked as_sorted c.in_ok-metas.metas) c.as_slice.ensures.value c.in_ok-metas.ensures in (
      c.in_ok-outputs.ensures.0,
      record {
        ascending = ascending;
        same = subst (λ xs. IsPermutation xs ascending) c.in_ok-ascending.ensures.items c.sort.ensures.permutation;
        sorted = ascends-from ascending (IsNonDecreasingBy-from_sort (λ (x : ℕ). x) ascending c.in_ok-sort.ensures.sorted);
        outputs = c.in_ok-outputs.ensures.1 ∙ output-met asked ascending c.in_ok-metas.metas met addrs;
        metas = subst (λ ms. AllZip (IsMetaAt asked) (first_addrs asked ascending) ms)
            (ap (λ v. v.items) (sym c.into_list-meta.ensures)) met.list;
      },
    )
