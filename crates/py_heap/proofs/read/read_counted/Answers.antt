use Rattle.std.proofs.Common.{◌∙◌, ap, arith, length, refl, subst}
use Rattle.std.proofs.lemmas.Result.{err_from_is_err_and}
use Rattle.process_memory.proofs.Reading.{reading_gives, reading_none, reading_then}
use Rattle.gc_lists.specs.Lists.{four_of}
use Rattle.py_census.specs.Censuses.{IsCensus, counted_of}
use Rattle.py_census.specs.Blocks.{more_at}
use Rattle.py_census.specs.Sizes.{class_at, size_at}
use Rattle.py_heap.specs.Heaps.{IsHeap}
use Rattle.py_heap.specs.Names.{named_classes}
use Rattle.py_heap.proofs.Counting.{length_objects}
use Rattle.py_heap.proofs.read.read_counted.Goals as goal

pub returns-in_err-objects : goal.returns-in_err-objects
returns-in_err-objects g c =
    let p = err_from_is_err_and c.from_residual.result c.from_residual.ensures.1 in
    rw p.1 (reading_none _ _ _ (λ m. tt))

pub returns-in_err-census : goal.returns-in_err-census
returns-in_err-census g c =
    let p = err_from_is_err_and c.from_residual-in_err-census.result c.from_residual-in_err-census.ensures.1 in
    let few = ap length (c.deref.ensures.value ∙ c.in_ok-objects.ensures) ∙ length_objects c.args.places.now.lists.head_size c.args.lists.now in
    rw p.1 (reading_gives _ _ c.in_err-census.ensures.right (omega (arith, few)) (λ m h. tt))

pub returns-in_err-classes : goal.returns-in_err-classes
returns-in_err-classes g c =
    let p = err_from_is_err_and c.from_residual-in_err-classes.result c.from_residual-in_err-classes.ensures.1 in
    let few = ap length (c.deref.ensures.value ∙ c.in_ok-objects.ensures)
    ∙ length_objects c.args.places.now.lists.head_size c.args.lists.now in
    rw p.1 (reading_gives _ _ (reading_then (λ m. Unit {0}) c.in_ok-census.ensures.right c.in_err-classes.ensures
    (λ m a b. tt)) (omega (arith, few)) (λ m h. tt))

pub returns : goal.returns
returns g c =
    let l = c.args.layout.now in
    let p = c.args.places.now in
    let lists = four_of c.args.lists.now in
    let census = c.in_ok-census.census in
    let objects = c.deref.ensures.value ∙ c.in_ok-objects.ensures in
    let few = ap length objects ∙ length_objects p.lists.head_size c.args.lists.now in
    reading_gives _ _
    (reading_then (λ m. IsHeap l p m lists (record {
      collecting = c.args.lists.now.collecting;
      youngest = c.generation_of.result;
      middle = c.generation_of-2.result;
      oldest = c.generation_of-3.result;
      permanent = c.generation_of-4.result;
      sets = c.is_some.result;
      classes = c.in_ok-classes.classes;
      unreadable = census.unreadable;
    })) c.in_ok-census.ensures.right c.in_ok-classes.ensures
    (λ m a b. record {
      collecting = refl;
      youngest = c.generation_of.ensures;
      middle = c.generation_of-2.ensures;
      oldest = c.generation_of-3.ensures;
      permanent = c.generation_of-4.ensures;
      sets = c.is_some.ensures;
      counted = counted_of census;
      census = subst (λ xs. IsCensus (class_at l m) (size_at l p.sizes m) (more_at l p.sizes m) xs (counted_of census)) objects a;
      classes = b ∙ ap (named_classes l p.classes m) c.deref-2.ensures.value;
      unreadable = refl;
    }))
    (omega (arith, few)) (λ m h. h)
