use Rattle.std.proofs.Common.{ap, arith, subst}
use Rattle.std.proofs.lemmas.Result.{err_from_is_err_and}
use Rattle.process_memory.specs.Memory.{byte_at}
use Rattle.process_memory.proofs.Reading.{reading_gives, reading_here, reading_then}
use Rattle.gc_lists.specs.Lists.{IsTold, members_of, told_of}
use Rattle.py_heap.specs.Heaps.{IsHeapAt}
use Rattle.py_heap.specs.declared.heap.HeapTold.TheVariants.{Counted}
use Rattle.py_heap.proofs.Counting.{told_few}
use Rattle.py_heap.proofs.read.read_heap.Goals as goal

pub returns-in_err-heap-in-Lists : goal.returns-in_err-heap-in-Lists
returns-in_err-heap-in-Lists g c =
    let p = err_from_is_err_and c.from_residual-in_err-heap-in-Lists.result c.from_residual-in_err-heap-in-Lists.ensures.1 in
    let places = c.args.places.now.lists in
    let bases = c.args.bases.now in
    let old = g.P.ProcessMemory.seen c.args.process.now in
    let told = reading_here c.in_ok-found.ensures.right in
    let here = subst (λ f. IsTold places bases (byte_at old.pieces) c.args.base (told_of f)) c.in-Lists.is told in
    let few = told_few places bases (byte_at old.pieces) c.args.base c.in-Lists.lists here in
    let many = ap members_of c.in-Lists.is in
    record {
      right = rw p.1 (reading_gives _ _ (reading_then (λ m. Unit {0}) c.in_ok-found.ensures.right
          c.in_err-heap-in-Lists.ensures (λ m a b. tt)) (omega (arith, few, many)) (λ m h. tt));
    }

pub returns : goal.returns
returns g c =
    let l = c.args.layout.now in
    let p = c.args.places.now in
    let bases = c.args.bases.now in
    let base = c.args.base in
    let heap = c.in_ok-heap-in-Lists.heap in
    let is = reading_here c.in_ok-heap-in-Lists.ensures in
    let many = ap members_of c.in-Lists.is in
    let young = ap (λ g. g.objects) is.youngest in
    let mid = ap (λ g. g.objects) is.middle in
    let old = ap (λ g. g.objects) is.oldest in
    let last = ap (λ g. g.objects) is.permanent in
    record {
      right = reading_gives _ _ (reading_then (λ m. IsHeapAt l p bases m base (Counted heap)) c.in_ok-found.ensures.right
          c.in_ok-heap-in-Lists.ensures
          (λ m a b. record {
            lists = told_of c.in_ok-found.found;
            are = a;
            is = rw c.in-Lists.is b;
          })) (omega (arith, many, young, mid, old, last)) (λ m h. h);
    }
