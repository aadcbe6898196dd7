use Rattle.std.proofs.Common.{◌≡◌, ◌∙◌, ap, arith}
use Rattle.std.specs.Prelude.{ℕ, Option, Some, if◌then◌else◌, nat_eq}
use Rattle.std.specs.BTreeMap.{get}
use Rattle.std.specs.Ordering.{nat_cmp}
use Rattle.std.proofs.lemmas.Result.{err_from_is_err_and}
use Rattle.process_memory.proofs.Reading.{reading_gives, reading_then}
use Rattle.py_census.specs.Blocks.{more_by}
use Rattle.py_census.specs.Sizes.{class_size_at}
use Rattle.py_census.specs.Tallies.{tally_after, tally_or_new, tally_with, with_object}
use Rattle.py_census.specs.declared.tallies.Tally.{Tally}
use Rattle.py_census.proofs.Tallying.{put}
use Rattle.py_census.proofs.tallies.add_object.Goals as goal

pub returns-in_err-size : goal.returns-in_err-size
returns-in_err-size g c =
    let p = err_from_is_err_and c.from_residual-in_err-size.result c.from_residual-in_err-size.ensures.1 in
    rw p.1 (reading_gives 23 _ (reading_then (λ m. Unit {0}) c.in_ok-tally.ensures c.in_err-size.ensures
    (λ m a b. tt)) (omega arith) (λ m h. tt))

pub returns-in_err-more : goal.returns-in_err-more
returns-in_err-more g c =
    let p = err_from_is_err_and c.from_residual-in_err-more.result c.from_residual-in_err-more.ensures.1 in
    rw p.1 (reading_gives 23 _ (reading_then (λ m. Unit {0}) (reading_then (λ m. Unit {0}) c.in_ok-tally.ensures
    c.in_ok-size.ensures (λ m a b. tt)) c.in_err-more.ensures (λ m a b. tt)) (omega arith) (λ m h. tt))

pub returns-in_err-insert : goal.returns-in_err-insert
returns-in_err-insert g c =
    let p = err_from_is_err_and c.from_residual-in_err-insert.result c.from_residual-in_err-insert.ensures.1 in
    rw p.1 (reading_gives 23 _ (reading_then (λ m. Unit {0}) (reading_then (λ m. Unit {0}) c.in_ok-tally.ensures
    c.in_ok-size.ensures (λ m a b. tt)) c.in_ok-more.ensures (λ m a b. tt)) (omega arith) (λ m h. tt))

pub returns : goal.returns
returns g c =
    let l = c.args.layout.now in
    let p = c.args.places.now in
    let its = c.args.its in
    let object = c.args.object in
    let old = c.args.tallies.now in
    let tally = c.in_ok-tally.tally in
    let added : Tally = record { sized = tally.sized; counted = c.with_object-counted.result } in
    reading_gives 23 _
    (reading_then (λ m. (class : ℕ) → get nat_cmp c.insert.new.self class ≡ tally_after l p m object (Some its)
    (get nat_cmp old) class)
    (reading_then (λ m. (w : Option ℕ) → w ≡ more_by p m tally.sized object
    → record { sized = tally.sized; counted = with_object tally.counted object c.in_ok-size.size w }
    ≡ tally_with l p m object (tally_or_new (class_size_at l p m its) its (get nat_cmp old its)))
    c.in_ok-tally.ensures c.in_ok-size.ensures
    (λ m a b w e. ap (λ k. record { sized = tally.sized; counted = with_object tally.counted object c.in_ok-size.size k }) e
    ∙ ap (λ k. record { sized = tally.sized; counted = with_object tally.counted object k (more_by p m tally.sized object) }) b
    ∙ ap (tally_with l p m object) a))
    c.in_ok-more.ensures
    (λ m f d class. put old c.insert.new.self its added c.in_ok-insert.ensures.updates class
    ∙ ap (λ t. if nat_eq its class then Some t else get nat_cmp old class)
    (ap (λ k. record { sized = tally.sized; counted = k }) c.with_object-counted.ensures ∙ f c.in_ok-more.more d)))
    (omega arith) (λ m h. h)
