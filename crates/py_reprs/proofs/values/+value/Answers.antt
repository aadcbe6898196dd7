use Rattle.std.proofs.Common.{◌∙◌, ap, arith, length, map}
use Rattle.std.proofs.lemmas.List.{map-append}
use Rattle.std.proofs.lemmas.Result.{err_from_is_err_and}
use Rattle.process_memory.proofs.Reading.{reading_gives, reading_none, reading_then}
use Rattle.py_reprs.proofs.Mapping.{mapping_init, mapping_lost, mapping_more}
use Rattle.py_reprs.proofs.Opening.{both_fit, attributes_opened, entries_opened, level_fits, read_as, repr_closed, repr_opened, row_fits}
use Rattle.py_reprs.proofs.Opening.{reading_and, row_opened, whole_opened}
use Rattle.py_reprs.proofs.Views.{tree-Lost}
use Rattle.py_reprs.specs.Trees.{tree_of}
use Rattle.py_reprs.specs.Values.{repr_at}
use Rattle.py_reprs.proofs.values.+value.Goals as goal

pub read_all-loop-number-init : goal.read_all-loop-number-init
read_all-loop-number-init g t c = mapping_init _ _ _ _ _ (ap (map tree_of) c.new-values.ensures.items)

pub read_all-returns-in_err-value : goal.read_all-returns-in_err-value
read_all-returns-in_err-value g t c =
    let p = err_from_is_err_and c.from_residual.result c.from_residual.ensures.1 in
    rw p.1 (reading_gives _ _ (mapping_lost c.loop-number.invariant (omega arith) c.in_err-value.ensures) (omega arith)
    (λ m h. tt))

pub read_all-returns-in_err-push : goal.read_all-returns-in_err-push
read_all-returns-in_err-push g t c =
    let p = err_from_is_err_and c.from_residual-in_err-push.result c.from_residual-in_err-push.ensures.1 in
    rw p.1 (reading_gives _ _ (mapping_lost c.loop-number.invariant (omega arith) c.in_ok-value.ensures) (omega arith)
    (λ m h. tt))

pub read_all-loop-number-preserved : goal.read_all-loop-number-preserved
read_all-loop-number-preserved g t c =
    mapping_more _ _ c.loop-number.invariant (omega arith) c.in_ok-value.ensures
    (ap (map tree_of) c.in_ok-push.ensures.items ∙ map-append tree_of _ _)

pub read_opened-returns-in_err-level : goal.read_opened-returns-in_err-level
read_opened-returns-in_err-level g t c =
    let p = err_from_is_err_and c.from_residual.result c.from_residual.ensures.1 in
    rw p.1 (reading_gives _ _ c.in_err-level.ensures.answer (level_fits c.args.limits.now c.args.nodes) (λ m h. tt))

pub read_opened-returns-in_err-items-in-Row : goal.read_opened-returns-in_err-items-in-Row
read_opened-returns-in_err-items-in-Row g t c =
    let p = err_from_is_err_and c.from_residual-in_err-items-in-Row.result c.from_residual-in_err-items-in-Row.ensures.1 in
    let few = rw c.in-Row.is at c.in_ok-level.ensures.few in
    let items = rw c.deref.ensures.value at c.in_err-items-in-Row.ensures in
    rw p.1 (reading_gives _ _ (reading_then _ c.in_ok-level.ensures.answer items (λ m a b. b))
    (row_fits c.args.limits.now _ c.in-Row.share c.args.nodes few) (λ m h. tt))

pub read_opened-returns-in_err-keys-in-Entries : goal.read_opened-returns-in_err-keys-in-Entries
read_opened-returns-in_err-keys-in-Entries g t c =
    let p = err_from_is_err_and c.from_residual-in_err-keys-in-Entries.result
    c.from_residual-in_err-keys-in-Entries.ensures.1 in
    let few = rw c.in-Entries.is at c.in_ok-level.ensures.few in
    let keys = rw c.deref-in-Entries.ensures.value at c.in_err-keys-in-Entries.ensures in
    rw p.1 (reading_gives _ _ (reading_then _ c.in_ok-level.ensures.answer keys (λ m a b. b))
    (omega (
      arith,
      both_fit c.args.limits.now (length c.in-Entries.keys.items) (length c.in-Entries.values.items)
          c.in-Entries.share c.args.nodes few,
    )) (λ m h. tt))

pub read_opened-returns-in_err-values-in-Entries : goal.read_opened-returns-in_err-values-in-Entries
read_opened-returns-in_err-values-in-Entries g t c =
    let p = err_from_is_err_and c.from_residual-in_err-values-in-Entries.result
    c.from_residual-in_err-values-in-Entries.ensures.1 in
    let few = rw c.in-Entries.is at c.in_ok-level.ensures.few in
    let keys = rw c.deref-in-Entries.ensures.value at c.in_ok-keys-in-Entries.ensures in
    let values = rw c.deref-in-Entries-2.ensures.value at c.in_err-values-in-Entries.ensures in
    rw p.1 (reading_gives _ _ (reading_then _ c.in_ok-level.ensures.answer (reading_then _ keys values (λ m a b. b))
    (λ m a b. b)) (both_fit c.args.limits.now _ _ c.in-Entries.share c.args.nodes few) (λ m h. tt))

pub read_opened-returns-in-Whole : goal.read_opened-returns-in-Whole
read_opened-returns-in-Whole g t c =
    reading_gives _ _ c.in_ok-level.ensures.answer (level_fits c.args.limits.now c.args.nodes)
    (λ m h. whole_opened (λ s x. repr_at c.args.layout.now c.args.types.now c.args.limits.now m c.args.levels s x)
    c.in_ok-level.level c.in-Whole.value c.in-Whole.is h)

pub read_opened-returns-in_ok-items-in-Row : goal.read_opened-returns-in_ok-items-in-Row
read_opened-returns-in_ok-items-in-Row g t c =
    let few = rw c.in-Row.is at c.in_ok-level.ensures.few in
    let items = rw c.deref.ensures.value at c.in_ok-items-in-Row.ensures in
    reading_gives _ _ (reading_then _ c.in_ok-level.ensures.answer items (λ m a b. row_opened
    (λ s x. repr_at c.args.layout.now c.args.types.now c.args.limits.now m c.args.levels s x) c.in_ok-level.level
    c.in-Row.form c.in-Row.places c.in-Row.share c.in-Row.left_out c.in_ok-items-in-Row.items c.in-Row.is a b))
    (row_fits c.args.limits.now _ c.in-Row.share c.args.nodes few) (λ m h. h)

pub read_opened-returns-in_ok-values-in-Entries : goal.read_opened-returns-in_ok-values-in-Entries
read_opened-returns-in_ok-values-in-Entries g t c =
    let few = rw c.in-Entries.is at c.in_ok-level.ensures.few in
    let keys = rw c.deref-in-Entries.ensures.value at c.in_ok-keys-in-Entries.ensures in
    let values = rw c.deref-in-Entries-2.ensures.value at c.in_ok-values-in-Entries.ensures in
    reading_gives _ _ (reading_then _ c.in_ok-level.ensures.answer (reading_and keys values)
    (λ m a b. entries_opened
    (λ s x. repr_at c.args.layout.now c.args.types.now c.args.limits.now m c.args.levels s x) c.in_ok-level.level
    c.in-Entries.keys c.in-Entries.values c.in-Entries.share c.in-Entries.left_out c.in_ok-keys-in-Entries.keys
    c.in_ok-values-in-Entries.values c.in-Entries.is a b.0 b.1))
    (both_fit c.args.limits.now _ _ c.in-Entries.share c.args.nodes few) (λ m h. h)

pub read_opened-returns-in_err-names-in-Attributes : goal.read_opened-returns-in_err-names-in-Attributes
read_opened-returns-in_err-names-in-Attributes g t c =
    let p = err_from_is_err_and c.from_residual-in_err-names-in-Attributes.result
    c.from_residual-in_err-names-in-Attributes.ensures.1 in
    let few = rw c.in-Attributes.is at c.in_ok-level.ensures.few in
    let names = rw c.deref-in-Attributes.ensures.value at c.in_err-names-in-Attributes.ensures in
    rw p.1 (reading_gives _ _ (reading_then _ c.in_ok-level.ensures.answer names (λ m a b. b))
    (omega (
      arith,
      both_fit c.args.limits.now (length c.in-Attributes.names.items) (length c.in-Attributes.values.items)
          c.in-Attributes.share c.args.nodes few,
    )) (λ m h. tt))

pub read_opened-returns-in_err-values-in-Attributes : goal.read_opened-returns-in_err-values-in-Attributes
read_opened-returns-in_err-values-in-Attributes g t c =
    let p = err_from_is_err_and c.from_residual-in_err-values-in-Attributes.result
    c.from_residual-in_err-values-in-Attributes.ensures.1 in
    let few = rw c.in-Attributes.is at c.in_ok-level.ensures.few in
    let names = rw c.deref-in-Attributes.ensures.value at c.in_ok-names-in-Attributes.ensures in
    let values = rw c.deref-in-Attributes-2.ensures.value at c.in_err-values-in-Attributes.ensures in
    rw p.1 (reading_gives _ _ (reading_then _ c.in_ok-level.ensures.answer (reading_then _ names values (λ m a b. b))
    (λ m a b. b)) (both_fit c.args.limits.now _ _ c.in-Attributes.share c.args.nodes few) (λ m h. tt))

pub read_opened-returns-in_ok-values-in-Attributes : goal.read_opened-returns-in_ok-values-in-Attributes
read_opened-returns-in_ok-values-in-Attributes g t c =
    let few = rw c.in-Attributes.is at c.in_ok-level.ensures.few in
    let names = rw c.deref-in-Attributes.ensures.value at c.in_ok-names-in-Attributes.ensures in
    let values = rw c.deref-in-Attributes-2.ensures.value at c.in_ok-values-in-Attributes.ensures in
    reading_gives _ _ (reading_then _ c.in_ok-level.ensures.answer (reading_and names values)
    (λ m a b. attributes_opened
    (λ s x. repr_at c.args.layout.now c.args.types.now c.args.limits.now m c.args.levels s x) c.in_ok-level.level
    c.in-Attributes.class c.in-Attributes.at c.in-Attributes.names c.in-Attributes.values c.in-Attributes.share c.in-Attributes.left_out c.in_ok-names-in-Attributes.names
    c.in_ok-values-in-Attributes.values c.in-Attributes.is a b.0 b.1))
    (both_fit c.args.limits.now _ _ c.in-Attributes.share c.args.nodes few) (λ m h. h)

pub read_placed-returns-in-Gap : goal.read_placed-returns-in-Gap
read_placed-returns-in-Gap g t c = rw c.in-Gap.is (reading_none _ _ _ (λ m. tree-Lost _ _ _))

pub read_value-returns-then-levels-eq0 : goal.read_value-returns-then-levels-eq0
read_value-returns-then-levels-eq0 g t c =
    reading_gives _ _ c.read_closed.ensures (level_fits c.args.limits.now c.args.nodes)
    (λ m h. read_as _ _ _ h (repr_closed c.args.layout.now c.args.types.now c.args.limits.now m c.args.levels c.args.nodes
    c.args.addr c.if-levels-eq0.true))

pub read_value-returns : goal.read_value-returns
read_value-returns g t c =
    reading_gives _ _ c.read_opened.ensures (omega arith)
    (λ m h. read_as _ _ _ h (repr_opened c.args.layout.now c.args.types.now c.args.limits.now m c.args.levels c.args.nodes
    c.args.addr c.if-levels-eq0.false))
