use Rattle.std.proofs.Common.{◌-◌, ◌<◌, arith, refl, ap, sym, ◌∙◌, string_bytes}
use Rattle.std.specs.Prelude.{Ok}
use Rattle.std.proofs.lemmas.Result.{err_from_is_err_and}
use Rattle.std.proofs.Math.Nat.{le_refl}
use Rattle.process_memory.proofs.Reading.{reading_none, reading_gives}
use Rattle.py_builtins.specs.ObjectError.{object_fault}
use Rattle.py_objects.specs.Nodes.{brackets_of, child_of, node_of, part_read, parts_place_of, values_in}
use Rattle.py_objects.specs.Shows.{show_at, node_shown, parts_shown}
use Rattle.py_objects.proofs.Steps.{tells_is, tells_lost, reading_both}
use Rattle.py_objects.proofs.Rising.{show_rises, part_rises, node_rises, parts_shown_rises}
use Rattle.py_objects.proofs.Showing.{showing_init, showing_skip, showing_more, showing_stop, showing_lost, showing_cut}
use Rattle.py_objects.proofs.Showing.{showing_done, showing_unclosed}
use Rattle.py_objects.proofs.Levels.{level_small, level_refused, level_deep, level_stops, level_goes, child_empty}
use Rattle.py_objects.proofs.Levels.{item_fails, item_goes, key_fails, value_fails, entry_lost, entry_goes}
use Rattle.py_objects.proofs.Levels.{look_refused, child_stops, child_goes}
use Rattle.py_objects.proofs.show.+show.Goals.{show_parts-in-None}
use Rattle.py_objects.proofs.show.+show.Goals.{show_parts-in-Some+else-left-le-NARROW+in_ok-add-in-Some-2}
use Rattle.py_builtins.proofs.Consulted.{consults_fields}
use Rattle.py_objects.proofs.show.+show.Goals as goal

pub show_value-returns-in_err-dots-clause-shown : goal.show_value-returns-in_err-dots-clause-shown
show_value-returns-in_err-dots-clause-shown g t c =
    let p = err_from_is_err_and c.from_residual.result c.from_residual.ensures.1 in
    rw p.1 (reading_none _ _ _ (λ m. tells_lost p.0 (ap object_fault p.2) (show_rises (values_in c.args.layout.now m) c.args.levels c.args.width c.args.addr c.args.visits.now)))

pub show_value-returns-then-width-le-NARROW-clause-shown : goal.show_value-returns-then-width-le-NARROW-clause-shown
show_value-returns-then-width-le-NARROW-clause-shown g t c =
    reading_none _ _ _ (λ m. level_small (values_in c.args.layout.now m) c.args.levels c.args.width c.args.addr c.args.visits.now _ (omega arith) c.in_ok-dots.ensures)

pub show_value-returns-in_err-count_visit-clause-shown : goal.show_value-returns-in_err-count_visit-clause-shown
show_value-returns-in_err-count_visit-clause-shown g t c =
    let p = err_from_is_err_and c.from_residual-in_err-count_visit.result c.from_residual-in_err-count_visit.ensures.1 in
    rw p.1 (reading_none _ _ _ (λ m. level_refused (values_in c.args.layout.now m) c.args.levels c.args.width c.args.addr c.args.visits.now (omega arith) _ p.0 c.in_err-count_visit.ensures.told (ap object_fault p.2)))

pub show_value-returns-then-levels-eq0-clause-shown : goal.show_value-returns-then-levels-eq0-clause-shown
show_value-returns-then-levels-eq0-clause-shown g t c =
    reading_none _ _ _ (λ m. level_deep (values_in c.args.layout.now m) c.args.levels c.args.width c.args.addr c.args.visits.now (omega arith) c.in_ok-count_visit.ensures.told (omega arith))

pub show_value-returns-in_err-node-clause-shown : goal.show_value-returns-in_err-node-clause-shown
show_value-returns-in_err-node-clause-shown g t c =
    let p = err_from_is_err_and c.from_residual-in_err-node.result c.from_residual-in_err-node.ensures.1 in
    rw p.1 (reading_gives _ _ c.in_err-node.ensures (omega (arith, c.in_ok-count_visit.ensures.begins)) (λ m a. level_stops (values_in c.args.layout.now m) c.args.levels c.args.width c.args.addr c.args.visits.now (omega arith) (c.args.levels - 1) c.in_ok-count_visit.ensures.told (omega arith) _ p.0 a (ap object_fault p.2)))

pub show_value-returns-clause-shown : goal.show_value-returns-clause-shown
show_value-returns-clause-shown g t c =
    reading_both _ _ c.in_ok-node.ensures c.show_node.ensures.shown (λ m a b. level_goes (values_in c.args.layout.now m) c.args.levels c.args.width c.args.addr c.args.visits.now (omega arith) (c.args.levels - 1) c.in_ok-count_visit.ensures.told (omega arith) _ a b)
    (omega (arith, c.in_ok-count_visit.ensures.begins, c.show_node.ensures.rises))

pub show_node-returns-in_err-quoted-in-Quoted-clause-shown : goal.show_node-returns-in_err-quoted-in-Quoted-clause-shown
show_node-returns-in_err-quoted-in-Quoted-clause-shown g t c =
    let p = err_from_is_err_and c.from_residual.result c.from_residual.ensures.1 in
    rw p.1 (reading_none _ _ _ (λ m. tells_lost p.0 (ap object_fault p.2) (node_rises (values_in c.args.layout.now m) (λ w a. show_at (values_in c.args.layout.now m) c.args.levels w a) (λ w a. show_rises (values_in c.args.layout.now m) c.args.levels w a) c.args.width (node_of c.args.node) c.args.visits.now)))

pub show_node-returns-in-Whole-clause-shown : goal.show_node-returns-in-Whole-clause-shown
unfolding node_shown
show_node-returns-in-Whole-clause-shown g t c =
    reading_none _ _ _ (λ m. rw c.in-Whole.is (tells_is refl))

pub show_node-returns-in_ok-quoted-in-Quoted-clause-shown : goal.show_node-returns-in_ok-quoted-in-Quoted-clause-shown
unfolding node_shown
show_node-returns-in_ok-quoted-in-Quoted-clause-shown g t c =
    let e = rw c.as_str.ensures at c.in_ok-quoted-in-Quoted.ensures in
    reading_none _ _ _ (λ m. rw c.in-Quoted.is (tells_is (ap (λ t. (Ok t, c.args.visits.now)) (sym e))))

pub show_node-returns-in-Many-clause-shown : goal.show_node-returns-in-Many-clause-shown
unfolding node_shown
show_node-returns-in-Many-clause-shown g t c =
    reading_gives _ _ c.show_parts.ensures.shown (le_refl _) (λ m a. rw c.in-Many.is a)

pub show_part-returns-in_err-look-clause-shown : goal.show_part-returns-in_err-look-clause-shown
show_part-returns-in_err-look-clause-shown g t c =
    let p = err_from_is_err_and c.from_residual.result c.from_residual.ensures.1 in
    rw p.1 (reading_none _ _ _ (λ m. look_refused (values_in c.args.layout.now m) (λ w a. show_at (values_in c.args.layout.now m) c.args.levels w a) (λ w a. show_rises (values_in c.args.layout.now m) c.args.levels w a) (brackets_of c.args.parts.now) (parts_place_of c.args.parts.now) c.args.number c.args.width c.args.visits.now _ p.0 c.in_err-look.ensures.told (ap object_fault p.2)))

pub show_part-returns-in_err-child-clause-shown : goal.show_part-returns-in_err-child-clause-shown
show_part-returns-in_err-child-clause-shown g t c =
    let p = err_from_is_err_and c.from_residual-in_err-child.result c.from_residual-in_err-child.ensures.1 in
    rw p.1 (reading_gives _ _ (consults_fields c.args.layout.now c.in_err-child.ensures.answer) (omega (arith, c.in_ok-look.ensures.counts)) (λ m a. child_stops (values_in c.args.layout.now m) (λ w a. show_at (values_in c.args.layout.now m) c.args.levels w a) (λ w a. show_rises (values_in c.args.layout.now m) c.args.levels w a) (brackets_of c.args.parts.now) (parts_place_of c.args.parts.now) c.args.number c.args.width c.args.visits.now c.in_ok-look.ensures.told _ p.0 a (ap object_fault p.2)))

pub show_part-returns-clause-shown : goal.show_part-returns-clause-shown
show_part-returns-clause-shown g t c =
    reading_both _ _ (consults_fields c.args.layout.now c.in_ok-child.ensures.answer) c.show_child.ensures.shown (λ m a b. child_goes (values_in c.args.layout.now m) (λ w a. show_at (values_in c.args.layout.now m) c.args.levels w a) (λ w a. show_rises (values_in c.args.layout.now m) c.args.levels w a) (brackets_of c.args.parts.now) (parts_place_of c.args.parts.now) c.args.number c.args.width c.args.visits.now c.in_ok-look.ensures.told _ a b) (omega (arith, c.in_ok-look.ensures.counts, c.show_child.ensures.rises))

pub show_parts-returns-in_err-text-clause-shown : goal.show_parts-returns-in_err-text-clause-shown
show_parts-returns-in_err-text-clause-shown g t c =
    let p = err_from_is_err_and c.from_residual.result c.from_residual.ensures.1 in
    rw p.1 (reading_none _ _ _ (λ m. tells_lost p.0 (ap object_fault p.2) (parts_shown_rises (values_in c.args.layout.now m) (λ w a. show_at (values_in c.args.layout.now m) c.args.levels w a) (λ w a. show_rises (values_in c.args.layout.now m) c.args.levels w a) (brackets_of c.args.parts.now) c.args.count (parts_place_of c.args.parts.now) c.args.width c.args.visits.now)))

pub show_parts-returns-in_err-part-clause-shown : goal.show_parts-returns-in_err-part-clause-shown
unfolding parts_shown
show_parts-returns-in_err-part-clause-shown g t c =
    let p = err_from_is_err_and c.from_residual-in_err-part.result c.from_residual-in_err-part.ensures.1 in
    rw p.1 (showing_stop p.0 c.loop-number.invariant (omega arith) c.in_err-part.ensures.rises (λ m k w. part_rises (values_in c.args.layout.now m) (λ w a. show_at (values_in c.args.layout.now m) c.args.levels w a) (λ w a. show_rises (values_in c.args.layout.now m) c.args.levels w a) (brackets_of c.args.parts.now) (parts_place_of c.args.parts.now) k w) c.in_err-part.ensures.shown (ap object_fault p.2))

pub show_parts-returns-in_err-add-in-Some-clause-shown : goal.show_parts-returns-in_err-add-in-Some-clause-shown
unfolding parts_shown
show_parts-returns-in_err-add-in-Some-clause-shown g t c =
    let p = err_from_is_err_and c.from_residual-in_err-add-in-Some.result c.from_residual-in_err-add-in-Some.ensures.1 in
    rw p.1 (showing_lost p.0 c.loop-number.invariant (omega arith) c.in_ok-part.ensures.rises (λ m k w. part_rises (values_in c.args.layout.now m) (λ w a. show_at (values_in c.args.layout.now m) c.args.levels w a) (λ w a. show_rises (values_in c.args.layout.now m) c.args.levels w a) (brackets_of c.args.parts.now) (parts_place_of c.args.parts.now) k w) c.in_ok-part.ensures.shown (ap object_fault p.2))

pub show_parts-returns-in_err-close-in-Some-clause-shown : goal.show_parts-returns-in_err-close-in-Some-clause-shown
unfolding parts_shown
show_parts-returns-in_err-close-in-Some-clause-shown g t c =
    let p = err_from_is_err_and c.from_residual-in_err-close-in-Some.result c.from_residual-in_err-close-in-Some.ensures.1 in
    rw p.1 (showing_lost p.0 c.loop-number.invariant (omega arith) c.in_ok-part.ensures.rises (λ m k w. part_rises (values_in c.args.layout.now m) (λ w a. show_at (values_in c.args.layout.now m) c.args.levels w a) (λ w a. show_rises (values_in c.args.layout.now m) c.args.levels w a) (brackets_of c.args.parts.now) (parts_place_of c.args.parts.now) k w) c.in_ok-part.ensures.shown (ap object_fault p.2))

pub show_parts-returns-in_err-add-in-Some-2-clause-shown : goal.show_parts-returns-in_err-add-in-Some-2-clause-shown
unfolding parts_shown
show_parts-returns-in_err-add-in-Some-2-clause-shown g t c =
    let p = err_from_is_err_and c.from_residual-in_err-add-in-Some-2.result c.from_residual-in_err-add-in-Some-2.ensures.1 in
    rw p.1 (showing_lost p.0 c.loop-number.invariant (omega arith) c.in_ok-part.ensures.rises (λ m k w. part_rises (values_in c.args.layout.now m) (λ w a. show_at (values_in c.args.layout.now m) c.args.levels w a) (λ w a. show_rises (values_in c.args.layout.now m) c.args.levels w a) (brackets_of c.args.parts.now) (parts_place_of c.args.parts.now) k w) c.in_ok-part.ensures.shown (ap object_fault p.2))

pub show_parts-returns-then-left-le-NARROW-clause-shown : goal.show_parts-returns-then-left-le-NARROW-clause-shown
unfolding parts_shown
show_parts-returns-then-left-le-NARROW-clause-shown g t c =
    let told = rw c.in-Some.is at c.in_ok-part.ensures.shown in
    let left = rw c.deref.ensures at c.left_of-left.ensures in
    showing_cut (string_bytes c.in-Some.part) _ c.loop-number.invariant (omega arith) c.in_ok-part.ensures.rises told (omega (arith, left)) (rw c.in_ok-add-in-Some.ensures at c.in_ok-close-in-Some.ensures)

pub show_parts-returns-in_err-close-clause-shown : goal.show_parts-returns-in_err-close-clause-shown
unfolding parts_shown
show_parts-returns-in_err-close-clause-shown g t c =
    let p = err_from_is_err_and c.from_residual-in_err-close.result c.from_residual-in_err-close.ensures.1 in
    rw p.1 (showing_unclosed p.0 c.loop-number.invariant (omega arith) (ap object_fault p.2))

pub show_parts-returns-clause-shown : goal.show_parts-returns-clause-shown
unfolding parts_shown
show_parts-returns-clause-shown g t c =
    showing_done _ c.loop-number.invariant (omega arith) c.in_ok-close.ensures

pub show_parts-loop-number-init : goal.show_parts-loop-number-init
show_parts-loop-number-init g t c =
    showing_init _ (brackets_of c.args.parts.now) c.args.count c.args.width c.args.visits.now _ _ c.in_ok-text.ensures

pub show_parts-loop-number-preserved : goal.show_parts-loop-number-preserved
show_parts-loop-number-preserved g t c =
    elim c.match-part.branch [
      | show_parts-in-None w ↦ rw (w.text-is, w.is_first-is, w.rest-is)
          (showing_skip c.loop-number.invariant (omega arith) (c.in_ok-part.ensures.skips w.in-None.is) (rw w.in-None.is at c.in_ok-part.ensures.shown))
      | show_parts-in-Some+else-left-le-NARROW+in_ok-add-in-Some-2 w ↦
          let told = rw w.in-Some.is at c.in_ok-part.ensures.shown in
          let left = rw w.deref.ensures at w.left_of-left.ensures in
          let room : 5 < w.left_of-left.result = omega arith in
          rw (w.text-is, w.is_first-is, w.rest-is)
          (showing_more (string_bytes w.in-Some.part) _ _ c.loop-number.invariant (omega arith) (c.in_ok-part.ensures.begins (omega (arith, left, room))) told left room (rw w.deref-in-Some.ensures at w.in_ok-add-in-Some-2.ensures))
    ]

pub show_child-returns-in_err-text-in-Item-clause-shown : goal.show_child-returns-in_err-text-in-Item-clause-shown
show_child-returns-in_err-text-in-Item-clause-shown g t c =
    let p = err_from_is_err_and c.from_residual.result c.from_residual.ensures.1 in
    rw p.1 (reading_gives _ _ c.in_err-text-in-Item.ensures.shown (omega arith) (λ m a. item_fails (λ w a. show_at (values_in c.args.layout.now m) c.args.levels w a) (λ w a. show_rises (values_in c.args.layout.now m) c.args.levels w a) c.args.width (part_read c.args.child) c.args.visits.now _ (ap part_read c.in-Item.is) _ p.0 a (ap object_fault p.2)))

pub show_child-returns-in_ok-text-in-Item-clause-shown : goal.show_child-returns-in_ok-text-in-Item-clause-shown
show_child-returns-in_ok-text-in-Item-clause-shown g t c =
    reading_gives _ _ c.in_ok-text-in-Item.ensures.shown (omega arith) (λ m a. item_goes (λ w a. show_at (values_in c.args.layout.now m) c.args.levels w a) (λ w a. show_rises (values_in c.args.layout.now m) c.args.levels w a) c.args.width (part_read c.args.child) c.args.visits.now _ (ap part_read c.in-Item.is) _ a)

pub show_child-returns-in-Empty-clause-shown : goal.show_child-returns-in-Empty-clause-shown
show_child-returns-in-Empty-clause-shown g t c =
    reading_none _ _ _ (λ m. child_empty (λ w a. show_at (values_in c.args.layout.now m) c.args.levels w a) (λ w a. show_rises (values_in c.args.layout.now m) c.args.levels w a) c.args.width (part_read c.args.child) c.args.visits.now (ap part_read c.in-Slot.is ∙ ap child_of c.in-Empty.is))

pub show_child-returns-in_err-key-in-Entry-clause-shown : goal.show_child-returns-in_err-key-in-Entry-clause-shown
show_child-returns-in_err-key-in-Entry-clause-shown g t c =
    let p = err_from_is_err_and c.from_residual-in_err-key-in-Entry.result c.from_residual-in_err-key-in-Entry.ensures.1 in
    let slot = ap part_read c.in-Slot.is ∙ ap child_of c.in-Entry.is in
    rw p.1 (reading_gives _ _ c.in_err-key-in-Entry.ensures.shown (omega arith) (λ m a. key_fails (λ w a. show_at (values_in c.args.layout.now m) c.args.levels w a) (λ w a. show_rises (values_in c.args.layout.now m) c.args.levels w a) c.args.width (part_read c.args.child) c.args.visits.now _ _ slot _ p.0 a (ap object_fault p.2)))

pub show_child-returns-in_err-value-in-Entry-clause-shown : goal.show_child-returns-in_err-value-in-Entry-clause-shown
show_child-returns-in_err-value-in-Entry-clause-shown g t c =
    let p = err_from_is_err_and c.from_residual-in_err-value-in-Entry.result c.from_residual-in_err-value-in-Entry.ensures.1 in
    let slot = ap part_read c.in-Slot.is ∙ ap child_of c.in-Entry.is in
    rw p.1 (reading_both _ _ c.in_ok-key-in-Entry.ensures.shown c.in_err-value-in-Entry.ensures.shown (λ m a b. value_fails (λ w a. show_at (values_in c.args.layout.now m) c.args.levels w a) (λ w a. show_rises (values_in c.args.layout.now m) c.args.levels w a) c.args.width (part_read c.args.child) c.args.visits.now _ _ slot _ a _ p.0 b (ap object_fault p.2)) (omega (arith, c.in_ok-key-in-Entry.ensures.rises, c.in_err-value-in-Entry.ensures.rises)))

pub show_child-returns-in_err-entry-in-Entry-clause-shown : goal.show_child-returns-in_err-entry-in-Entry-clause-shown
show_child-returns-in_err-entry-in-Entry-clause-shown g t c =
    let p = err_from_is_err_and c.from_residual-in_err-entry-in-Entry.result c.from_residual-in_err-entry-in-Entry.ensures.1 in
    let slot = ap part_read c.in-Slot.is ∙ ap child_of c.in-Entry.is in
    rw p.1 (reading_both _ _ c.in_ok-key-in-Entry.ensures.shown c.in_ok-value-in-Entry.ensures.shown (λ m a b. entry_lost (λ w a. show_at (values_in c.args.layout.now m) c.args.levels w a) (λ w a. show_rises (values_in c.args.layout.now m) c.args.levels w a) c.args.width (part_read c.args.child) c.args.visits.now _ _ slot _ a _ b p.0 (ap object_fault p.2)) (omega (arith, c.in_ok-key-in-Entry.ensures.rises, c.in_ok-value-in-Entry.ensures.rises)))

pub show_child-returns-in_ok-entry-in-Entry-clause-shown : goal.show_child-returns-in_ok-entry-in-Entry-clause-shown
show_child-returns-in_ok-entry-in-Entry-clause-shown g t c =
    let text = rw c.deref.ensures at c.in_ok-entry-in-Entry.ensures in
    let slot = ap part_read c.in-Slot.is ∙ ap child_of c.in-Entry.is in
    reading_both _ _ c.in_ok-key-in-Entry.ensures.shown c.in_ok-value-in-Entry.ensures.shown (λ m a b. entry_goes (λ w a. show_at (values_in c.args.layout.now m) c.args.levels w a) (λ w a. show_rises (values_in c.args.layout.now m) c.args.levels w a) c.args.width (part_read c.args.child) c.args.visits.now _ _ slot _ a _ b _ text) (omega (arith, c.in_ok-key-in-Entry.ensures.rises, c.in_ok-value-in-Entry.ensures.rises))
