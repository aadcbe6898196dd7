use Rattle.std.proofs.Common.{◌≡◌, ◌∙◌, ◌+◌, ◌++◌, List, ℕ, length, map, ap, subst}
use Rattle.std.specs.Prelude.{IfOk, max}
use Rattle.memory_builder.specs.Chains.{addresses_from}
use Rattle.memory_builder.specs.Frames.{code_writes, first_number, frame_writes, laid_records, table_object}
use Rattle.memory_builder.specs.Frames.{table_writes, tuple_writes}
use Rattle.memory_builder.specs.Mirror.{frame_in, local_in}
use Rattle.object_builder.specs.Objects.{aligned, object}
use Rattle.memory_builder.specs.Sizes.{frame_len, local_size, name_size, tuple_len}
use Rattle.memory_builder.specs.Values.{address_array}
use Rattle.memory_builder.proofs.Adding.{four_added}
use Rattle.memory_builder.proofs.LaidValues.{addresses_len}
use Rattle.memory_builder.proofs.frames.add_records.Goals as goal

pub add_record-requires-clause-slots : goal.add_record-requires-clause-slots
add_record-requires-clause-slots c =
    let l = c.args.layout.now in
    let slots = c.deref-2.ensures.value ∙ c.in_ok-slots.ensures
    ∙ ap (λ xs. address_array (addresses_from (local_size l) c.args.spots.values (map local_in xs)))
    c.deref.ensures.value in
    ap length slots ∙ addresses_len (local_size l) c.args.spots.values (frame_in c.args.frame.now).locals

pub add_tuple-requires-clause-names : goal.add_tuple-requires-clause-names
add_tuple-requires-clause-names c =
    let l = c.args.layout.now in
    let names = c.deref-4.ensures.value ∙ c.in_ok-names.ensures
    ∙ ap (λ xs. address_array (addresses_from (name_size l) c.args.spots.names (map local_in xs)))
    c.deref-3.ensures.value in
    ap length names ∙ addresses_len (name_size l) c.args.spots.names (frame_in c.args.frame.now).locals

pub returns : goal.returns
unfolding laid_records
returns c =
    let l = c.args.layout.now in
    let f = frame_in c.args.frame.now in
    let s = c.args.spots in
    let slots : c.deref-2.result.now ≡ address_array (addresses_from (local_size l) s.values f.locals) =
    c.deref-2.ensures.value ∙ c.in_ok-slots.ensures
    ∙ ap (λ xs. address_array (addresses_from (local_size l) s.values (map local_in xs))) c.deref.ensures.value in
    let names : c.deref-4.result.now ≡ address_array (addresses_from (name_size l) s.names f.locals) =
    c.deref-4.ensures.value ∙ c.in_ok-names.ensures
    ∙ ap (λ xs. address_array (addresses_from (name_size l) s.names (map local_in xs))) c.deref-3.ensures.value in
    let first = c.in_ok-add_record.ensures ∙ ap (λ xs. c.args.out.now.items
    ++ aligned (object (frame_len l f) (frame_writes l s.code c.args.back f.offset xs))) slots in
    let third = c.in_ok-add_table.ensures ∙ ap (λ xs. c.add_code.new.out.items
    ++ aligned (object (max l.bytes.size (l.bytes.at + length xs)) (table_writes l xs))) c.requires.lines in
    four_added c.add_tuple.result c.add_tuple.new.out.items c.args.out.now.items c.add_record.new.out.items
    c.add_code.new.out.items c.add_table.new.out.items
    (aligned (object (frame_len l f) (frame_writes l s.code c.args.back f.offset
    (address_array (addresses_from (local_size l) s.values f.locals)))))
    (aligned (object l.code.size (code_writes l f.args (length f.locals)
    (first_number f) s.file s.name s.table s.tuple)))
    (aligned (table_object l f))
    (aligned (object (tuple_len l f) (tuple_writes l (length f.locals)
    (address_array (addresses_from (name_size l) s.names f.locals)))))
    first c.in_ok-add_code.ensures third
    (subst (λ (xs : List ℕ). IfOk c.add_tuple.result (λ _. c.add_tuple.new.out.items ≡ c.add_table.new.out.items
    ++ aligned (object (tuple_len l f) (tuple_writes l (length f.locals) xs)))) names c.add_tuple.ensures)
