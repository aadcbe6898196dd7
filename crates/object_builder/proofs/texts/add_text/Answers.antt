use Rattle.std.proofs.Common.{◌∙◌, arith}
use Rattle.object_builder.specs.Sizes.{text_len}
use Rattle.object_builder.specs.Texts.{kind_for, text_object, text_writes}
use Rattle.object_builder.proofs.Adding.{added_of, inside_of}
use Rattle.object_builder.proofs.LaidTexts.{kind_suits, text_writes_are}
use Rattle.object_builder.proofs.TextsBack.{reads_of, text_inside}
use Rattle.object_builder.proofs.texts.add_text.Goals as goal

pub coded-requires : goal.coded-requires
coded-requires c = kind_suits c.args.layout.now c.args.text.now c.kind_for-kind.result c.kind_for-kind.ensures

pub add_object-requires-clause-small : goal.add_object-requires-clause-small
add_object-requires-clause-small c = omega (arith, c.text_len.ensures.bound)

pub add_object-requires-clause-inside : goal.add_object-requires-clause-inside
add_object-requires-clause-inside c =
    let l = c.args.layout.now in
    let cs = c.args.text.now in
    inside_of c.text_len.result (text_len l cs) _ (text_writes l c.args.klass (kind_for l.strings cs) cs)
    c.text_len.ensures.value
    (text_writes_are l c.args.klass cs c.kind_for-kind.result c.units_of.result c.state_by.result c.start_of.result
    c.deref.result.now _ _
    c.kind_for-kind.ensures c.units_of.ensures c.state_by.ensures c.optional_write.ensures c.start_of.ensures
    (c.deref.ensures.value ∙ c.in_ok-bytes.ensures) c.klass_write.ensures)
    (text_inside l c.requires.sound c.args.klass cs)

pub returns-clause-added : goal.returns-clause-added
unfolding text_object
returns-clause-added c =
    let l = c.args.layout.now in
    let cs = c.args.text.now in
    added_of c.add_object.result c.add_object.new.out.items c.args.out.now.items c.text_len.result (text_len l cs) _
    (text_writes l c.args.klass (kind_for l.strings cs) cs) c.text_len.ensures.value
    (text_writes_are l c.args.klass cs c.kind_for-kind.result c.units_of.result c.state_by.result c.start_of.result
    c.deref.result.now _ _
    c.kind_for-kind.ensures c.units_of.ensures c.state_by.ensures c.optional_write.ensures c.start_of.ensures
    (c.deref.ensures.value ∙ c.in_ok-bytes.ensures) c.klass_write.ensures)
    c.add_object.ensures

pub returns-clause-reads : goal.returns-clause-reads
returns-clause-reads c room =
    reads_of c.add_object.result c.add_object.new.out.items c.args.out.now.items c.args.layout.now c.requires.sound room
    c.args.klass c.args.text.now c.requires.brief (returns-clause-added c)
