use Rattle.std.proofs.Common.{◌≡◌, ◌∙◌, ◌++◌, List, map, ap, subst}
use Rattle.std.specs.Prelude.{IfOk, None}
use Rattle.std.specs.List.{flat_map}
use Rattle.memory_builder.specs.declared.parts.ProgramLocal.{ProgramLocal}
use Rattle.memory_builder.specs.Frames.{laid_contents}
use Rattle.memory_builder.specs.Mirror.{frame_in, local_in}
use Rattle.object_builder.specs.Objects.{aligned}
use Rattle.memory_builder.specs.Sizes.{local_size}
use Rattle.object_builder.specs.Texts.{text_object}
use Rattle.memory_builder.specs.Values.{laid_all, laid_local, laid_name}
use Rattle.memory_builder.proofs.Adding.{four_added}
use Rattle.memory_builder.proofs.frames.add_contents.Goals as goal

pub returns : goal.returns
unfolding laid_contents
returns c =
    let l = c.args.layout.now in
    let f = frame_in c.args.frame.now in
    four_added c.add_values.result c.add_values.new.out.items c.args.out.now.items c.add_text.new.out.items
    c.add_text-2.new.out.items c.add_names.new.out.items
    (aligned (text_object l None f.filename)) (aligned (text_object l None f.name)) (flat_map (laid_name l) f.locals)
    (laid_all (local_size l) (laid_local l c.args.types) c.args.values_at f.locals)
    c.in_ok-add_text.ensures.added c.in_ok-add_text-2.ensures.added
    (c.in_ok-add_names.ensures ∙ ap (λ xs. c.add_text-2.new.out.items
    ++ flat_map (laid_name l) (map local_in xs)) c.deref.ensures.value)
    (subst (λ (xs : List ProgramLocal). IfOk c.add_values.result
    (λ _. c.add_values.new.out.items ≡ c.add_names.new.out.items
    ++ laid_all (local_size l) (laid_local l c.args.types) c.args.values_at (map local_in xs)))
    c.deref-2.ensures.value c.add_values.ensures)
