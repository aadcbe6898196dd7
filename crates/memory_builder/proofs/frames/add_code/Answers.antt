use Rattle.std.proofs.Common.{◌≡◌, ◌∙◌, ◌++◌, ℕ, length, map, ap, subst, arith, rules}
use Rattle.std.specs.Prelude.{IfOk, unsigned_abs}
use Rattle.std.specs.Int.{w32}
use Rattle.std.proofs.lemmas.Int.{to_z-of_z}
use Rattle.py_fields.specs.Places.{code_places}
use Rattle.memory_builder.specs.Frames.{code_writes, first_number}
use Rattle.memory_builder.specs.Mirror.{frame_in, local_in}
use Rattle.object_builder.specs.Objects.{aligned, object}
use Rattle.memory_builder.proofs.Lists.{length_map}
use Rattle.memory_builder.proofs.frames.add_code.Goals as goal

pub add_object-requires-clause-inside : goal.add_object-requires-clause-inside
unfolding code_places
add_object-requires-clause-inside c = c.requires.sound.code.fields.group.inside

pub returns : goal.returns
returns c =
    let l = c.args.layout.now in
    let raw = c.args.frame.now in
    let s = c.args.spots in
    let count_is : c.len.result ≡ length (map local_in raw.locals.items) =
    omega (arith, c.len.ensures, raw.locals.ok.0, length_map local_in raw.locals.items) in
    let first_is : c.unsigned_abs.result ≡ first_number (frame_in raw) = c.unsigned_abs.ensures.value
    ∙ ap unsigned_abs (to_z-of_z w32 raw.first (search rules)) in
    subst (λ (n : ℕ). IfOk c.add_object.result (λ _. c.add_object.new.out.items ≡ c.args.out.now.items
    ++ aligned (object l.code.size (code_writes l raw.args n
    (first_number (frame_in raw)) s.file s.name s.table s.tuple)))) count_is
    (subst (λ (n : ℕ). IfOk c.add_object.result (λ _. c.add_object.new.out.items ≡ c.args.out.now.items
    ++ aligned (object l.code.size (code_writes l raw.args c.len.result n s.file s.name s.table s.tuple)))) first_is
    c.add_object.ensures)
