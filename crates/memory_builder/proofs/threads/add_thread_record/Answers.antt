use Rattle.std.proofs.Common.{◌+◌, ◌≤◌, subst, sym}
use Rattle.py_fields.specs.Places.{Place, thread_places}
use Rattle.object_builder.specs.Objects.{Write, len_of}
use Rattle.object_builder.specs.Objects.Value.{U64}
use Rattle.object_builder.proofs.TextsBack.{place_optional}
use Rattle.memory_builder.proofs.threads.add_thread_record.Goals as goal

pub add_object-requires-clause-inside : goal.add_object-requires-clause-inside
unfolding thread_places
add_object-requires-clause-inside c =
    let at = c.args.layout.now.thread in
    let inside = c.requires.thread.group.inside in
    let native = subst (λ (p : Place). p.0 + p.1 ≤ at.size)
    (sym (place_optional at.native_id (U64 c.args.id))) inside.1.1.1.1.0 in (
      inside.0,
      (
        inside.1.0,
        (
          inside.1.1.0,
          (
            inside.1.1.1.0,
            (subst (λ (w : Write). w.at + len_of w.value ≤ at.size) (sym c.optional_write.ensures) native, tt),
          ),
        ),
      ),
    )
