use Rattle.std.proofs.Common.{◌≡◌, ◌++◌, ℕ, [], ◌∷◌, subst}
use Rattle.std.specs.Prelude.{IfOk}
use Rattle.object_builder.specs.Objects.Value.{U32, U64}
use Rattle.image_builder.specs.Records.{record_of}
use Rattle.image_builder.proofs.elf_records.add_segment.Goals as goal

pub returns : goal.returns
returns c =
    let s = c.args.segment.now in
    subst (λ (n : ℕ). IfOk c.add_record.result (λ _. c.add_record.new.out.items ≡ c.args.out.now.items
    ++ record_of (U32 s.kind ∷ U32 s.flags ∷ U64 s.offset ∷ U64 s.addr ∷ U64 0 ∷ U64 s.file_size ∷ U64 s.mem_size
    ∷ U64 n ∷ [])))
    c.alignment.ensures c.add_record.ensures
