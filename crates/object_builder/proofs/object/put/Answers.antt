use Rattle.std.proofs.Common.{refl, length, ◌+◌, ◌∙◌}
use Rattle.object_builder.specs.Objects.{bytes_of}
use Rattle.object_builder.specs.Objects.Value.{U64, U32, U16, U8}
use Rattle.object_builder.proofs.Making.{put_mid_is}
use Rattle.object_builder.proofs.object.put.Goals as goal

pub returns-in-U64 : goal.returns-in-U64
unfolding bytes_of
returns-in-U64 c = rw c.in-U64.is (put_mid_is c.args.at (c.args.at + 8) c.args.out.now c.copy_from_slice.new.self
    (bytes_of (U64 c.in-U64.n)) (c.copy_from_slice.ensures.after ∙ c.to_le_bytes.ensures) refl)

pub returns-in-U32 : goal.returns-in-U32
unfolding bytes_of
returns-in-U32 c = rw c.in-U32.is (put_mid_is c.args.at (c.args.at + 4) c.args.out.now c.copy_from_slice-in-U32.new.self
    (bytes_of (U32 c.in-U32.n)) (c.copy_from_slice-in-U32.ensures.after ∙ c.to_le_bytes-in-U32.ensures) refl)

pub returns-in-U16 : goal.returns-in-U16
unfolding bytes_of
returns-in-U16 c = rw c.in-U16.is (put_mid_is c.args.at (c.args.at + 2) c.args.out.now c.copy_from_slice-in-U16.new.self
    (bytes_of (U16 c.in-U16.n)) (c.copy_from_slice-in-U16.ensures.after ∙ c.to_le_bytes-in-U16.ensures) refl)

pub returns-in-U8 : goal.returns-in-U8
unfolding bytes_of
returns-in-U8 c = rw c.in-U8.is (put_mid_is c.args.at (c.args.at + 1) c.args.out.now c.copy_from_slice-in-U8.new.self
    (bytes_of (U8 c.in-U8.n)) c.copy_from_slice-in-U8.ensures.after refl)

pub returns-in-Bytes : goal.returns-in-Bytes
unfolding bytes_of
returns-in-Bytes c = rw c.in-Bytes.is (put_mid_is c.args.at
    (c.args.at + length c.in-Bytes.bytes.now) c.args.out.now c.copy_from_slice-in-Bytes.new.self c.in-Bytes.bytes.now
    c.copy_from_slice-in-Bytes.ensures.after refl)
