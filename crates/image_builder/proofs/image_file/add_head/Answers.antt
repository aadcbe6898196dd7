use Rattle.std.proofs.Common.{◌≡◌, ◌++◌, subst}
use Rattle.std.specs.Prelude.{IfOk}
use Rattle.memory_builder.proofs.Adding.{four_added, two_added}
use Rattle.image_builder.specs.CoreFiles.{segment_headers}
use Rattle.image_builder.specs.ElfRecords.{file_fields}
use Rattle.image_builder.specs.ImageFiles.{image_head, image_segments, image_strings, image_symbols, section_headers}
use Rattle.image_builder.specs.Records.{record_of}
use Rattle.image_builder.proofs.Appending.{if_added}
use Rattle.image_builder.proofs.image_file.add_head.Goals as goal

pub returns : goal.returns
unfolding image_head
returns c =
    let old = c.args.out.now.items in
    let r = c.extend_from_slice.result in
    let new = c.extend_from_slice.new.self.items in
    let header = record_of (file_fields 2 c.args.machine 2 0xb0 4 3) in
    let headers = segment_headers image_segments in
    let before = c.add_symbols.new.out.items in
    let last = subst (λ xs. IfOk r (λ _. new ≡ before ++ xs)) c.strings.ensures
    (if_added r new before c.strings.result.now c.extend_from_slice.ensures.items) in
    two_added r new old c.add_file_header.new.out.items header (headers
    ++ (section_headers ++ (image_symbols ++ image_strings))) c.in_ok-add_file_header.ensures
    (four_added r new c.add_file_header.new.out.items c.add_segments.new.out.items c.add_sections.new.out.items
    c.add_symbols.new.out.items headers section_headers image_symbols image_strings
    c.in_ok-add_segments.ensures c.in_ok-add_sections.ensures c.in_ok-add_symbols.ensures last)
