-- What an iterator over segments or sections has left.
use Rattle.std.specs.Prelude.{List}
use Rattle.elf64_core.specs.declared.section.Section.{Section}
use Rattle.elf64_core.specs.declared.section.Sections.{Sections}
use Rattle.elf64_core.specs.declared.segment.Segment.{Segment}
use Rattle.elf64_core.specs.declared.segment.Segments.{Segments}
use Rattle.elf64_core.specs.Header.{segments_from}
use Rattle.elf64_core.specs.Sections.{sections_from}

-- the segments that an iterator has yet to give
abbrev pub segments_left : Segments → List Segment
segments_left s = segments_from s.bytes.now s.at s.left

-- the sections that an iterator has yet to give
abbrev pub sections_left : Sections → List Section
sections_left s = sections_from s.bytes.now s.at s.left
