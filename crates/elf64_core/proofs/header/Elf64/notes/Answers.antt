use Rattle.std.proofs.Common.{◌≡◌, Some, ap, sym, subst, ◌∙◌, map, IfOk, refl}
use Rattle.elf64_core.specs.Header.{IsInside}
use Rattle.elf64_core.specs.Sections.{range_at}
use Rattle.elf64_core.specs.Notes.{AreNotes, AreNoNotes, bytes_of_range, noted}
use Rattle.elf64_core.proofs.Notes.{AreNotes-once, refused_by}
use Rattle.elf64_core.proofs.Tables.{range_is}
use Rattle.elf64_core.proofs.header.Elf64.notes.Goals as goal

pub returns-in_default-clause-once : goal.returns-in_default-clause-once
returns-in_default-clause-once c = AreNotes-once (bytes_of_range c.args.self.now c.args.start c.args.len)

pub returns-clause-bad : goal.returns-clause-bad
returns-clause-bad c = λ is.
    let range = c.in-Some.range.now in
    let known : Some range ≡ range_at c.args.self.now c.args.start c.args.len = c.in-Some.ensures.value ∙ ap (λ bs. range_at bs c.args.start c.args.len) c.bytes.ensures.same in
    let same : range ≡ bytes_of_range c.args.self.now c.args.start c.args.len = range_is c.args.self.now range c.args.start c.args.len known in
    let inside : IsInside c.bytes.result.now c.args.start c.args.len = c.in-Some.ensures.inside.0 refl in (
      subst (λ bs. IsInside bs c.args.start c.args.len) c.bytes.ensures.same inside,
      subst AreNoNotes same (c.notes_in.ensures.bad is),
    )

pub returns-clause-refused : goal.returns-clause-refused
returns-clause-refused c = λ bad.
    let range = c.in-Some.range.now in
    let known : Some range ≡ range_at c.args.self.now c.args.start c.args.len = c.in-Some.ensures.value ∙ ap (λ bs. range_at bs c.args.start c.args.len) c.bytes.ensures.same in
    let same : range ≡ bytes_of_range c.args.self.now c.args.start c.args.len = range_is c.args.self.now range c.args.start c.args.len known in
    refused_by range (λ v. map noted v.items) c.notes_in.result c.notes_in.ensures.notes (subst AreNoNotes (sym same) bad.1)

pub returns-clause-notes : goal.returns-clause-notes
returns-clause-notes c =
    let range = c.in-Some.range.now in
    let known : Some range ≡ range_at c.args.self.now c.args.start c.args.len = c.in-Some.ensures.value ∙ ap (λ bs. range_at bs c.args.start c.args.len) c.bytes.ensures.same in
    let same : range ≡ bytes_of_range c.args.self.now c.args.start c.args.len = range_is c.args.self.now range c.args.start c.args.len known in
    subst (λ bs. IfOk c.notes_in.result (λ v. AreNotes bs (map noted v.items))) same c.notes_in.ensures.notes

pub returns-clause-once : goal.returns-clause-once
returns-clause-once c = AreNotes-once (bytes_of_range c.args.self.now c.args.start c.args.len)
