use Rattle.std.proofs.Common.{[], refl}
use Rattle.std.proofs.lemmas.Result.{err_from_is_err_and}
use Rattle.core_words.specs.Seen.{asked_dump, asked_locate, asked_merge, asked_reach, asked_sample, asked_slim}
use Rattle.core_words.specs.Seen.{asked_walk}
use Rattle.core_words.specs.Words.{dump, locate, merge, reach, seeded, slim, walk}
use Rattle.core_report.specs.Reading.{merge_contents, core_contents, walk_contents}
use Rattle.program_run.proofs.Contents.{same_names}
use Rattle.core_report.proofs.Turns.{caused_of, comes_of, core_has, core_unread, sample_has}
use Rattle.core_report.proofs.command.text_of.Goals as goal

pub returns-in_err-walk_over-in-Walk-clause-comes : goal.returns-in_err-walk_over-in-Walk-clause-comes
returns-in_err-walk_over-in-Walk-clause-comes g c =
    let p = err_from_is_err_and c.from_residual-in_err-walk_over-in-Walk.result c.from_residual-in_err-walk_over-in-Walk.ensures.1 in
    let read = c.in_ok-read-in-Walk in
    rw (c.in-Walk.is, p.1, p.2) (caused_of _ _ (walk (asked_walk c.in-Walk.words)) (walk_contents read.read) _ read.ensures.read.0 c.in_err-walk_over-in-Walk.ensures)

pub returns-in_ok-walk_over-in-Walk-clause-comes : goal.returns-in_ok-walk_over-in-Walk-clause-comes
returns-in_ok-walk_over-in-Walk-clause-comes g c =
    let read = c.in_ok-read-in-Walk in
    rw c.in-Walk.is (comes_of _ _ (walk (asked_walk c.in-Walk.words)) (walk_contents read.read) c.in_ok-walk_over-in-Walk.field-0 read.ensures.read.0 c.in_ok-walk_over-in-Walk.ensures)

pub returns-in_err-read-in-Dump-clause-comes : goal.returns-in_err-read-in-Dump-clause-comes
returns-in_err-read-in-Dump-clause-comes g c =
    let p = err_from_is_err_and c.from_residual-in_err-read-in-Dump.result c.from_residual-in_err-read-in-Dump.ensures.1 in
    let d = asked_dump c.in-Dump.words in
    rw (c.in-Dump.is, p.1, p.2) (core_unread _ _ (dump d) _ c.in_err-read-in-Dump.field-0.0
    (same_names _ d.core _ d.layouts _ d.images c.as_bytes-core.ensures c.as_bytes-layouts.ensures c.deref.ensures.value)
    c.in_err-read-in-Dump.ensures.read)

pub returns-in_err-dump_over-in-Dump-clause-comes : goal.returns-in_err-dump_over-in-Dump-clause-comes
returns-in_err-dump_over-in-Dump-clause-comes g c =
    let p = err_from_is_err_and c.from_residual-in_err-dump_over-in-Dump.result c.from_residual-in_err-dump_over-in-Dump.ensures.1 in
    let read = c.in_ok-read-in-Dump in
    let d = asked_dump c.in-Dump.words in
    let has = core_has _ _ (dump d) _ read.read
    (same_names _ d.core _ d.layouts _ d.images c.as_bytes-core.ensures c.as_bytes-layouts.ensures c.deref.ensures.value) refl read.ensures.read in
    rw (c.in-Dump.is, p.1, p.2) (caused_of _ _ (dump d) (core_contents read.read) _ has c.in_err-dump_over-in-Dump.ensures)

pub returns-in_ok-dump_over-in-Dump-clause-comes : goal.returns-in_ok-dump_over-in-Dump-clause-comes
returns-in_ok-dump_over-in-Dump-clause-comes g c =
    let read = c.in_ok-read-in-Dump in
    let d = asked_dump c.in-Dump.words in
    let has = core_has _ _ (dump d) _ read.read
    (same_names _ d.core _ d.layouts _ d.images c.as_bytes-core.ensures c.as_bytes-layouts.ensures c.deref.ensures.value) refl read.ensures.read in
    rw c.in-Dump.is (comes_of _ _ (dump d) (core_contents read.read) c.in_ok-dump_over-in-Dump.field-0 has c.in_ok-dump_over-in-Dump.ensures)

pub returns-in_err-read-in-Reach-clause-comes : goal.returns-in_err-read-in-Reach-clause-comes
returns-in_err-read-in-Reach-clause-comes g c =
    let p = err_from_is_err_and c.from_residual-in_err-read-in-Reach.result c.from_residual-in_err-read-in-Reach.ensures.1 in
    let r = asked_reach c.in-Reach.words in
    rw (c.in-Reach.is, p.1, p.2) (core_unread _ _ (reach r) _ c.in_err-read-in-Reach.field-0.0
    (same_names _ r.core _ r.layouts _ r.images c.as_bytes-core-in-Reach.ensures.value c.as_bytes-layouts-in-Reach.ensures.value c.deref-in-Reach.ensures.value)
    c.in_err-read-in-Reach.ensures.read)

pub returns-in_err-reach_over-in-Reach-clause-comes : goal.returns-in_err-reach_over-in-Reach-clause-comes
returns-in_err-reach_over-in-Reach-clause-comes g c =
    let p = err_from_is_err_and c.from_residual-in_err-reach_over-in-Reach.result c.from_residual-in_err-reach_over-in-Reach.ensures.1 in
    let read = c.in_ok-read-in-Reach in
    let r = asked_reach c.in-Reach.words in
    let has = core_has _ _ (reach r) _ read.read
    (same_names _ r.core _ r.layouts _ r.images c.as_bytes-core-in-Reach.ensures.value c.as_bytes-layouts-in-Reach.ensures.value c.deref-in-Reach.ensures.value) refl read.ensures.read in
    rw (c.in-Reach.is, p.1, p.2) (caused_of _ _ (reach r) (core_contents read.read) _ has c.in_err-reach_over-in-Reach.ensures)

pub returns-in_ok-reach_over-in-Reach-clause-comes : goal.returns-in_ok-reach_over-in-Reach-clause-comes
returns-in_ok-reach_over-in-Reach-clause-comes g c =
    let read = c.in_ok-read-in-Reach in
    let r = asked_reach c.in-Reach.words in
    let has = core_has _ _ (reach r) _ read.read
    (same_names _ r.core _ r.layouts _ r.images c.as_bytes-core-in-Reach.ensures.value c.as_bytes-layouts-in-Reach.ensures.value c.deref-in-Reach.ensures.value) refl read.ensures.read in
    rw c.in-Reach.is (comes_of _ _ (reach r) (core_contents read.read) c.in_ok-reach_over-in-Reach.field-0 has c.in_ok-reach_over-in-Reach.ensures)

pub returns-in_err-merge_over-in-Merge-clause-comes : goal.returns-in_err-merge_over-in-Merge-clause-comes
returns-in_err-merge_over-in-Merge-clause-comes g c =
    let p = err_from_is_err_and c.from_residual-in_err-merge_over-in-Merge.result c.from_residual-in_err-merge_over-in-Merge.ensures.1 in
    let read = c.in_ok-read-in-Merge in
    rw (c.in-Merge.is, p.1, p.2) (caused_of _ _ (merge (asked_merge c.in-Merge.words)) (merge_contents read.read) _ read.ensures.read.0 c.in_err-merge_over-in-Merge.ensures)

pub returns-in_ok-merge_over-in-Merge-clause-comes : goal.returns-in_ok-merge_over-in-Merge-clause-comes
returns-in_ok-merge_over-in-Merge-clause-comes g c =
    let read = c.in_ok-read-in-Merge in
    rw c.in-Merge.is (comes_of _ _ (merge (asked_merge c.in-Merge.words)) (merge_contents read.read) c.in_ok-merge_over-in-Merge.field-0 read.ensures.read.0 c.in_ok-merge_over-in-Merge.ensures)

pub returns-in_err-read-in-Locate-clause-comes : goal.returns-in_err-read-in-Locate-clause-comes
returns-in_err-read-in-Locate-clause-comes g c =
    let p = err_from_is_err_and c.from_residual-in_err-read-in-Locate.result c.from_residual-in_err-read-in-Locate.ensures.1 in
    let l = asked_locate c.in-Locate.words in
    rw (c.in-Locate.is, p.1, p.2) (core_unread _ _ (locate l) _ c.in_err-read-in-Locate.field-0.0
    (same_names _ l.core _ l.layouts _ l.images c.as_bytes-core-in-Locate.ensures.value c.as_bytes-layouts-in-Locate.ensures.value c.deref-in-Locate.ensures.value)
    c.in_err-read-in-Locate.ensures.read)

pub returns-in_err-locate_over-in-Locate-clause-comes : goal.returns-in_err-locate_over-in-Locate-clause-comes
returns-in_err-locate_over-in-Locate-clause-comes g c =
    let p = err_from_is_err_and c.from_residual-in_err-locate_over-in-Locate.result c.from_residual-in_err-locate_over-in-Locate.ensures.1 in
    let read = c.in_ok-read-in-Locate in
    let l = asked_locate c.in-Locate.words in
    let has = core_has _ _ (locate l) _ read.read
    (same_names _ l.core _ l.layouts _ l.images c.as_bytes-core-in-Locate.ensures.value c.as_bytes-layouts-in-Locate.ensures.value c.deref-in-Locate.ensures.value) refl read.ensures.read in
    rw (c.in-Locate.is, p.1, p.2) (caused_of _ _ (locate l) (core_contents read.read) _ has c.in_err-locate_over-in-Locate.ensures)

pub returns-in_ok-locate_over-in-Locate-clause-comes : goal.returns-in_ok-locate_over-in-Locate-clause-comes
returns-in_ok-locate_over-in-Locate-clause-comes g c =
    let read = c.in_ok-read-in-Locate in
    let l = asked_locate c.in-Locate.words in
    let has = core_has _ _ (locate l) _ read.read
    (same_names _ l.core _ l.layouts _ l.images c.as_bytes-core-in-Locate.ensures.value c.as_bytes-layouts-in-Locate.ensures.value c.deref-in-Locate.ensures.value) refl read.ensures.read in
    rw c.in-Locate.is (comes_of _ _ (locate l) (core_contents read.read) c.in_ok-locate_over-in-Locate.field-0 has c.in_ok-locate_over-in-Locate.ensures)

pub returns-in_err-read-in-Slim-clause-comes : goal.returns-in_err-read-in-Slim-clause-comes
returns-in_err-read-in-Slim-clause-comes g c =
    let p = err_from_is_err_and c.from_residual-in_err-read-in-Slim.result c.from_residual-in_err-read-in-Slim.ensures.1 in
    let s = asked_slim c.in-Slim.words in
    rw (c.in-Slim.is, p.1, p.2) (core_unread _ _ (slim s) _ c.in_err-read-in-Slim.field-0.0
    (same_names _ s.core _ s.layouts _ s.images c.as_bytes-core-in-Slim.ensures.value c.as_bytes-layouts-in-Slim.ensures.value c.deref-in-Slim.ensures.value)
    c.in_err-read-in-Slim.ensures.read)

pub returns-in_err-slim_over-in-Slim-clause-comes : goal.returns-in_err-slim_over-in-Slim-clause-comes
returns-in_err-slim_over-in-Slim-clause-comes g c =
    let p = err_from_is_err_and c.from_residual-in_err-slim_over-in-Slim.result c.from_residual-in_err-slim_over-in-Slim.ensures.1 in
    let read = c.in_ok-read-in-Slim in
    let s = asked_slim c.in-Slim.words in
    let has = core_has _ _ (slim s) _ read.read
    (same_names _ s.core _ s.layouts _ s.images c.as_bytes-core-in-Slim.ensures.value c.as_bytes-layouts-in-Slim.ensures.value c.deref-in-Slim.ensures.value) refl read.ensures.read in
    rw (c.in-Slim.is, p.1, p.2) (caused_of _ _ (slim s) (core_contents read.read) _ has c.in_err-slim_over-in-Slim.ensures)

pub returns-in_ok-slim_over-in-Slim-clause-comes : goal.returns-in_ok-slim_over-in-Slim-clause-comes
returns-in_ok-slim_over-in-Slim-clause-comes g c =
    let read = c.in_ok-read-in-Slim in
    let s = asked_slim c.in-Slim.words in
    let has = core_has _ _ (slim s) _ read.read
    (same_names _ s.core _ s.layouts _ s.images c.as_bytes-core-in-Slim.ensures.value c.as_bytes-layouts-in-Slim.ensures.value c.deref-in-Slim.ensures.value) refl read.ensures.read in
    rw c.in-Slim.is (comes_of _ _ (slim s) (core_contents read.read) c.in_ok-slim_over-in-Slim.field-0 has c.in_ok-slim_over-in-Slim.ensures)

pub returns-in_err-sample_over-in-Sample-clause-comes : goal.returns-in_err-sample_over-in-Sample-clause-comes
returns-in_err-sample_over-in-Sample-clause-comes g c =
    let p = err_from_is_err_and c.from_residual-in_err-sample_over-in-Sample.result c.from_residual-in_err-sample_over-in-Sample.ensures.1 in
    let s = asked_sample c.in-Sample.words in
    let seen = g.F.Files.seen c.args.files.now in
    rw (c.in-Sample.is, p.1, p.2) (caused_of seen seen (seeded s) [] _ (sample_has seen s) c.in_err-sample_over-in-Sample.ensures)

pub returns-in_ok-sample_over-in-Sample-clause-comes : goal.returns-in_ok-sample_over-in-Sample-clause-comes
returns-in_ok-sample_over-in-Sample-clause-comes g c =
    let s = asked_sample c.in-Sample.words in
    let seen = g.F.Files.seen c.args.files.now in
    rw c.in-Sample.is (comes_of seen seen (seeded s) [] c.in_ok-sample_over-in-Sample.field-0 (sample_has seen s) c.in_ok-sample_over-in-Sample.ensures)
