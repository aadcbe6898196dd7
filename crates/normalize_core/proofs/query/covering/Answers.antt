use Rattle.std.proofs.Common.{leb, Some, None, refl, sym, ap, ◌∙◌}
use Rattle.std.specs.Prelude.{option_copied}
use Rattle.std.proofs.lemmas.Bool.{cond-true, cond-false, le-leb, lt-leb}
use Rattle.std.proofs.lemmas.Option.{slice_get_past, slice_get_read}
use Rattle.normalize_core.proofs.Coverings.{covering_is, covering_only, started}
use Rattle.normalize_core.proofs.query.covering.Goals as goal

pub returns-in_err-entry : goal.returns-in_err-entry
returns-in_err-entry c =
    let entries = c.args.entries.now in
    let addr = c.args.addr in
    let next = c.ended_by.result in
    let is = covering_is entries addr next c.requires c.ended_by.ensures.0 c.ended_by.ensures.1 in
    let past = slice_get_past entries next c.in_err-entry.ensures.lookup.3 in
    record {
      is = ap option_copied c.from_residual.ensures ∙ sym (is ∙ ap (started addr) past);
      only = covering_only entries addr c.requires;
    }

pub returns-then-entry-addr : goal.returns-then-entry-addr
returns-then-entry-addr c =
    let entries = c.args.entries.now in
    let addr = c.args.addr in
    let next = c.ended_by.result in
    let entry = c.in_ok-entry.entry.now in
    let is = covering_is entries addr next c.requires c.ended_by.ensures.0 c.ended_by.ensures.1 in
    let lookup = c.in_ok-entry.ensures.lookup in
    let here = slice_get_read entries _ next entry refl lookup.3.0 lookup.1 in
    let starts = cond-true (leb entry.range.start addr) (Some entry) None (le-leb entry.range.start addr c.if-entry-addr.true) in
    record {
      is = sym (is ∙ ap (started addr) here ∙ starts);
      only = covering_only entries addr c.requires;
    }

pub returns-else-entry-addr : goal.returns-else-entry-addr
returns-else-entry-addr c =
    let entries = c.args.entries.now in
    let addr = c.args.addr in
    let next = c.ended_by.result in
    let entry = c.in_ok-entry.entry.now in
    let is = covering_is entries addr next c.requires c.ended_by.ensures.0 c.ended_by.ensures.1 in
    let lookup = c.in_ok-entry.ensures.lookup in
    let here = slice_get_read entries _ next entry refl lookup.3.0 lookup.1 in
    let starts = cond-false (leb entry.range.start addr) (Some entry) None (lt-leb entry.range.start addr c.if-entry-addr.false) in
    record {
      is = sym (is ∙ ap (started addr) here ∙ starts);
      only = covering_only entries addr c.requires;
    }
