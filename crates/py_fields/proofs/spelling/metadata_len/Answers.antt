use Rattle.std.proofs.Common.{sym}
use Rattle.std.proofs.lemmas.List.Sums.{prefix_len_is}
use Rattle.py_fields.specs.Fronts.{is_dotted}
use Rattle.py_fields.proofs.spelling.metadata_len.Goals as goal

pub returns-clause-value : goal.returns-clause-value
returns-clause-value c =
    sym (prefix_len_is is_dotted c.args.bytes.now c.dotted_end.result 0 c.dotted_end.ensures.within
    (λ k lt. c.dotted_end.ensures.before k lt) (λ lt. c.dotted_end.ensures.end lt))
