use Rattle.salvage_texts.proofs.MarkLaws.{frame_is_no_mark}
use Rattle.salvage_texts.proofs.salvaged.salvaged_text.Goals as goal

pub returns-in_err-push_salvaged-clause-unforged : goal.returns-in_err-push_salvaged-clause-unforged
returns-in_err-push_salvaged-clause-unforged c = frame_is_no_mark

pub returns-clause-unforged : goal.returns-clause-unforged
returns-clause-unforged c = frame_is_no_mark
