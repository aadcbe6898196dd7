use Rattle.std.proofs.Common.{◌∙◌, sym, arith}
use Rattle.process_memory.proofs.Reading.{reading_gives}
use Rattle.py_census.proofs.blocks.read_block.Goals as goal

pub returns : goal.returns
returns g c = reading_gives 3 _ c.read_set.ensures (omega arith)
    (λ m h. rw (
      sym c.is_list.ensures ∙ c.if-is_list.false,
      sym c.is_dict.ensures ∙ c.if-is_dict.false,
      sym c.is_type.ensures ∙ c.if-is_type.false,
    ) h)
