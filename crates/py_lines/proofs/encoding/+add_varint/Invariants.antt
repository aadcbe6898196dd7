use Rattle.py_lines.proofs.encoding.+add_varint.Given as goal

abbrev pub decreases-add_varint : goal.decreases-add_varint
decreases-add_varint l = l.most
