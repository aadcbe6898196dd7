use Rattle.memory_tests.proofs.record_tests.a_counted_memory_answers_the_same.Given as goal

abbrev pub ghosts-check_counted : goal.ghosts-check_counted
ghosts-check_counted g a = record { name = a.blank.name; parts = a.blank.parts }
