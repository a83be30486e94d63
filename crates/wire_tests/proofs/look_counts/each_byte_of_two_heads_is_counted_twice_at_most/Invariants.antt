use Rattle.wire_tests.proofs.look_counts.each_byte_of_two_heads_is_counted_twice_at_most.Given as goal

abbrev pub ghosts-given_of : goal.ghosts-given_of
ghosts-given_of g a = record { name = a.blank.name; parts = a.blank.parts }
