use Rattle.tb_sorted.proofs.merging.merged_lists.Given as goal

abbrev pub ghosts-counted_pairs : goal.ghosts-counted_pairs
ghosts-counted_pairs g a = record { name = a.blank.name; parts = a.blank.parts }
