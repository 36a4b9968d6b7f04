use Rattle.lrc_table.proofs.table.Pass.split.Given as goal

abbrev pub ghosts-cut : goal.ghosts-cut
ghosts-cut g a = record { amount = a.quota }
