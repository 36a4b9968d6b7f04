use Rattle.lrc_table.proofs.table.Pass.load_memo.Given as goal

abbrev pub ghosts-load_word : goal.ghosts-load_word
ghosts-load_word g a = record { allows = g.M.Meaning.allows a.table.now.meaning; reach = g.M.Meaning.reach a.table.now.meaning }
