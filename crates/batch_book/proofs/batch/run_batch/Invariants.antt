use Rattle.batch_book.proofs.batch.run_batch.Given as goal

abbrev pub ghosts-worked_book : goal.ghosts-worked_book
ghosts-worked_book g a = record { jobs = a.count }
