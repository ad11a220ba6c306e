use Rattle.words.proofs.telling.tell.Goals as goal

pub write_row-requires-clause-degree : goal.write_row-requires-clause-degree
write_row-requires-clause-degree c = rw (c.into_pair.ensures, c.climb.ensures) (rw c.climb.ensures at c.in_ok-degree.ensures).2
