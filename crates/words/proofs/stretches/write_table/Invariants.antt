use Rattle.words.specs.Stretches.{Rows}
use Rattle.words.proofs.stretches.write_table.Given as goal

abbrev pub invariant-loop-level : goal.invariant-loop-level
invariant-loop-level l = Rows l.word l.level l.table
