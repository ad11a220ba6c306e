use Rattle.words.specs.Paths.{Leads}
use Rattle.words.proofs.Paths.{SiblingsFrom}
use Rattle.words.proofs.tree.SiblingTree.new.Given as goal

abbrev pub invariant-loop-place : goal.invariant-loop-place
invariant-loop-place l = record {
  path : Leads l.tree l.place l.path;
  siblings : SiblingsFrom l.tree l.place l.siblings;
}
