use Rattle.std.proofs.Common.{◌≡◌, [], length}
use native.Mathlib.Decide.{ℕ_discrete}
use Rattle.words.specs.Steps.{lefts}
use Rattle.words.proofs.Passing.{Passing}
use Rattle.words.proofs.lean.Lean.keep_needed.Given as goal

abbrev pub invariant-loop-i : goal.invariant-loop-i
invariant-loop-i l = record {
  k : l.self.k ≡ l.fn.self.k;
  same : l.coordinates.word.now ≡ l.fn.coordinates.word.now;
  room : length l.self.places.now ≡ length l.coordinates.word.now;
  left : l.self.before.now ≡ lefts ℕ_discrete [] l.coordinates.word.now;
  passing : Passing l.self.k l.coordinates.word.now l.i l.first l.coordinates.ahead.now l.self.places.now l.self.ranks.now l.self.behind.now;
}
