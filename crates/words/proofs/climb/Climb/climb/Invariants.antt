use Rattle.std.proofs.Common.{◌≡◌}
use Rattle.words.specs.Stairs.{Stand, PartnerFrom}
use Rattle.words.proofs.climb.Climb.climb.Given as goal

abbrev pub invariant-loop-i : goal.invariant-loop-i
invariant-loop-i l = record {
  left : l.self.left ≡ record l.fn.self.left { at = l.i };
  right : l.self.right ≡ record l.fn.self.right { at = l.self.right.at };
  last : PartnerFrom l.fn.self.left.word l.fn.self.right.word l.i l.self.right.at;
  stair : Stand l.fn.self.left.word l.fn.self.right.word l.i l.stair.level l.stair.stand;
}
