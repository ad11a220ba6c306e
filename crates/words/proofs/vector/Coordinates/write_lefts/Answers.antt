use Rattle.std.proofs.Common.{length, ap, ◌∙◌, arith}
use Rattle.words.proofs.Scans.{left_step, left_small}
use Rattle.words.proofs.vector.Coordinates.write_lefts.Goals as goal

pub put_in_front-requires-clause-small : goal.put_in_front-requires-clause-small
put_in_front-requires-clause-small c =
    let i = c.loop-i.i in
    let few = c.loop-i.self.few in
    let same = ap length c.loop-i.invariant.same in
    let cleared = ap length c.clear.ensures.same in
    let inside = c.loop-i.self.ranks i (omega arith) in
    omega (arith, left_small c.loop-i.i _ c.loop-i.invariant.seen inside)

pub loop-i-preserved : goal.loop-i-preserved
loop-i-preserved c =
    let same = ap length c.loop-i.invariant.same in
    let cleared = ap length c.clear.ensures.same in
    record {
      same = c.put_in_front.ensures.same ∙ c.loop-i.invariant.same;
      seen =
          rw c.put_in_front.ensures.same
          (left_step c.loop-i.i _ _ c.loop-i.invariant.seen (omega arith) (omega arith) c.put_in_front.ensures.ahead);
    }
