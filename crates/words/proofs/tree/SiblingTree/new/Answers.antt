use Rattle.std.proofs.Common.{◌-◌, arith}
use Rattle.words.proofs.Paths.{siblings_none, siblings_sibling, siblings_child, siblings_all}
use Rattle.words.proofs.tree.SiblingTree.new.Goals as goal

pub loop-place-init : goal.loop-place-init
loop-place-init c = rw c.len-place.ensures.result (record {
  path = c.start-path.ensures;
  siblings = siblings_none _ _ _ c.requires.room (c.fill.ensures.after (λ y h. h));
})

pub loop-place-preserved-in-Some : goal.loop-place-preserved-in-Some
loop-place-preserved-in-Some c = record {
  path = c.step.ensures.leads;
  siblings = siblings_sibling _ _ _ _ _ _ c.in-Some.ensures.above (omega arith) c.number_of.ensures c.loop-place.invariant.siblings;
}

pub loop-place-preserved : goal.loop-place-preserved
loop-place-preserved c = record {
  path = c.step.ensures.leads;
  siblings = siblings_child _ (c.loop-place.place - 1) _ _ c.in_default.ensures.above (omega arith) c.loop-place.invariant.siblings;
}

pub invariant_of-result : goal.invariant_of-result
invariant_of-result c =
    let found = c.loop-place.invariant.siblings in record { room = found.room; siblings = siblings_all _ _ _ c.loop-place-test.false found }
