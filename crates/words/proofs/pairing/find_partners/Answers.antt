use Rattle.std.proofs.Common.{◌+◌, ◌∙◌, ap, arith}
use Rattle.words.proofs.Paths.{found_held, partners_none, partners_more, partners_all}
use Rattle.words.proofs.pairing.find_partners.Goals as goal

pub loop-place-init : goal.loop-place-init
loop-place-init c = rw (c.len-place.ensures.result, c.len-2.ensures.result) (record {
  path = c.start-path.ensures;
  partners = partners_none _ _ _ _ c.requires.room (c.number_of.ensures ∙ ap (λ n. n + 1) c.len.ensures.result);
})

pub loop-place-preserved : goal.loop-place-preserved
loop-place-preserved c = record {
  path = c.step-above.ensures.leads;
  partners = partners_more _ _ _ _ _ _ (omega (arith, c.len-place.ensures.result)) (omega arith)
      (rw c.number_of-in-loop-place.ensures (found_held _ c.partner.ensures)) c.loop-place.invariant.partners;
}

pub returns : goal.returns
returns c = partners_all _ _ _ _ c.loop-place-test.false c.loop-place.invariant.partners
