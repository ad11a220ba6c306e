use Rattle.files.proofs.Lines.{shown_more, shown_all}
use Rattle.files.proofs.listing.push_codes.Goals as goal

pub loop-value-preserved : goal.loop-value-preserved
loop-value-preserved c =
    shown_more _ _ _ _ _ _ _ c.loop-value.invariant c.in-Ok.ensures.answer c.in_ok-write.ensures.bytes

pub returns : goal.returns
returns c = shown_all _ _ _ _ _ c.loop-value.invariant c.in_default.ensures.answer
