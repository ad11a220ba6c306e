use Rattle.std.proofs.Common.{sym, ◌∙◌, subst}
use Rattle.std.specs.Cmp.{Equal-is}
use Rattle.std.proofs.lemmas.Bool.Decides.{not_from_Decides}
use Rattle.std.proofs.lemmas.List.{take_all}
use Rattle.strips.specs.Words.{In}
use Rattle.strips.proofs.Deciding.{yes, no, scan_found, scan_more}
use Rattle.strips.proofs.kinds.is_present.Goals as goal

pub returns-then-is_eq : goal.returns-then-is_eq
returns-then-is_eq g c =
    yes (scan_found g.L.OrderedLetter.order g.met.L.OrderedLetter.same g.met.L.OrderedLetter.itself c.args.word.now c.loop-other.other-index c.args.letter c.other-item.result
    c.loop-other-test.true c.other-item.is (sym c.compare.ensures ∙ (Equal-is c.compare.result).0 (sym c.is_eq.ensures ∙ c.if-is_eq.true)))

pub loop-other-preserved : goal.loop-other-preserved
loop-other-preserved g c =
    scan_more g.L.OrderedLetter.order g.met.L.OrderedLetter.same g.met.L.OrderedLetter.itself c.args.word.now c.loop-other.other-index c.args.letter c.other-item.result
    c.loop-other-test.true c.other-item.is (λ e. not_from_Decides _ (Equal-is c.compare.result) (sym c.is_eq.ensures ∙ c.if-is_eq.false) (c.compare.ensures ∙ e)) c.loop-other.invariant

pub returns : goal.returns
returns g c = no (λ h. c.loop-other.invariant (subst (In c.args.letter) (sym (take_all c.loop-other.other-index c.args.word.now c.loop-other-test.false)) h))
