use Rattle.std.proofs.Common.{◌≡◌, ℕ, List, length, sym, ◌∙◌, subst, arith}
use Rattle.std.proofs.lemmas.Bool.Decides.{not_from_Decides}
use Rattle.strips.proofs.Collecting.{Collected, collected_same, collected_new, collected_over, collected_all}
use Rattle.strips.proofs.Deciding.{yes, no}
use Rattle.strips.proofs.kinds.kinds_fit.Goals as goal
use Rattle.strips.proofs.kinds.kinds_fit.Goals.{then-not-is_present+else-count-found, else-not-is_present}

is : {A : Type 0} (w : List A) (n i : ℕ) (found found' : List A) (count count' : ℕ) → found' ≡ found → count' ≡ count → Collected w n i found count → Collected w n i found' count'
is w n i found found' count count' e f h = subst (λ x. Collected w n i x count') (sym e) (subst (Collected w n i found) (sym f) h)

pub returns-then-count-found : goal.returns-then-count-found
returns-then-count-found g c =
    let l = c.loop-letter in
    let b = c.letter-item.result in
    no (collected_over c.args.word.now (length c.args.found.now) l.letter-index l.found l.count l.invariant b c.loop-letter-test.true c.letter-item.is
    (not_from_Decides c.is_present.result c.is_present.ensures c.if-not-is_present.true)
    (c.if-count-found.true ∙ l.invariant.size))

pub loop-letter-preserved : goal.loop-letter-preserved
loop-letter-preserved g c =
    let l = c.loop-letter in
    let b = c.letter-item.result in
    let present = c.is_present.ensures in
    elim c.if-not-is_present.branch [
      | then-not-is_present+else-count-found w ↦
          is c.args.word.now (length c.args.found.now) _ _ _ _ _ w.found-is w.count-is
          (collected_new c.args.word.now (length c.args.found.now) l.letter-index l.found l.count l.invariant b c.loop-letter-test.true c.letter-item.is
          (not_from_Decides c.is_present.result present w.if-not-is_present.true) (omega (arith, w.if-count-found.false, l.invariant.size, l.invariant.within)))
      | else-not-is_present w ↦
          is c.args.word.now (length c.args.found.now) _ _ _ _ _ w.found-is w.count-is
          (collected_same c.args.word.now (length c.args.found.now) l.letter-index l.found l.count l.invariant b c.loop-letter-test.true c.letter-item.is
          (present.0 w.if-not-is_present.false))
    ]

pub returns : goal.returns
returns g c =
    let l = c.loop-letter in
    yes (collected_all c.args.word.now (length c.args.found.now) l.letter-index l.found l.count l.invariant c.loop-letter-test.false)
