use Rattle.std.proofs.Common.{◌+◌, refl, add-one, arith}
use Rattle.words.proofs.Paths.{found_at, partner_none, partner_sibling, partner_child}
use Rattle.words.proofs.pairing.partner.Goals as goal

pub returns-in_err-place_at-in-Some : goal.returns-in_err-place_at-in-Some
returns-in_err-place_at-in-Some c =
    let (above, same) = rw c.in-Some.is at c.requires.above in
    rw c.from_residual.ensures
    (partner_none _ _ _ _ _ _ above refl c.in_err-place_at-in-Some.ensures (c.requires.partners.at _ (omega (arith, above.from)) above.inside))

pub returns-in_err-place_at-in-None : goal.returns-in_err-place_at-in-None
returns-in_err-place_at-in-None c =
    let (above, deeper) = rw c.in-None.is at c.requires.above in
    rw c.from_residual-in_err-place_at-in-None.ensures
    (partner_none _ _ _ _ _ _ above (omega arith) c.in_err-place_at-in-None.ensures (c.requires.partners.at (c.args.place + 1) (omega arith) (omega (arith, c.requires.inside))))

pub returns-in_ok-place_at-in-Some : goal.returns-in_ok-place_at-in-Some
returns-in_ok-place_at-in-Some c =
    let turn = rw c.in-Some.is at c.requires.above in
    let paired = found_at _ c.in_ok-place_at-in-Some.ensures (c.requires.partners.at _ (omega (arith, turn.0.from)) turn.0.inside) in
    partner_sibling _ _ _ _ _ _ turn paired c.sibling.ensures

pub returns-in_ok-place_at-in-None : goal.returns-in_ok-place_at-in-None
returns-in_ok-place_at-in-None c =
    let turn = rw c.in-None.is at c.requires.above in
    let paired = found_at _ c.in_ok-place_at-in-None.ensures (c.requires.partners.at _ (omega arith) (omega (arith, c.requires.inside))) in
    partner_child _ _ _ _ _ turn (rw add-one at paired) (rw c.depth.ensures at c.child.ensures)
