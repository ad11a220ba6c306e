use Rattle.std.proofs.Common.{◌≡◌, length, sym, refl, ap, ◌∙◌, arith}
use native.Mathlib.Decide.{ℕ_discrete}
use Rattle.words.proofs.Places.{length_rights}
use Rattle.words.proofs.Staircase.{partner_end, stand_end, partner_found}
use Rattle.words.proofs.climb.Climb.climb.Goals as goal

pub loop-i-init : goal.loop-i-init
loop-i-init c =
    let long : length c.args.depths.now ≡ length c.args.self.now.left.word = ap length c.requires.depths ∙ length_rights ℕ_discrete _ in
    let cap = rw c.self.view_is at c.cap.ensures.cap in
    let stand = rw c.self.view_is at c.right_at.ensures in
    record {
      left = ap (λ n. record c.args.self.now.left { at = n }) (c.requires.left_end ∙ sym long);
      right = refl;
      last = rw (long, c.requires.right_end) (partner_end _ _);
      stair = rw (cap, stand, c.requires.right_end, long) (stand_end _ _);
    }

pub find_stair-stair-requires-clause-partner : goal.find_stair-stair-requires-clause-partner
find_stair-stair-requires-clause-partner c =
    rw (c.put_left.ensures, c.loop-i.invariant.left, c.loop-i.invariant.right)
    (partner_found _ c.checked_sub.ensures (c.requires.partners.at _ (omega arith)))
