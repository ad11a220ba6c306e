use Rattle.std.proofs.Common.{sym}
use Rattle.words.proofs.Tables.{stretch_first, stretch_second, stretch_degree}
use Rattle.words.proofs.stretches.Stretches.least.Goals as goal

pub bounds-self-inside-row : goal.bounds-self-inside-row
bounds-self-inside-row c =
    let known = c.self.invariant in
    stretch_first _ _ _ _ _ known.few known.room c.requires.some (rw (sym c.self.view_is) at c.requires.inside) c.ilog2-level.ensures.power_le c.ilog2-level.ensures.next_power_gt

pub bounds-self-inside-row-2 : goal.bounds-self-inside-row-2
bounds-self-inside-row-2 c =
    let known = c.self.invariant in
    stretch_second _ _ _ _ _ known.few known.room c.requires.some (rw (sym c.self.view_is) at c.requires.inside) c.ilog2-level.ensures.power_le c.ilog2-level.ensures.next_power_gt

pub returns : goal.returns
returns c =
    let known = c.self.invariant in
    rw (← c.self.view_is, c.min.ensures) (stretch_degree _ _ _ _ _ known.few known.room c.requires.some (rw (sym c.self.view_is) at c.requires.inside) c.ilog2-level.ensures.power_le c.ilog2-level.ensures.next_power_gt known.rows)
