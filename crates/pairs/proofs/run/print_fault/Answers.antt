use Rattle.std.proofs.Common.{rules, arith}
use Rattle.pairs.proofs.Lengths.{refusal_short, refused_room}
use Rattle.pairs.proofs.run.print_fault.Goals as goal

pub unreachable-requires : goal.unreachable-requires
unreachable-requires g c =
    let short = refusal_short c.refusal.result.number c.refusal.result.place (omega arith) (omega arith) in
    let wrote = c.in_default.ensures in
    search (rules, refused_room)
