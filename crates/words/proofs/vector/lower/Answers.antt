use Rattle.std.proofs.Common.{min, map, get_or, ◌∙◌, append-nil, arith}
use Rattle.std.proofs.lemmas.List.Edits.{map_over_more}
use Rattle.std.proofs.lemmas.List.{get_or_default, drop_all, take_all}
use Rattle.words.proofs.vector.lower.Goals as goal

pub loop-x-preserved : goal.loop-x-preserved
loop-x-preserved c =
    let vector = c.loop-x.vector in
    let i = c.loop-x.x-index in
    simp c.min.ensures
    (map_over_more (λ x. min x c.args.most) c.args.vector.now vector i (get_or vector i 0) (omega arith)
    c.loop-x.invariant (get_or_default vector i 0 (get_or vector i 0) (omega arith)))

pub returns : goal.returns
returns c =
    let was = c.args.vector.now in
    let i = c.loop-x.x-index in
    c.loop-x.invariant
    ∙ rw (drop_all i was (omega arith), take_all i was (omega arith)) (append-nil (map (λ x. min x c.args.most) was))
