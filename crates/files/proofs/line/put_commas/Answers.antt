use Rattle.std.proofs.Common.{◌++◌, codes, decimal, refl, sym, ap, ◌∙◌, arith}
use Rattle.files.proofs.Commas.{fronts, fronts_more, fronts_rest}
use Rattle.files.proofs.line.put_commas.Goals as goal

pub loop-letter-preserved : goal.loop-letter-preserved
loop-letter-preserved g c =
    let code = g.L.CodedLetter.code in
    let row = c.args.row.now in
    let i = c.loop-letter.letter-index in
    let both = g.met.O.Output.both in
    let text = fronts_more code row i c.letter-item.result (omega arith) c.letter-item.is
    ∙ ap (λ n. fronts code row i ++ (codes "," ++ decimal n)) (sym c.code.ensures) in
    rw text (both _ _ _ _ _ c.loop-letter.invariant (both _ _ _ _ _ c.put.ensures c.put_number.ensures))

pub returns-then-is_done : goal.returns-then-is_done
returns-then-is_done g c =
    let text = fronts_rest g.L.CodedLetter.code c.args.row.now c.loop-letter.letter-index in
    let done = c.if-is_done.ensures refl _ in
    rw text (g.met.O.Output.both _ _ _ _ _ c.loop-letter.invariant done)
