use Rattle.files.proofs.line.PlatesLineText.put.Goals as goal

pub returns : goal.returns
returns g c =
    let both = g.met.O.Output.both in
    both _ _ _ _ _ c.put_number.ensures
    (both _ _ _ _ _ c.put.ensures (both _ _ _ _ _ c.put_number-2.ensures c.put_row.ensures))
