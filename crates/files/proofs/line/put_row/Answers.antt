use lib.ListN.{length-map}
use Rattle.files.proofs.line.put_row.Goals as goal

pub returns : goal.returns
returns g c =
    let both = g.met.O.Output.both in
    let row = c.in-Some.ensures.cases.0 in
    let degree = length-map c.in-Some.rest.now g.L.CodedLetter.code in
    let side = c.side_text.ensures in
    let letter = c.code.ensures in
    rw (row, degree, ← side, ← letter)
    (both _ _ _ _ _ c.put-2.ensures
    (both _ _ _ _ _ c.put_number.ensures
    (both _ _ _ _ _ c.put-3.ensures (both _ _ _ _ _ c.put_number-2.ensures (both _ _ _ _ _ c.put_commas.ensures c.put-4.ensures)))))
