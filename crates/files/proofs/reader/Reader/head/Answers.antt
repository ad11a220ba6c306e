use Rattle.std.proofs.Common.{refl, inl, inr}
use Rattle.std.proofs.lemmas.Result.{err_from_is_err_and}
use Rattle.files.proofs.Reading.{number_fault_lem}
use Rattle.files.proofs.reader.Reader.head.Goals as goal

pub returns-in_err-plate : goal.returns-in_err-plate
returns-in_err-plate c =
    let p = err_from_is_err_and c.from_residual.result c.from_residual.ensures.1 in
    rw (p.1, p.2) (number_fault_lem _ _ _ _ _ _ (inl refl) c.in_err-plate.ensures)

pub returns-in_err-count : goal.returns-in_err-count
returns-in_err-count c =
    let p = err_from_is_err_and c.from_residual-in_err-count.result c.from_residual-in_err-count.ensures.1 in
    rw (p.1, p.2)
    (number_fault_lem _ _ _ _ _ _ (inr (inl (_, (c.in_ok-plate.ensures, c.if-plate-self.false)))) c.in_err-count.ensures)
