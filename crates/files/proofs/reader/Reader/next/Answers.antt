use Rattle.std.proofs.Common.{Some, Ok, Err, sym, refl, arith}
use Rattle.std.proofs.lemmas.Result.{err_from_is_err_and}
use Rattle.files.proofs.OneReading.{next_read}
use Rattle.files.proofs.Reading.{code_fault, stands_part, entry_stands}
use Rattle.files.proofs.reader.Reader.next.Goals as goal

pub returns-in_err-head : goal.returns-in_err-head
returns-in_err-head c =
    let p = err_from_is_err_and c.from_residual.result c.from_residual.ensures.1 in
    rw (p.1, p.2) (next_read _ (Err _) _ (omega arith, c.in_err-head.ensures, refl))

pub returns-in_err-end : goal.returns-in_err-end
returns-in_err-end c =
    let p = err_from_is_err_and c.from_residual-in_err-end.result c.from_residual-in_err-end.ensures.1 in
    let (cs, j, read, due, fault) = c.in_err-end.ensures in
    rw (p.1, p.2) (next_read _ (Err _) _ (omega arith, code_fault c.args.self.now j _ (_, _, _, cs, c.in_ok-head.ensures, read, due) fault, refl))

pub returns : goal.returns
returns c =
    let (cs, read, count) = c.in_ok-end.ensures in
    let (allowed, stands) = entry_stands _ _ cs _ _ _ _ _ _ c.in_ok-head.ensures read count in
    next_read _ (Ok (Some _)) _ (record { plate = _; codes = cs }, allowed, stands, (refl, sym count, refl, stands_part _ _ _ _ read.0), refl)
