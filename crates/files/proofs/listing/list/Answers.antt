use Rattle.std.proofs.Common.{sym, subst}
use Rattle.std.proofs.lemmas.Result.{IfOk-weaker}
use Rattle.files.specs.Listing.{Listed, unopened}
use Rattle.files.proofs.Progress.{file_listed}
use Rattle.files.proofs.listing.list.Goals as goal

pub returns-in_ok-push_records-in-Ok : goal.returns-in_ok-push_records-in-Ok
returns-in_ok-push_records-in-Ok c =
    let kind = c.kind-kind.ensures in
    let number = c.from-number.ensures in
    let line = c.in_ok-text-in-Ok.ensures.ok in
    file_listed c.in-Ok.reader _ _ _ c.in-Ok.ensures.answer (cc) c.in_ok-push_records-in-Ok.ensures

pub returns-in-Err : goal.returns-in-Err
returns-in-Err c =
    IfOk-weaker c.format-in-Err.result _ _ (λ t said. subst (Listed c.args.bytes.now) (sym said) (unopened c.in-Err.fault c.in-Err.ensures.answer)) c.format-in-Err.ensures.ok
