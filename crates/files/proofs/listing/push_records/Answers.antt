use Rattle.std.proofs.lemmas.Result.{on_ok_weaker}
use Rattle.files.proofs.Progress.{progress_start, progress_more, progress_end, progress_fault}
use Rattle.files.proofs.listing.push_records.Goals as goal

pub loop-record-init : goal.loop-record-init
loop-record-init c = progress_start _ _

pub loop-record-preserved : goal.loop-record-preserved
loop-record-preserved c =
    let given = rw c.in-Ok-Some.field-0-is at c.in-Ok-Some.ensures in
    rw c.from.ensures
    (progress_more _ _ _ _ _ _ c.loop-record.invariant c.in-Ok-Some.record _ _ given.answer c.in_ok-push_record-in-Ok-Some.ensures)

pub returns-in-Ok-None : goal.returns-in-Ok-None
returns-in-Ok-None c =
    let none = rw c.in-Ok-None.field-0-is at c.in-Ok-None.ensures in
    let place = c.place-bytes.ensures in
    on_ok_weaker c.writeln.result
    (λ said first inside. progress_end _ _ _ _ _ _ c.loop-record.invariant c.next.new.self _ none.answer first inside (rw (← place) said))
    c.writeln.ensures.bytes

pub returns-in-Err : goal.returns-in-Err
returns-in-Err c =
    on_ok_weaker c.writeln-in-Err.result
    (λ said first inside. progress_fault _ _ _ _ _ _ c.loop-record.invariant _ _ _ c.in-Err.ensures.answer first said)
    c.writeln-in-Err.ensures.bytes
