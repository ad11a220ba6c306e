use Rattle.pairs.proofs.Whole.{fault_run}
use Rattle.pairs.proofs.run.print_lines.Goals as goal

pub returns-in-Err-Refused : goal.returns-in-Err-Refused
returns-in-Err-Refused g c =
    fault_run g.S.Sink.took _ _ _ _ c.in-Err-Refused.fault _ (rw c.in-Err-Refused.field-0-is at c.in-Err-Refused.ensures) c.print_fault.ensures
