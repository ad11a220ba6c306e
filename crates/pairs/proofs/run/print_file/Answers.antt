use Rattle.std.proofs.Common.{[], arith}
use Rattle.std.proofs.lemmas.Result.{err_from_is_err_and}
use Rattle.pairs.specs.Runs.{nothing_yet, too_long, not_opened, none_taken}
use Rattle.pairs.proofs.Whole.{modes_run, taps_run}
use Rattle.pairs.proofs.run.print_file.Goals as goal

pub returns-then-input-gt-LONGEST_FILE : goal.returns-then-input-gt-LONGEST_FILE
returns-then-input-gt-LONGEST_FILE g c = ([], nothing_yet, too_long (omega (arith, c.if-input-gt-LONGEST_FILE.true)), none_taken)

pub returns-in_err-reader : goal.returns-in_err-reader
returns-in_err-reader g c =
    let p = err_from_is_err_and c.from_residual.result c.from_residual.ensures.1 in
    rw (p.1, p.2)
    ([], nothing_yet, not_opened c.in_err-reader.field-0.0 (omega (arith, c.if-input-gt-LONGEST_FILE.false)) c.in_err-reader.ensures.answer, none_taken)

pub returns-in-Modes : goal.returns-in-Modes
returns-in-Modes g c =
    modes_run g.S.Sink.took _ _ _ _ _ c.in_ok-reader.ensures.answer.2 (omega (arith, c.if-input-gt-LONGEST_FILE.false)) c.print_kind.ensures

pub returns-in-Taps : goal.returns-in-Taps
returns-in-Taps g c =
    taps_run g.S.Sink.took _ _ _ _ _ c.in_ok-reader.ensures.answer.2 (omega (arith, c.if-input-gt-LONGEST_FILE.false)) c.print_kind-in-Taps.ensures
