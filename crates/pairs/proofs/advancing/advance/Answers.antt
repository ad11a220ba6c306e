use Rattle.std.proofs.Common.{refl, arith}
use Rattle.std.proofs.lemmas.Result.{err_from_is_err_and}
use Rattle.pairs.proofs.Putting.{code_small}
use Rattle.pairs.proofs.Printing.{advanced_line, unprinted_line, advanced_fault, advanced_end}
use Rattle.pairs.proofs.advancing.advance.Goals as goal

pub returns-in_err-stepped-clause-answer : goal.returns-in_err-stepped-clause-answer
returns-in_err-stepped-clause-answer g c =
    let p = err_from_is_err_and c.from_residual.result c.from_residual.ensures.1 in
    rw (p.1, p.2)
    (advanced_fault _ _ _ _ (code_small _ _ _ _ g.met.L.CodedLetter.bounded g.met.L.CodedLetter.decodes g.met.L.CodedLetter.encodes) g.S.Sink.took _ _ _ _ _ _ c.args.memory.now
    c.step.new.memory _ _ c.requires.room c.requires.standing (omega arith) c.in_err-stepped.field-0.0 c.in_err-stepped.ensures refl)

pub returns-in_default-clause-answer : goal.returns-in_default-clause-answer
returns-in_default-clause-answer g c =
    advanced_end _ _ _ _ (code_small _ _ _ _ g.met.L.CodedLetter.bounded g.met.L.CodedLetter.decodes g.met.L.CodedLetter.encodes) g.S.Sink.took _ _ _ _ _ _ c.args.memory.now
    c.step.new.memory _ _ c.requires.room c.requires.standing (omega arith) _ c.in_default.is c.in_ok-stepped.ensures refl

pub returns-in_err-take-clause-answer : goal.returns-in_err-take-clause-answer
returns-in_err-take-clause-answer g c =
    let p = err_from_is_err_and c.from_residual-in_err-take.result c.from_residual-in_err-take.ensures.1 in
    rw (p.1, p.2)
    (unprinted_line _ _ _ _ (code_small _ _ _ _ g.met.L.CodedLetter.bounded g.met.L.CodedLetter.decodes g.met.L.CodedLetter.encodes) g.S.Sink.took _ _ _ _ _ _ c.args.memory.now
    c.step.new.memory c.args.sink.now c.take.new.self c.requires.room c.requires.standing (omega arith) c.in-Some.next _ c.in-Some.is c.in_ok-stepped.ensures c.in_err-take.field-0.0
    c.in_err-take.ensures)

pub returns-clause-answer : goal.returns-clause-answer
returns-clause-answer g c =
    advanced_line _ _ _ _ (code_small _ _ _ _ g.met.L.CodedLetter.bounded g.met.L.CodedLetter.decodes g.met.L.CodedLetter.encodes) g.S.Sink.took _ _ _ _ _ _ c.args.memory.now
    c.step.new.memory c.args.sink.now c.take.new.self c.requires.room c.requires.standing (omega arith) c.in-Some.next _ c.in-Some.is c.in_ok-stepped.ensures
    c.in_ok-take.ensures
