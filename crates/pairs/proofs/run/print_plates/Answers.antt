use Rattle.std.proofs.Common.{◌≡◌, rules}
use Rattle.std.proofs.lemmas.Result.{err_from_is_err_and}
use Rattle.strips.specs.Strips.{capacity_of}
use Rattle.words.specs.Letters.{Before}
use Rattle.pairs.proofs.Running.{running_first, running_next, running_end, running_stops, empty_run, refused_run}
use Rattle.pairs.proofs.run.print_plates.Goals as goal

pub returns-in_err-first : goal.returns-in_err-first
returns-in_err-first g c =
    let size : capacity_of c.open-earlier.result ≡ 400 = search rules in
    let p = err_from_is_err_and c.from_residual.result c.from_residual.ensures.1 in
    rw (p.1, p.2)
    (refused_run (Before g.L.OrderedLetter.order) g.L.CodedLetter.kind g.L.CodedLetter.InRange g.L.CodedLetter.code g.S.Sink.took
    _ _ _ _ c.in_err-first.field-0.0 c.args.sink.now c.requires.fresh size c.in_err-first.ensures)

pub returns-in_default : goal.returns-in_default
returns-in_default g c = empty_run _ _ _ _ g.S.Sink.took _ _ _ _ c.args.sink.now _ c.requires.fresh c.in_default.is c.in_ok-first.ensures

pub loop-next-init : goal.loop-next-init
loop-next-init g c =
    let size : capacity_of c.open-earlier.result ≡ 400 = search rules in
    let other : capacity_of c.open-later.result ≡ 400 = search rules in
    record {
      running = running_first _ _ _ _ g.S.Sink.took _ _ _ _ _ c.open-later.result c.args.sink.now _ c.requires.fresh size other c.in-Some.is c.in_ok-first.ensures;
      room = c.requires.room;
    }

pub returns-in_err-next : goal.returns-in_err-next
returns-in_err-next g c =
    let p = err_from_is_err_and c.from_residual-in_err-next.result c.from_residual-in_err-next.ensures.1 in
    rw (p.1, p.2)
    (running_stops (Before g.L.OrderedLetter.order) g.L.CodedLetter.kind g.L.CodedLetter.InRange g.L.CodedLetter.code g.S.Sink.took
    _ _ _ _ _ _ _ c.advance.new.later _ _ c.loop-next.invariant.running c.in_err-next.field-0.0 c.in_err-next.ensures.answer)

pub returns-in_default-next : goal.returns-in_default-next
returns-in_default-next g c =
    running_end _ _ _ _ g.S.Sink.took _ _ _ _ _ _ _ c.advance.new.later _ _ c.loop-next.invariant.running _ c.in_default-next.is c.in_ok-next.ensures.answer

pub loop-next-preserved : goal.loop-next-preserved
loop-next-preserved g c =
    let r = running_next _ _ _ _ g.S.Sink.took _ _ _ _ _ _ _ _ _ _ c.loop-next.invariant.running _ _ c.in-Some-next.is c.in_ok-next.ensures.answer in
    record { running = rw (c.swap.ensures.x_after, c.swap.ensures.y_after) r; room = c.in_ok-next.ensures.room }
