use Rattle.std.proofs.Common.{◌≡◌, Err, sym, subst, rules}
use Rattle.std.proofs.lemmas.Result.{err_from_is_err_and}
use Rattle.pairs.specs.declared.fault.RunFault.TheVariants.{Record}
use Rattle.pairs.specs.Plates.{Loaded, PlateAnswer}
use Rattle.pairs.proofs.Giving.{plated, was_ok, was_err}
use Rattle.pairs.proofs.plate.read_plate.Goals as goal

pub load-requires : goal.load-requires
load-requires g c =
    let same : c.args.reader.now.kind ≡ g.L.CodedLetter.kind = search rules in
    let p = plated _ _ _ _ g.met.L.CodedLetter.decodes _ _ _ _ same c.in-Some.is c.in_ok-next.ensures.answer in
    (p.word, p.ranged, p.bytes)

pub returns : goal.returns
returns g c =
    let same : c.args.reader.now.kind ≡ g.L.CodedLetter.kind = search rules in
    let p = plated _ _ _ _ g.met.L.CodedLetter.decodes _ _ _ _ same c.in-Some.is c.in_ok-next.ensures.answer in
    let all = was_ok _ _ _ _ c.map_err.ensures.cases c.in_ok-map_err.was in
    (p.word, p.given, subst (λ r. Loaded c.args.strip.now p.word r c.load.new.strip) all (c.load.ensures p.word p.ranged p.bytes))

pub returns-in_err-map_err : goal.returns-in_err-map_err
returns-in_err-map_err g c =
    let same : c.args.reader.now.kind ≡ g.L.CodedLetter.kind = search rules in
    let p = plated _ _ _ _ g.met.L.CodedLetter.decodes _ _ _ _ same c.in-Some.is c.in_ok-next.ensures.answer in
    let (fault, was, is) = was_err _ _ _ _ c.map_err.ensures.cases c.in_err-map_err.was in
    let q = err_from_is_err_and c.from_residual-in_err-map_err.result c.from_residual-in_err-map_err.ensures.1 in
    let record_refused : c.in_err-map_err.field-0.0 ≡ Record fault c.in-Some.record.place = search rules in
    rw (q.1, q.2)
    (subst (λ d. PlateAnswer g.L.CodedLetter.kind g.L.CodedLetter.InRange g.L.CodedLetter.code c.args.reader.now c.args.strip.now (Err d) c.next.new.self c.load.new.strip) (sym record_refused)
    (_, p.given, p.place, subst (λ r. Loaded c.args.strip.now p.word r c.load.new.strip) was (c.load.ensures p.word p.ranged p.bytes)))
