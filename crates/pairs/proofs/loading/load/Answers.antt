use Rattle.std.proofs.Common.{ap, ◌∙◌, subst}
use Rattle.std.proofs.lemmas.Result.{err_from_is_err_and}
use Rattle.files.specs.Words.{LetterRead}
use Rattle.strips.proofs.Outcomes.{clear_word}
use Rattle.pairs.proofs.Putting.{part_no_fault, loading_start, loading_more, loaded_end, loaded_refused, same_read}
use Rattle.pairs.proofs.loading.load.Goals as goal

pub loop-letter-init : goal.loop-letter-init
loop-letter-init g c = (
  loading_start _ g.L.CodedLetter.InRange _ g.L.CodedLetter.code g.met.L.CodedLetter.bounded g.met.L.CodedLetter.decodes g.met.L.CodedLetter.encodes c.args.codes.now c.clear.new.self c.over-letters.result.at
      (clear_word c.clear.ensures.rule) c.over-letters.ensures.1,
  c.over-letters.ensures.0,
)

pub unwrap-requires : goal.unwrap-requires
unwrap-requires g c =
    let (w, ranged, bytes) = c.requires in
    let read = subst (λ b. LetterRead g.L.CodedLetter.kind g.L.CodedLetter.InRange g.L.CodedLetter.code b c.loop-letter.letters.at c.next.result c.next.new.self.at) c.loop-letter.invariant.1 c.next.ensures.answer in
    part_no_fault _ _ _ _ g.met.L.CodedLetter.bounded g.met.L.CodedLetter.decodes g.met.L.CodedLetter.encodes _ _ _ _ w _ (c.loop-letter.invariant.0.part w ranged bytes) read

pub loop-letter-preserved : goal.loop-letter-preserved
loop-letter-preserved g c = (
  loading_more _ _ _ _ g.met.L.CodedLetter.bounded g.met.L.CodedLetter.decodes g.met.L.CodedLetter.encodes _ _ _ _ _ _ _ c.loop-letter.invariant.0
      (same_read c.loop-letter.invariant.1 c.unwrap.ensures c.in-Some.is c.next.ensures.answer) c.in_ok-put.ensures,
  ap (λ x. x.now) c.next.ensures.same_bytes ∙ c.loop-letter.invariant.1,
)

pub returns-in_err-put : goal.returns-in_err-put
returns-in_err-put g c =
    let p = err_from_is_err_and c.from_residual.result c.from_residual.ensures.1 in
    rw (p.1, p.2)
    (loaded_refused _ _ _ _ g.met.L.CodedLetter.bounded g.met.L.CodedLetter.decodes g.met.L.CodedLetter.encodes _ _ _ _ _ _ _ _ _ c.clear.ensures
    c.loop-letter.invariant.0 (same_read c.loop-letter.invariant.1 c.unwrap.ensures c.in-Some.is c.next.ensures.answer) c.in_err-put.ensures)

pub returns : goal.returns
returns g c =
    loaded_end _ _ _ _ g.met.L.CodedLetter.bounded g.met.L.CodedLetter.decodes g.met.L.CodedLetter.encodes _ _ _ _ _ _ c.clear.ensures
    c.loop-letter.invariant.0 (same_read c.loop-letter.invariant.1 c.unwrap.ensures c.in_default.is c.next.ensures.answer)
