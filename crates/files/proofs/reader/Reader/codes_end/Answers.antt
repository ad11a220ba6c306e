use Rattle.std.proofs.Common.{[], ◌∷◌, ◌++◌, refl, arith}
use Rattle.std.proofs.lemmas.List.{length_push}
use Rattle.files.proofs.Reading.{codes_more}
use Rattle.files.proofs.reader.Reader.codes_end.Goals as goal

pub loop-code-preserved : goal.loop-code-preserved
loop-code-preserved c =
    let (cs, read, count) = c.loop-code.invariant in
    let n = c.in_ok-number.number.value in (
      cs ++ (n ∷ []),
      codes_more _ _ cs _ _ _ _ read c.in_ok-number.ensures (c.if-not-is_code.ensures.0 refl),
      omega (arith, length_push cs n),
    )
