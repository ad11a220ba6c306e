use Rattle.std.proofs.Common.{◌≡◌, ◌+◌, ◌++◌, length, take, drop, decimal, refl, sym, ap, ◌∙◌, arith, rules, length-append, length-take-le, take-append-drop, append_assoc}
use lib.Seq.{take-append_seam, drop-append_seam}
use Rattle.files.proofs.output.FillerOutput.put_number.Goals as goal

pub returns-then-end-self : goal.returns-then-end-self
returns-then-end-self c =
    let old = c.args.self.now.out.now in
    let new = c.write_digits.new.buf in
    let at = c.args.self.now.filled in
    let end = c.saturating_add-end.result in
    let digits = decimal c.args.number in
    record {
      same_bytes = refl;
      long = search rules;
      appends = λ room.
          let end-is : end ≡ at + length digits = search rules in
          let start : c.write_digits.result ≡ at = omega arith in
          let front = take at old ++ digits in
          let long : length front ≡ end = omega (arith, length-append (take at old) digits, length-take-le at old (omega arith)) in
          let whole : new ≡ front ++ drop end old =
          rw (append_assoc (take at old) digits (drop end old), ← c.write_digits.ensures.written, ← start, ← c.write_digits.ensures.before)
          (sym (take-append-drop c.write_digits.result new)) in
          record {
            end = end-is;
            front = ap (take end) whole ∙ ap (λ n. take n (front ++ drop end old)) (sym long) ∙ take-append_seam front (drop end old);
            rest = ap (drop end) whole ∙ ap (λ n. drop n (front ++ drop end old)) (sym long) ∙ drop-append_seam front (drop end old);
          };
    }
