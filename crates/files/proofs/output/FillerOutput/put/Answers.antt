use Rattle.std.proofs.Common.{◌≡◌, ◌+◌, ◌-◌, ◌≤◌, ◌++◌, length, take, refl, ap, ◌∙◌, arith, rules}
use Rattle.std.proofs.lemmas.Slice.{take-put_mid, drop-put_mid}
use Rattle.files.proofs.output.FillerOutput.put.Goals as goal

pub returns-then-end-self : goal.returns-then-end-self
returns-then-end-self c =
    let old = c.args.self.now.out.now in
    let at = c.args.self.now.filled in
    let end = c.saturating_add-end.result in
    let text = c.copy_from_slice.ensures.after ∙ c.as_bytes.ensures.value in
    record {
      same_bytes = refl;
      long = search rules;
      appends = λ room.
          let end-is : end ≡ at + length c.args.text.now = search rules in
          let long : length c.copy_from_slice.new.self ≡ length c.args.text.now = ap length text in
          let inside : at ≤ length old = omega arith in
          record {
            end = end-is;
            front = take-put_mid at (end - at) old c.copy_from_slice.new.self end (omega arith) inside ∙ ap (λ x. take at old ++ x) text;
            rest = drop-put_mid at (end - at) old c.copy_from_slice.new.self end (omega arith) inside (omega arith);
          };
    }
