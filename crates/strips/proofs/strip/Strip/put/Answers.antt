use Rattle.std.proofs.Common.{◌<◌, length, sym, refl, subst, arith, length-set}
use Rattle.std.proofs.lemmas.List.{take_more_set}
use Rattle.std.proofs.lemmas.Bool.Decides.{not_from_Decides}
use Rattle.strips.specs.Rule.{Admits}
use Rattle.strips.specs.Strips.{word_of, capacity_of}
use Rattle.strips.specs.Words.{AtMost}
use Rattle.strips.proofs.Calls.{few_added, put_full, put_crowded, put_done}
use Rattle.strips.proofs.strip.Strip.put.Goals as goal

pub returns-then-place-capacity : goal.returns-then-place-capacity
returns-then-place-capacity g c = put_full c.args.self.now c.args.letter (omega (arith, c.if-place-capacity.true, c.capacity.ensures))

pub returns-then-not-admits : goal.returns-then-not-admits
returns-then-not-admits g c =
    let not = not_from_Decides c.admits.result c.admits.ensures c.if-not-admits.true in
    put_crowded c.args.self.now c.args.letter (omega (arith, c.if-place-capacity.false, c.capacity.ensures)) (λ h. not (subst (Admits c.args.letter) (sym c.word.ensures.word) h))

pub invariant_of-self : goal.invariant_of-self
invariant_of-self g c =
    let s = c.args.self.now in
    let room : s.len < capacity_of s = omega (arith, c.if-place-capacity.false, c.capacity.ensures) in
    let free : s.len < length s.letters.now = omega arith in
    let admitted = subst (Admits c.args.letter) c.word.ensures.word (c.admits.ensures.0 c.if-not-admits.false) in
    record {
      fits = omega (arith, length-set s.letters.now s.len c.args.letter);
      few = subst (λ v. ∥ AtMost 64 v ∥₁) (sym (take_more_set s.letters.now s.len c.args.letter free)) (few_added (word_of s) c.args.letter admitted s.few);
    }

pub returns : goal.returns
returns g c =
    let s = c.args.self.now in
    let room : s.len < capacity_of s = omega (arith, c.if-place-capacity.false, c.capacity.ensures) in
    let admitted = subst (Admits c.args.letter) c.word.ensures.word (c.admits.ensures.0 c.if-not-admits.false) in
    put_done s _ c.args.letter refl refl refl room admitted
