use Rattle.std.proofs.Common.{◌-◌, [], length, sym, refl, ap, ◌∙◌, arith, length-set}
use native.Mathlib.Decide.{ℕ_discrete}
use Rattle.words.specs.Steps.{lefts}
use Rattle.words.proofs.Passing.{passing_start, passing_small, passing_drop, passing_keep, passing_end}
use Rattle.words.proofs.lean.Lean.keep_needed.Goals as goal

pub loop-i-init : goal.loop-i-init
loop-i-init c =
    let lean = c.args.self.now in
    let word = c.clear.new.self.word.now in
    let same = c.clear.ensures.same ∙ c.write_lefts.ensures.same in
    let room = c.requires.room ∙ ap length (sym same) in
    record {
      k = refl;
      same = same;
      room = room;
      left = c.write_lefts.ensures.lefts ∙ ap (lefts ℕ_discrete []) (sym same);
      passing =
          passing_start lean.k word lean.places.now lean.ranks.now lean.behind.now room
          (omega (arith, lean.long)) (omega (arith, lean.long)) c.clear.ensures.ahead;
    }

pub overflow_add-self : goal.overflow_add-self
overflow_add-self c =
    let h = c.loop-i.invariant in
    let i = c.loop-i.i - 1 in
    let few = c.loop-i.coordinates.few in
    let small =
    passing_small i (omega arith) h.passing (omega arith) (c.loop-i.coordinates.ranks i (omega arith)) h.left
    (omega (arith, c.loop-i.self.long)) in
    omega (arith, small.0, small.1, c.at.ensures)

pub loop-i-preserved-then-self-i : goal.loop-i-preserved-then-self-i
loop-i-preserved-then-self-i c =
    let h = c.loop-i.invariant in
    let i = c.loop-i.i - 1 in
    let same = c.put_in_front.ensures.same in
    record {
      k = h.k;
      same = same ∙ h.same;
      room = length-set _ _ _ ∙ h.room ∙ ap length (sym same);
      left = h.left ∙ ap (lefts ℕ_discrete []) (sym same);
      passing =
          rw same
          (passing_keep i (omega arith) h.passing (omega arith) (c.loop-i.coordinates.ranks i (omega arith)) h.left
          (c.loop-i.first - 1) c.put_in_front.result c.put_in_front.new.self.ahead.now
          (omega (arith, h.passing.above)) h.room (omega (arith, c.loop-i.self.long)) (omega (arith, c.loop-i.self.long))
          c.put_in_front.ensures.ahead (omega (arith, c.if-self-i.true, c.at.ensures)));
    }

pub loop-i-preserved : goal.loop-i-preserved
loop-i-preserved c =
    let h = c.loop-i.invariant in
    let i = c.loop-i.i - 1 in
    record {
      k = h.k;
      same = h.same;
      room = h.room;
      left = h.left;
      passing =
          passing_drop i (omega arith) h.passing (omega arith) (c.loop-i.coordinates.ranks i (omega arith)) h.left
          (omega (arith, c.if-self-i.false, c.at.ensures));
    }

pub returns-clause-lean : goal.returns-clause-lean
returns-clause-lean c =
    rw (sym c.loop-i.invariant.k, sym c.loop-i.invariant.same) (passing_end c.loop-i.invariant.passing (omega arith))
