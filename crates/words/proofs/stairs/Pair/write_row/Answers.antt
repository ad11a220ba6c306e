use Rattle.std.proofs.Common.{◌≡◌, ◌-◌, arith}
use Rattle.words.proofs.RowLetters.{written_none, written_both, written_more, written_last}
use Rattle.words.proofs.stairs.Pair.write_row.Goals as goal

pub loop-at-init : goal.loop-at-init
loop-at-init c = written_none _ _ _ c.requires.left_start c.requires.right_start c.requires.degree

pub first_letter-letter-requires-clause-degree : goal.first_letter-letter-requires-clause-degree
first_letter-letter-requires-clause-degree c = c.loop-at.invariant.degree

pub go_behind-requires-clause-left : goal.go_behind-requires-clause-left
go_behind-requires-clause-left c =
    (written_both (omega arith) c.loop-at.invariant c.first_letter-letter.ensures.first).0

pub go_behind-requires-clause-right : goal.go_behind-requires-clause-right
go_behind-requires-clause-right c =
    (written_both (omega arith) c.loop-at.invariant c.first_letter-letter.ensures.first).1

pub loop-at-preserved : goal.loop-at-preserved
loop-at-preserved c =
    let gone = c.go_behind.ensures in
    written_more (omega arith) c.loop-at.invariant c.first_letter-letter.ensures.first
    _ (omega arith) gone.left_word gone.right_word gone.left gone.right

pub first_letter-letter-requires-2-clause-degree : goal.first_letter-letter-requires-2-clause-degree
first_letter-letter-requires-2-clause-degree c =
    let one : c.args.degree - c.loop-at.at ≡ 1 = omega arith in
    rw one at c.loop-at.invariant.degree

pub returns-clause-first : goal.returns-clause-first
returns-clause-first c =
    let e : c.loop-at.at ≡ c.args.degree - 1 = omega arith in
    (written_last _ (omega arith) (omega arith) (rw e at c.loop-at.invariant) c.first_letter-letter-2.ensures.first c.side_of.ensures).0

pub returns-clause-side : goal.returns-clause-side
returns-clause-side c =
    let e : c.loop-at.at ≡ c.args.degree - 1 = omega arith in
    (written_last _ (omega arith) (omega arith) (rw e at c.loop-at.invariant) c.first_letter-letter-2.ensures.first c.side_of.ensures).1
