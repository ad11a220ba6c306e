use Rattle.std.proofs.Common.{refl, arith}
use Rattle.words.proofs.LetterOrders.{before_order}
use Rattle.words.proofs.Numbering.{first_below, second_below}
use Rattle.words.proofs.RowWords.{same_words, row_ranks, separated}
use Rattle.words.proofs.separating.separate_shorter.Goals as goal

pub tell-requires-clause-left_letters : goal.tell-requires-clause-left_letters
tell-requires-clause-left_letters g c = rw c.len.ensures (first_below c.number-alphabet.ensures.ranks)

pub tell-requires-clause-right_letters : goal.tell-requires-clause-right_letters
tell-requires-clause-right_letters g c = rw c.len.ensures (second_below c.number-alphabet.ensures.ranks)

pub returns-in_err-telling : goal.returns-in_err-telling
returns-in_err-telling g c =
    let same = rw c.in_err-telling.was at c.tell.ensures in
    rw c.from_residual.ensures (same_words c.number-alphabet.ensures.ranks same, refl)

pub write_letters-requires-clause-ranks : goal.write_letters-requires-clause-ranks
write_letters-requires-clause-ranks g c =
    let (few, first, side) = rw c.in_ok-telling.was at c.tell.ensures in
    row_ranks c.number-alphabet.ensures.ranks c.tell.new.row _ first.0

pub returns : goal.returns
returns g c =
    let laws = g.met.L.OrderedLetter in
    let order = before_order g.L.OrderedLetter.order laws.same laws.itself laws.flips laws.onward in
    let (few, first, side) = rw c.in_ok-telling.was at c.tell.ensures in
    separated c.number-alphabet.ensures.ranks order c.in_ok-telling.telling c.tell.new.row c.args.row.now c.write_letters.new.row
    c.requires.shorter (omega (arith, few)) few first side
    (rw c.number-alphabet.ensures.same at c.write_letters.ensures.letters) c.write_letters.ensures.rest
