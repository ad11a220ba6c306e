use Rattle.std.proofs.Common.{◌<◌, length, get_or, sym, refl, ◌∙◌, arith, rules}
use Rattle.std.proofs.lemmas.Option.{slice_get_read}
use Rattle.words.proofs.Gathering.{climbs_above, gathered_start, gathered_step, gathered_read}
use Rattle.words.proofs.forming.gather_in_place.Goals as goal

pub loop-i-init : goal.loop-i-init
loop-i-init g c = gathered_start c.args.word.now c.args.places.now c.args.word.now

pub offset_bounds-word-i : goal.offset_bounds-word-i
offset_bounds-word-i g c =
    let i = c.loop-i.i in
    let above = climbs_above i c.requires.climbing (omega arith) in
    let inside : i < length c.args.word.now = omega (arith, c.requires.below i (omega arith)) in
    search rules

pub bounds-word-i : goal.bounds-word-i
bounds-word-i g c =
    let i = c.loop-i.i in
    let above = climbs_above i c.requires.climbing (omega arith) in
    omega (arith, c.requires.below i (omega arith), c.loop-i.invariant.long)

pub loop-i-preserved : goal.loop-i-preserved
loop-i-preserved g c =
    let word = c.loop-i.word in
    let i = c.loop-i.i in
    let p = get_or c.args.places.now i 0 in
    let letter = c.index-word-place.result in
    let above = climbs_above i c.requires.climbing (omega arith) in
    let below = c.requires.below i (omega arith) in
    let read = slice_get_read word (length word) p letter refl (omega (arith, c.loop-i.invariant.long)) c.index-word-place.is in
    gathered_step letter (omega arith) (omega arith) (sym (gathered_read p (omega arith) c.loop-i.invariant) ∙ read)
    c.loop-i.invariant
