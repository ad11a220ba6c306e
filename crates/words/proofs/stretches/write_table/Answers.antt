use Rattle.std.proofs.Common.{◌≡◌, ◌-◌, length, ap, ◌∙◌, arith}
use Rattle.std.proofs.lemmas.List.{take_at}
use Rattle.std.proofs.Math.Decide.{ℕ_discrete}
use Rattle.std.proofs.lemmas.Grind.{common_steps}
use Rattle.words.proofs.Places.{length_rights}
use Rattle.words.proofs.Tables.{rows_first, rows_more, shifted}
use Rattle.words.proofs.stretches.write_table.Goals as goal

pub loop-level-init : goal.loop-level-init
loop-level-init c =
    let long : length c.write_rights.new.out ≡ length c.args.word.now = ap length c.write_rights.ensures.rights ∙ length_rights ℕ_discrete c.args.word.now in
    rows_first _ _ (take_at _ _ _ long ∙ c.write_rights.ensures.rights)

pub loop-level-preserved : goal.loop-level-preserved
loop-level-preserved c =
    let split = c.split_at_mut-done.ensures in
    rows_more c.args.word.now c.loop-level.level _ _ _ _ _ (omega arith) split.front_len (grind (arith, common_steps, c.double.auto.next)) (shifted (c.loop-level.level - 1) (omega arith))
    (rw split.value at c.loop-level.invariant) (grind (arith, common_steps)) c.double.ensures
