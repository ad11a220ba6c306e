use Rattle.std.proofs.Common.{◌++◌, vec_items, ap, ◌∙◌}
use Rattle.std.specs.List.{flat_map}
use Rattle.pairs.proofs.Whole.{took_text}
use Rattle.pairs.proofs.run.text_of.Goals as goal

pub returns : goal.returns
returns c =
    let (ls, printed, taken) = c.in_ok-print_lines.ensures in
    (ls, printed, took_text vec_items _ _ ls taken ∙ ap (λ x. x ++ flat_map (λ l. l) ls) c.new-text.ensures.items)
