use Rattle.std.proofs.Common.{◌≡◌, rules}
use Rattle.std.proofs.lemmas.Fn.{filter_same}
use Rattle.std.specs.List.{filter}
use Rattle.hexdump.specs.Digits.{is_no_capital}
use Rattle.hexdump.proofs.from_lowercase_hex.Goals as goal

pub returns : goal.returns
returns c =
    let kept : c.retain.new.self.items ≡ filter is_no_capital c.args.text.items =
    filter_same _ _ _ (λ x b f' k. search rules) _ _ c.retain.ensures.filtered in
    let text : c.deref.result.now ≡ c.retain.new.self.items = search rules in
    rw (← kept, ← text) c.from_hex.ensures
