use Rattle.std.proofs.lemmas.Result.{on_ok_weaker}
use Rattle.files.proofs.Lines.{line_text_lem}
use Rattle.files.proofs.listing.push_record.Goals as goal

pub returns : goal.returns
returns c =
    on_ok_weaker c.writeln.result
    (λ said k last place e allowed shows. line_text_lem k last place e c.args.item _ _ _ _ allowed shows c.in_ok-write.ensures.bytes c.in_ok-push_codes.ensures said)
    c.writeln.ensures.bytes
