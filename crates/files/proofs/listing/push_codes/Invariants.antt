use Rattle.std.proofs.Common.{◌-◌, length, string_bytes}
use Rattle.files.proofs.Lines.{Shown}
use Rattle.files.proofs.listing.push_codes.Given as goal

abbrev pub invariant-loop-value : goal.invariant-loop-value
invariant-loop-value l = Shown l.bytes l.at (string_bytes l.initial.text) (string_bytes l.text)

abbrev pub decreases-loop-value : goal.decreases-loop-value
decreases-loop-value l = length l.bytes - l.at
