use Rattle.std.proofs.Common.{◌-◌, length, string_bytes}
use Rattle.files.proofs.Progress.{Progress}
use Rattle.files.proofs.listing.push_records.Given as goal

abbrev pub invariant-loop-record : goal.invariant-loop-record
invariant-loop-record l = Progress l.initial.reader (string_bytes l.initial.text) l.reader (string_bytes l.text) l.plates l.letters

abbrev pub decreases-loop-record : goal.decreases-loop-record
decreases-loop-record l = length l.reader.bytes.now - l.reader.at
