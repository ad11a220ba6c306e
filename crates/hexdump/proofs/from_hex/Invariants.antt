use Rattle.std.proofs.Common.{◌≡◌, ◌<◌, ◌++◌, drop}
use Rattle.std.specs.Prelude.{IfSome}
use Rattle.hexdump.specs.Digits.{digits_of, paired, bytes_of}
use Rattle.hexdump.proofs.Pairing.{waiting}
use Rattle.hexdump.proofs.from_hex.Given as goal

abbrev pub invariant-loop-character : goal.invariant-loop-character
invariant-loop-character l = record {
  so_far : l.bytes.items ++ paired (waiting l.first ++ digits_of (drop l.character-index l.text)) ≡ bytes_of l.text;
  small : IfSome l.first (λ d. d < 16);
}
