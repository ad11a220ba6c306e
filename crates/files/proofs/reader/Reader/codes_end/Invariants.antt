use Rattle.std.proofs.Common.{◌≡◌, ℕ, List, length}
use Rattle.files.specs.Records.{CodesRead}
use Rattle.files.proofs.reader.Reader.codes_end.Given as goal

-- So many codes were read as the loop took turns.
abbrev pub invariant-loop-code : goal.invariant-loop-code
invariant-loop-code l = (cs : List ℕ) × CodesRead l.self.kind l.self.bytes.now l.fn.head.codes cs l.at × (length cs ≡ l._code)
