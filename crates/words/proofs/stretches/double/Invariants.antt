use Rattle.std.proofs.Common.{◌≡◌, ℕ, ◌+◌, ◌<◌, min, slice_index, slice_index_or}
use Rattle.words.proofs.stretches.double.Given as goal

abbrev pub invariant-loop-j : goal.invariant-loop-j
invariant-loop-j l =
    (k : ℕ) → k < l.j → slice_index l.next k ≡ min (slice_index l.row k) (slice_index_or l.row (k + l.size) (slice_index l.row k))
