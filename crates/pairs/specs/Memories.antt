-- The memory that is lent to tell plates apart, and what a call leaves of it.
use Rattle.std.specs.Prelude.{◌≡◌, ◌≤◌, List, length}
use Rattle.std.specs.Borrow.{MutBor}
use Rattle.pairs.specs.declared.memory.Memory.{Memory}

-- A lent slice is still that of the same lender, and as long.
abbrev pub SameLoan : {A : Type 0} → MutBor (List A) → MutBor (List A) → Type 0
SameLoan s t = (t.ghost_name ≡ s.ghost_name) × (length t.now ≡ length s.now)

-- The three slices of the memory are still those of the same lenders, and as long.
pub record SameLoans {L : Type 0} (m m' : Memory L) : Type 0 where
  pub row : SameLoan m.row m'.row
  pub scratch : SameLoan m.scratch m'.scratch
  pub line : SameLoan m.line m'.line

-- The memory suffices for the steps of a run.
pub record Room {L : Type 0} (m : Memory L) : Type 0 where
  pub row_room : 401 ≤ length m.row.now
  pub scratch_room : 12832 ≤ length m.scratch.now
  pub line_room : 4096 ≤ length m.line.now
