-- What becomes of an output that is given bytes.
use Rattle.std.specs.Prelude.{◌≡◌, ℕ, ◌+◌, ◌-◌, ◌≤◌, List, ◌++◌, length, take, drop, Some, None, Option, if◌then◌else◌, nat_le}
use Rattle.files.specs.declared.output.Filler.{Filler}

-- The room that is left behind so many bytes; none where they do not fit.
abbrev pub room_behind : ℕ → Option ℕ → Option ℕ
room_behind n None = None
room_behind n (Some room) = if nat_le n room then Some (room - n) else None

-- The bytes s were written at place i of what was `old`, up to place j; nothing else is changed.
pub record Appends (old : List ℕ) (i : ℕ) (s : List ℕ) (j : ℕ) (new : List ℕ) : Type 0 where
  pub end : j ≡ i + length s
  pub front : take j new ≡ take i old ++ s
  pub rest : drop j new ≡ drop j old

-- The bytes s were written behind those that were filled, if there is room for them.
pub record Fills (a : Filler) (s : List ℕ) (b : Filler) : Type 0 where
  pub same_bytes : b.out.ghost_name ≡ a.out.ghost_name
  pub long : length b.out.now ≡ length a.out.now
  pub appends : a.filled + length s ≤ length a.out.now → Appends a.out.now a.filled s b.filled b.out.now
