use Rattle.std.proofs.Common.{ℕ, ◌*◌, ◌<◌, ◌≤◌, length, mul-le-mul_right, arith}
use Rattle.strips.proofs.kinds.has_room_for_a_kind.Goals as goal

-- The word is longer than m letters and lies in memory, so m letters are not larger than memory can be.
less_memory : (m n size most : ℕ) → m < n → n * size < most → m * size < most
less_memory m n size most more h = let k : m * size ≤ n * size = mul-le-mul_right size (omega arith) in omega (arith, h, k)

pub whole_as_slice-kinds_fit : goal.whole_as_slice-kinds_fit
whole_as_slice-kinds_fit g c = less_memory _ (length c.args.word.now) _ 9223372036854775808 c.if-word-le-KINDS_WITH_ROOM.false c.well_formed.0.1
