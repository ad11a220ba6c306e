-- What stands for the places of the left word, in memory: one place more.
use Rattle.std.proofs.Common.{◌≡◌, ℕ, ◌-◌, ◌<◌, ◌≤◌, ◌≢◌, List, length, get_or, set, arith, length-set, get_or-set_other, get_or-set_same}
use native.Mathlib.Decide.{dec_lt}
use Rattle.words.specs.Stairs.{Stand}
use Rattle.words.specs.Ready.{Ready}
use Rattle.words.specs.declared.stairs.Pair.TheInside.{Inside}

pub ready_left : (p p' : Inside) (i level stand : ℕ) → i ≡ p.left.at
    → p'.left ≡ record p.left { at = p.left.at - 1 } → p'.right ≡ p.right → p'.stretches ≡ p.stretches
    → p'.levels.now ≡ set p.levels.now i level → p'.stands.now ≡ set p.stands.now i stand
    → 0 < p.left.at → Stand p.left.word p.right.word p.left.at level stand → Ready p → Ready p'
ready_left p p' i level stand here left right stretches le se more new old = record {
  same = rw (right, stretches) old.same;
  few = rw right old.few;
  letters = rw (left, right) old.letters;
  few_letters = rw left old.few_letters;
  left_letters = rw left old.left_letters;
  right_letters = rw (left, right) old.right_letters;
  level_room = rw (left, le, length-set) old.level_room;
  stand_room = rw (left, se, length-set) old.stand_room;
  stood = λ k low high. rw (left, right, le, se) (at k (rw left at low) (rw left at high) (dec_lt p.left.at k));
}
  where
    s : List ℕ
    s = p.left.word

    t : List ℕ
    t = p.right.word

    at : (k : ℕ) → p.left.at - 1 < k → k ≤ length s → Dec (p.left.at < k)
        → Stand s t k (get_or (set p.levels.now i level) k 0) (get_or (set p.stands.now i stand) k 0)
    at k low high (yes b) =
        let ne : k ≢ i = λ f. omega (arith, f) in
        rw (get_or-set_other p.levels.now i k level 0 ne, get_or-set_other p.stands.now i k stand 0 ne) (old.stood k b high)
    at k low high (no b) =
        let f : k ≡ i = omega arith in
        let e : k ≡ p.left.at = omega arith in
        let lr : i < length p.levels.now = omega (arith, old.level_room) in
        let sr : i < length p.stands.now = omega (arith, old.stand_room) in
        rw (f, get_or-set_same p.levels.now i level 0 lr, get_or-set_same p.stands.now i stand 0 sr) (rw (← here) at new)
