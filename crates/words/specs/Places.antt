-- What the private functions behind `separate` promise each other about the places of words. Read from right to left, the
-- right coordinates of a word are the depths of the nodes of a tree in preorder; the place above a place, its siblings, and
-- the places of two words that are reached by the same steps in both trees.
use Rattle.std.specs.Prelude.{◌≡◌, ℕ, suc, ◌<◌, ◌≤◌, List, [], ◌∷◌, length, drop, slice_index}
use Rattle.std.proofs.Math.Decide.{dec_le}
use Rattle.std.proofs.Math.Logic.{ite}
use Rattle.words.specs.Steps.{right, rights}

module _ {A : Type 0} (eq : (x y : A) → Dec (x ≡ y)) where
  -- the first end part whose coordinate is at most `k`
  unfoldable pub stop : ℕ → List A → List A
  stop k [] = []
  stop k (a ∷ u) = ite (dec_le (right eq a u) k) (a ∷ u) (stop k u)

  -- The empty end parts are partners. The others are if they have the same coordinate, and the places above them are
  -- partners: the stops, at that coordinate, of what follows.
  pub data Partner : List A → List A → Type 0 where
    last : Partner [] []
    next : {a b : A} {u w : List A} → right eq a u ≡ right eq b w
        → Partner (stop (right eq a u) u) (stop (right eq b w) w) → Partner (a ∷ u) (b ∷ w)

  -- the places `i` of `s` and `j` of `t` are partners
  pub record Paired (s t : List A) (i j : ℕ) : Type 0 where
    pub inside : j ≤ length t
    pub partner : Partner (drop i s) (drop j t)

  -- the right coordinate of a place, and 0 at the end
  abbrev pub depth : List A → ℕ → ℕ
  depth w i = slice_index (rights eq w) i

  -- `j` is the first place of `w`, from `i` on, whose depth is at most `k`
  pub record StopsAt (w : List A) (k i j : ℕ) : Type 0 where
    pub from : i ≤ j
    pub inside : j ≤ length w
    pub low : depth w j ≤ k
    pub past : (l : ℕ) → i ≤ l → l < j → k < depth w l

  -- `j` is the place above `i`: the first behind it that is no deeper
  abbrev pub Above : List A → ℕ → ℕ → Type 0
  Above w i j = StopsAt w (depth w i) (suc i) j

  -- `j` is the next place before `i` that is no deeper, and it is as deep
  abbrev pub Sibling : List A → ℕ → ℕ → Type 0
  Sibling w i j = Above w j i × (depth w j ≡ depth w i)
