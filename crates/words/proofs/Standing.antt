-- One end part stands for many: to know at which levels a word agrees with each end part of `t`, it is enough to know one of
-- them and one level. That pair is carried from what follows a letter to the word with the letter in front.
use Rattle.std.proofs.Common.{◌≡◌, ℕ, ◌<◌, ◌≤◌, min, List, [], ◌∷◌, arith}
use native.Mathlib.Decide.{dec_le}
pub use Rattle.words.specs.Degrees.{StandsFor}
use Rattle.words.specs.Words.{Congruent}
use Rattle.words.proofs.Subsequences.{congruent_refl, congruent_sym, congruent_trans}
use Rattle.words.proofs.EndParts.{Tail, tail_empty}
use Rattle.words.proofs.Coordinates.{right, block}
use Rattle.words.proofs.Degrees.{Degree}
use Rattle.words.proofs.Partners.{Partner, partner_there, partner_one}

module _ {A : Type 0} where
  pub stands_empty : (K : ℕ) (t : List A) → StandsFor K K [] [] t
  stands_empty K t = record {
    capped = omega arith;
    part = tail_empty t;
    agrees = λ l h. congruent_refl l [];
    alone = λ l h k w i c. omega arith;
  }

  -- The degree to each end part of `t` is the lesser of the level and the degree, inside `t`, from the one that stands for it.
  pub degree_stands : {K E d : ℕ} {u g b t : List A} → StandsFor K E u g t → Tail b t → Degree K d g b
      → Degree K (min E d) u b
  degree_stands {K} {E} {d} {u} {g} {b} {t} s h f = (omega arith, λ k l. (below k l (dec_le E k), together k l))
    where
      below : (k : ℕ) → k < K → Dec (E ≤ k) → Congruent k u b → k < min E d
      below k l (yes e) c = absurd (s.alone k l e b h c)
      below k l (no e) c =
          let m = (f.1 k l).0 (congruent_trans (congruent_sym (s.agrees k (omega arith))) c) in omega arith

      together : (k : ℕ) → k < K → k < min E d → Congruent k u b
      together k l m = congruent_trans (s.agrees k (omega arith)) ((f.1 k l).1 (omega arith))

-- Over letters whose equality is decided.
module _ {A : Type 0} (eq : (x y : A) → Dec (x ≡ y)) where
  -- A partner with which the word agrees at its coordinate stands for it, up to their degree.
  pub stands_partner : {K D : ℕ} {a : A} {u w t : List A} → Partner eq (a ∷ u) w → Tail w t → Degree K D (a ∷ u) w
      → right eq a u < D → StandsFor K D (a ∷ u) w t
  stands_partner {K} {D} {a} {u} {w} {t} p h f r = record {
    capped = f.0;
    part = h;
    agrees = λ l k. (f.1 l (omega arith)).1 k;
    alone = λ l k e x i c. apart l k e (partner_there eq (omega arith) i c);
  }
    where
      apart : (l : ℕ) → l < K → D ≤ l → (x : List A) × Tail x t × Partner eq (a ∷ u) x × Congruent l (a ∷ u) x → ⊥
      apart l k e (x, i, q, c) =
          let m = (f.1 l k).0 (rw (partner_one eq i h q p) at c) in omega arith

  -- Without one, what stood for the word behind the letter goes on to stand, up to the coordinate of the letter.
  pub stands_other : {K E : ℕ} {a : A} {u g t : List A}
      → ((w : List A) → Tail w t → Partner eq (a ∷ u) w → (d : ℕ) × Degree K d (a ∷ u) w × (d ≤ right eq a u))
      → StandsFor K E u g t → StandsFor K (min (right eq a u) E) (a ∷ u) g t
  stands_other {K} {E} {a} {u} {g} {t} f s = record {
    capped = let e = s.capped in omega arith;
    part = s.part;
    agrees = λ l h. congruent_trans (congruent_sym ((block eq l a u).1 (omega arith))) (s.agrees l (omega arith));
    alone = λ l k e w h c. apart l k e w h c (dec_le (right eq a u) l);
  }
    where
      no_partner : (l : ℕ) → l < K → right eq a u ≤ l
          → (w : List A) × Tail w t × Partner eq (a ∷ u) w × Congruent l (a ∷ u) w → ⊥
      no_partner l k r (w, h, p, c) = let (d, e, b) = f w h p in let m = (e.1 l k).0 c in omega arith

      apart : (l : ℕ) → l < K → min (right eq a u) E ≤ l → (w : List A) → Tail w t → Congruent l (a ∷ u) w
          → Dec (right eq a u ≤ l) → ⊥
      apart l k e w h c (yes r) = no_partner l k r (partner_there eq r h c)
      apart l k e w h c (no r) = s.alone l k (omega arith) w h (congruent_trans ((block eq l a u).1 (omega arith)) c)
