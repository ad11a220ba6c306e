-- End parts, stops, partners and degrees by places: place `i` of a word `w` stands for the end part `drop i w`. The place
-- above a place, the sibling of a place, and how the partner of a place is found from the partner of the place above.
use Rattle.std.proofs.Common.{◌≡◌, ℕ, zero, suc, ◌+◌, ◌-◌, ◌<◌, ◌≤◌, min, ◌⊎◌, ◌↔◌, List, [], ◌∷◌, ◌++◌, length, take, drop, sym, refl, ap, ◌∙◌, inl, inr, arith, length-drop, take-append-drop, length-take, drop-drop}
use native.Mathlib.Decide.{dec_le, dec_lt}
use lib.Seq.{drop-nil, drop-length}
pub use Rattle.words.specs.Places.{Paired, depth, StopsAt, Above, Sibling}
use Rattle.words.proofs.EndParts.{Tail, whole, rest, tail_sub}
use Rattle.words.proofs.Coordinates.{right, rights, right_none, right_step, right_bound, right_positive}
use Rattle.words.proofs.Degrees.{Degree, least, degree_join, degree_step, degree_between}
use Rattle.words.proofs.Partners.{stop, stop_none, stop_here, stop_past, Partner, last, next, partner_one, partner_mono}
use Rattle.words.proofs.Standing.{StandsFor, stands_partner, stands_other}

module _ {A : Type 0} where
  -- ── Places and end parts ──

  pub drop_tail : (i : ℕ) (w : List A) → Tail (drop i w) w
  drop_tail zero w = whole
  drop_tail (suc i) [] = whole
  drop_tail (suc i) (a ∷ w) = rest (drop_tail i w)

  pub drop_tails : {i j : ℕ} → i ≤ j → (w : List A) → Tail (drop j w) (drop i w)
  drop_tails {i = zero} {j} l w = drop_tail j w
  drop_tails {i = suc i} {j = zero} l w = absurd (omega arith)
  drop_tails {i = suc i} {j = suc j} l [] = whole
  drop_tails {i = suc i} {j = suc j} l (a ∷ w) = drop_tails {i = i} {j = j} (omega arith) w

  -- every end part begins at a place
  pub tail_place : {v w : List A} → Tail v w → (i : ℕ) × (i ≤ length w) × (v ≡ drop i w)
  tail_place whole = (0, omega arith, refl)
  tail_place (rest h) = let (i, l, e) = tail_place h in (suc i, omega arith, e)

  pub drop_place : (w : List A) (i j : ℕ) → i ≤ length w → j ≤ length w → drop i w ≡ drop j w → i ≡ j
  drop_place w i j k l e = omega (arith, length-drop i w, length-drop j w, ap length e)

  -- a place that is not the end has a letter
  pub place_letter : (w : List A) (i : ℕ) → i < length w → (a : A) × (drop i w ≡ a ∷ drop (suc i) w)
  place_letter [] i l = absurd (omega arith)
  place_letter (a ∷ w) zero l = (a, refl)
  place_letter (a ∷ w) (suc i) l = place_letter w i (omega arith)

-- Over letters whose equality is decided.
module _ {A : Type 0} (eq : (x y : A) → Dec (x ≡ y)) where
  -- ── Depths ──

  pub depth_letter : {a : A} {u : List A} (w : List A) (i : ℕ) → drop i w ≡ a ∷ u → depth eq w i ≡ right eq a u
  depth_letter {a} {u} [] i e = absurd (omega (arith, ap length (sym (drop-nil i) ∙ e)))
  depth_letter {a} {u} (b ∷ w) zero e = cc e
  depth_letter {a} {u} (b ∷ w) (suc i) e = depth_letter w i e

  pub depth_end : (w : List A) → depth eq w (length w) ≡ 0
  depth_end [] = refl
  depth_end (a ∷ w) = depth_end w

  pub length_rights : (w : List A) → length (rights eq w) ≡ length w
  length_rights [] = refl
  length_rights (a ∷ w) = ap suc (length_rights w)

  -- a place is no deeper than there are places from it on,
  pub depth_bound : (w : List A) (i : ℕ) → depth eq w i ≤ length w - i
  depth_bound [] i = omega arith
  depth_bound (a ∷ w) zero = omega (arith, right_bound eq a w)
  depth_bound (a ∷ w) (suc i) = omega (arith, depth_bound w i)

  -- and only the end has the depth 0
  pub depth_positive : (w : List A) (i : ℕ) → i < length w → 0 < depth eq w i
  depth_positive [] i l = absurd (omega arith)
  depth_positive (a ∷ w) zero l = right_positive eq a w
  depth_positive (a ∷ w) (suc i) l = depth_positive w i (omega arith)

  pub rights_drop : (w : List A) (i : ℕ) → rights eq (drop i w) ≡ drop i (rights eq w)
  rights_drop w zero = refl
  rights_drop [] (suc i) = refl
  rights_drop (a ∷ w) (suc i) = rights_drop w i

  -- to the left the depth rises by one at most
  pub depth_step : (w : List A) (i : ℕ) → i < length w → depth eq w i ≤ suc (depth eq w (suc i))
  depth_step [] i l = absurd (omega arith)
  depth_step (a ∷ []) zero l = omega (arith, right_none eq a)
  depth_step (a ∷ b ∷ w) zero l = right_step eq a b w
  depth_step (a ∷ w) (suc i) l = depth_step w i (omega arith)

  -- ── The place above ──

  pub stops_here : {w : List A} {k i : ℕ} → i ≤ length w → depth eq w i ≤ k → StopsAt eq w k i i
  stops_here l h = record { from = omega arith; inside = l; low = h; past = λ l f b. absurd (omega arith) }

  pub stops_before : {w : List A} {k i j : ℕ} → k < depth eq w i → StopsAt eq w k (suc i) j → StopsAt eq w k i j
  stops_before {w} {k} {i} {j} h s =
      record { from = let l = s.from in omega arith; inside = s.inside; low = s.low; past = past }
    where
      past : (l : ℕ) → i ≤ l → l < j → k < depth eq w l
      past l f b = go (dec_lt i l)
        where
          go : Dec (i < l) → k < depth eq w l
          go (yes g) = s.past l g b
          go (no n) = let e : l ≡ i = omega arith in rw e h

  -- there is such a place,
  pub stops_somewhere : (w : List A) (k i : ℕ) → i ≤ length w → (j : ℕ) × StopsAt eq w k i j
  stops_somewhere w k i l = at (length w - i) i (omega arith)
    where
      at : (n i : ℕ) → i + n ≡ length w → (j : ℕ) × StopsAt eq w k i j
      at zero i e =
          let f : i ≡ length w = omega arith in (i, stops_here (omega arith) (rw f (omega (arith, depth_end w))))
      at (suc n) i e = go (dec_le (depth eq w i) k) (at n (suc i) (omega arith))
        where
          go : Dec (depth eq w i ≤ k) → (j : ℕ) × StopsAt eq w k (suc i) j → (j : ℕ) × StopsAt eq w k i j
          go (yes h) r = (i, stops_here (omega arith) h)
          go (no h) (j, s) = (j, stops_before (omega arith) s)

  -- of depth `k` unless `i` is less deep,
  pub stops_depth : {w : List A} {k i j : ℕ} → k ≤ depth eq w i → StopsAt eq w k i j → depth eq w j ≡ k
  stops_depth {w} {k} {i} {j} h s = go j (dec_lt i j) s
    where
      go : (j : ℕ) → Dec (i < j) → StopsAt eq w k i j → depth eq w j ≡ k
      go j (no n) s = let e : i ≡ j = let l = s.from in omega arith in omega (arith, rw e at h, s.low)
      go zero (yes l) s = absurd (omega arith)
      go (suc j) (yes l) s =
          let p = s.past j (omega arith) (omega arith) in
          let m = s.inside in
          omega (arith, s.low, depth_step w j (omega arith))

  -- and the stop at `k` begins there
  pub stops_at : {w : List A} {k i j : ℕ} → StopsAt eq w k i j → stop eq k (drop i w) ≡ drop j w
  stops_at {w} {k} {i} {j} s = at w i j s.from s.inside s.low s.past
    where
      at : (w : List A) (i j : ℕ) → i ≤ j → j ≤ length w → depth eq w j ≤ k → ((l : ℕ) → i ≤ l → l < j → k < depth eq w l)
          → stop eq k (drop i w) ≡ drop j w
      at [] zero zero f h m p = stop_none eq k
      at (a ∷ w) zero zero f h m p = stop_here eq a w m
      at [] i (suc j) f h m p = absurd (omega arith)
      at (a ∷ w) zero (suc j) f h m p =
          stop_past eq {k = k} a w (λ l. omega (arith, p 0 (omega arith) (omega arith)))
          ∙ at w zero j (omega arith) (omega arith) m (λ l g b. p (suc l) (omega arith) (omega arith))
      at w (suc i) zero f h m p = absurd (omega arith)
      at (a ∷ w) (suc i) (suc j) f h m p =
          at w i j (omega arith) (omega arith) m (λ l g b. p (suc l) (omega arith) (omega arith))

  pub above_inside : {w : List A} {i j : ℕ} → Above eq w i j → i < length w
  above_inside s = let b = s.from in let c = s.inside in omega arith

  -- the place above is the next one if that is less deep,
  pub above_next : {w : List A} {i j : ℕ} → depth eq w (suc i) < depth eq w i → Above eq w i j → suc i ≡ j
  above_next {w} {i} {j} h s = go (dec_lt (suc i) j)
    where
      go : Dec (suc i < j) → suc i ≡ j
      go (yes l) = absurd (omega (arith, s.past (suc i) (omega arith) l))
      go (no n) = let l = s.from in omega arith

  -- and it is as deep or one less
  pub above_depth : {w : List A} {i j : ℕ} → Above eq w i j → (depth eq w i ≡ depth eq w j) ⊎ (depth eq w i ≡ suc (depth eq w j))
  above_depth {w} {i} {j} s = go (dec_lt (depth eq w (suc i)) (depth eq w i))
    where
      go : Dec (depth eq w (suc i) < depth eq w i) → (depth eq w i ≡ depth eq w j) ⊎ (depth eq w i ≡ suc (depth eq w j))
      go (no n) = inl (sym (stops_depth (omega arith) s))
      go (yes l) =
          inr (rw (← above_next l s) (omega (arith, depth_step w i (above_inside s))))

  -- so a place one deeper than the place above it stands right before it
  pub above_child : {w : List A} {i j : ℕ} → depth eq w i ≡ suc (depth eq w j) → Above eq w i j → suc i ≡ j
  above_child {w} {i} {j} e s = go (dec_lt (depth eq w (suc i)) (depth eq w i))
    where
      go : Dec (depth eq w (suc i) < depth eq w i) → suc i ≡ j
      go (yes l) = above_next l s
      go (no n) = absurd (omega (arith, stops_depth (omega arith) s))

  pub sibling_one : {w : List A} {i j k : ℕ} → Sibling eq w i j → Sibling eq w i k → j ≡ k
  sibling_one {w} {i} {j} {k} (s, e) (r, f) = go (dec_lt j k) (dec_lt k j)
    where
      go : Dec (j < k) → Dec (k < j) → j ≡ k
      go (yes l) m = let b = r.from in absurd (omega (arith, s.past k l (omega arith)))
      go (no n) (yes l) = let b = s.from in absurd (omega (arith, r.past j l (omega arith)))
      go (no n) (no m) = omega arith

  -- ── Partners ──

  partner_parts : {a b : A} {u w : List A} → Partner eq (a ∷ u) (b ∷ w)
      → (right eq a u ≡ right eq b w) × Partner eq (stop eq (right eq a u) u) (stop eq (right eq b w) w)
  partner_parts (next e p) = (e, p)

  partner_letter : {a : A} {u w : List A} → Partner eq (a ∷ u) w → 0 < length w
  partner_letter (next e p) = omega arith

  pub paired_end : (s t : List A) → Paired eq s t (length s) (length t)
  paired_end s t = record { inside = omega arith; partner = rw (drop-length s, drop-length t) last }

  pub paired_one : {s t : List A} {i j k : ℕ} → Paired eq s t i j → Paired eq s t i k → j ≡ k
  paired_one {s} {t} {i} {j} {k} p q =
      drop_place t j k p.inside q.inside (partner_one eq (drop_tail j t) (drop_tail k t) p.partner q.partner)

  -- partners move strictly to the left as one goes to the left
  pub paired_mono : {s t : List A} {i j k l : ℕ} → i < k → k ≤ length s → Paired eq s t i j → Paired eq s t k l → j < l
  paired_mono {s} {t} {i} {j} {k} {l} h b p q =
      let shorter : length (drop k s) < length (drop i s) = omega (arith, length-drop k s, length-drop i s) in
      let tails = drop_tails {i = i} {j = k} (omega arith) s in
      let c = partner_mono eq tails shorter q.partner p.partner (drop_tail l t) (drop_tail j t) in
      omega (arith, length-drop j t, length-drop l t, p.inside, q.inside)

  -- what two partners with letters have in common: their depth, and the stops at it behind them are partners
  abbrev Parts : List A → List A → ℕ → ℕ → Type 0
  Parts s t i j =
      (j < length t) × (depth eq s i ≡ depth eq t j)
      × Partner eq (stop eq (depth eq s i) (drop (suc i) s)) (stop eq (depth eq t j) (drop (suc j) t))

  paired_parts : {s t : List A} {i j : ℕ} → i < length s → Paired eq s t i j → Parts s t i j
  paired_parts {s} {t} {i} {j} l p = first (place_letter s i l)
    where
      second : {a : A} → drop i s ≡ a ∷ drop (suc i) s → (b : A) × (drop j t ≡ b ∷ drop (suc j) t)
          → Partner eq (a ∷ drop (suc i) s) (drop j t) → j < length t → Parts s t i j
      second e (b, f) q m =
          let (d, r) = partner_parts (rw f at q) in
          let g = depth_letter s i e in
          let h = depth_letter t j f in
          (m, cc, rw (g, h) r)

      first : (a : A) × (drop i s ≡ a ∷ drop (suc i) s) → Parts s t i j
      first (a, e) =
          let q = rw e at p.partner in
          let m : j < length t = omega (arith, length-drop j t, partner_letter q) in
          second e (place_letter t j m) q m

  pub paired_depth : {s t : List A} {i j : ℕ} → i ≤ length s → Paired eq s t i j → depth eq s i ≡ depth eq t j
  paired_depth {s} {t} {i} {j} l p = go (dec_lt i (length s))
    where
      go : Dec (i < length s) → depth eq s i ≡ depth eq t j
      go (yes h) = (paired_parts h p).1
      go (no n) =
          let e : i ≡ length s = omega arith in
          let f = paired_one (rw e at p) (paired_end s t) in
          rw (e, f) (depth_end s ∙ sym (depth_end t))

  -- Two places of the same depth are partners if the places above them are,
  pub paired_next : {s t : List A} {i j k l : ℕ} → Above eq s i k → Above eq t j l → depth eq s i ≡ depth eq t j → Paired eq s t k l
      → Paired eq s t i j
  paired_next {s} {t} {i} {j} {k} {l} g h d p = record {
    inside = let b = above_inside h in omega arith;
    partner = go (place_letter s i (above_inside g)) (place_letter t j (above_inside h));
  }
    where
      go : (a : A) × (drop i s ≡ a ∷ drop (suc i) s) → (b : A) × (drop j t ≡ b ∷ drop (suc j) t)
          → Partner eq (drop i s) (drop j t)
      go (a, e) (b, f) =
          let m = depth_letter s i e in
          let n = depth_letter t j f in
          let same : right eq a (drop (suc i) s) ≡ right eq b (drop (suc j) t) = cc in
          rw (e, f) (next same (rw (← m, ← n, stops_at g, stops_at h) p.partner))

  -- and only then
  pub paired_above : {s t : List A} {i j k : ℕ} → Above eq s i k → Paired eq s t i j → (l : ℕ) × Above eq t j l × Paired eq s t k l
  paired_above {s} {t} {i} {j} {k} g p = go (paired_parts (above_inside g) p)
    where
      go : Parts s t i j → (l : ℕ) × Above eq t j l × Paired eq s t k l
      go (m, d, q) = found (stops_somewhere t (depth eq t j) (suc j) m)
        where
          found : (l : ℕ) × Above eq t j l → (l : ℕ) × Above eq t j l × Paired eq s t k l
          found (l, h) = (l, h, record { inside = h.inside; partner = rw (stops_at g, stops_at h) at q })

  -- So with `l` the partner of the place above `i`: if that is as deep as `i`, the partners of `i` are the siblings of `l`,
  pub paired_sibling : {s t : List A} {i j k l : ℕ} → Above eq s i k → depth eq s i ≡ depth eq s k → Paired eq s t k l
      → Paired eq s t i j ↔ Sibling eq t l j
  paired_sibling {s} {t} {i} {j} {k} {l} g e p = (λ q. there q (paired_above g q), back)
    where
      same : depth eq s k ≡ depth eq t l
      same = paired_depth g.inside p

      there : Paired eq s t i j → (m : ℕ) × Above eq t j m × Paired eq s t k m → Sibling eq t l j
      there q (m, h, r) =
          let f = (paired_parts (above_inside g) q).1 in
          (rw (paired_one r p) at h, omega (arith, same))

      back : Sibling eq t l j → Paired eq s t i j
      back (h, f) = paired_next g h (omega (arith, same)) p

  -- and if it is less deep, the place before `l` if that is one deeper.
  pub paired_child : {s t : List A} {i j k l : ℕ} → Above eq s i k → depth eq s i ≡ suc (depth eq s k) → Paired eq s t k l
      → Paired eq s t i j ↔ ((suc j ≡ l) × (depth eq t j ≡ suc (depth eq t l)))
  paired_child {s} {t} {i} {j} {k} {l} g e p = (λ q. there q (paired_above g q), back)
    where
      same : depth eq s k ≡ depth eq t l
      same = paired_depth g.inside p

      there : Paired eq s t i j → (m : ℕ) × Above eq t j m × Paired eq s t k m → (suc j ≡ l) × (depth eq t j ≡ suc (depth eq t l))
      there q (m, h, r) =
          let f = (paired_parts (above_inside g) q).1 in
          let d : depth eq t j ≡ suc (depth eq t l) = omega (arith, same) in
          (above_child d (rw (paired_one r p) at h), d)

      back : (suc j ≡ l) × (depth eq t j ≡ suc (depth eq t l)) → Paired eq s t i j
      back (f, d) =
          let h : Above eq t j l = rw (← f) (stops_here (let b = p.inside in omega arith) (rw f (omega arith))) in
          paired_next g h (omega (arith, same)) p

  -- ── Degrees ──

  -- the degree of neighbouring end parts,
  pub degree_place : {i : ℕ} (K : ℕ) (w : List A) → i < length w → Degree K (min (depth eq w i) K) (drop i w) (drop (suc i) w)
  degree_place {i} K w l = go (place_letter w i l)
    where
      go : (a : A) × (drop i w ≡ a ∷ drop (suc i) w) → Degree K (min (depth eq w i) K) (drop i w) (drop (suc i) w)
      go (a, e) = rw (depth_letter w i e, e) (degree_step eq K a (drop (suc i) w))

  -- that over two stretches that meet or overlap,
  pub degree_stretches : {K d e i j k l : ℕ} (w : List A) → i ≤ j → j ≤ k → k ≤ l → Degree K d (drop i w) (drop k w)
      → Degree K e (drop j w) (drop l w) → Degree K (min d e) (drop i w) (drop l w)
  degree_stretches w ij jk kl f g =
      degree_join (tail_sub (drop_tails kl w)) (tail_sub (drop_tails jk w)) (tail_sub (drop_tails ij w)) f g

  -- and over any: the least depth in it, or the cap
  pub degree_stretch : {i j : ℕ} (K : ℕ) (w : List A) → i ≤ j → j ≤ length w
      → Degree K (least K (take (j - i) (drop i (rights eq w)))) (drop i w) (drop j w)
  degree_stretch {i} {j} K w l h =
      let n = j - i in
      let p = take n (drop i w) in
      let long : length p ≡ n = omega (arith, length-take n (drop i w), length-drop i w) in
      let over : i + n ≡ j = omega arith in
      let back : drop n (drop i w) ≡ drop j w = rw (drop-drop n i w, over) refl in
      let joined : p ++ drop j w ≡ drop i w = rw (← back) (take-append-drop n (drop i w)) in
      rw (joined, long, rights_drop w i) at (degree_between eq K p (drop j w))

  -- ── What stands for a place ──

  -- A partner that agrees with a place at its depth stands for it, up to their degree;
  pub stands_paired : {K D i j : ℕ} {s t : List A} → i < length s → Paired eq s t i j → Degree K D (drop i s) (drop j t)
      → depth eq s i < D → StandsFor K D (drop i s) (drop j t) t
  stands_paired {K} {D} {i} {j} {s} {t} l p f r = go (place_letter s i l)
    where
      go : (a : A) × (drop i s ≡ a ∷ drop (suc i) s) → StandsFor K D (drop i s) (drop j t) t
      go (a, e) =
          rw e (stands_partner eq (rw e at p.partner) (drop_tail j t) (rw e at f) (omega (arith, depth_letter s i e)))

  -- without one, what stood for the next place goes on to stand.
  pub stands_unpaired : {K E i : ℕ} {g t : List A} (s : List A) → i < length s
      → ((j : ℕ) → Paired eq s t i j → (d : ℕ) × Degree K d (drop i s) (drop j t) × (d ≤ depth eq s i))
      → StandsFor K E (drop (suc i) s) g t → StandsFor K (min (depth eq s i) E) (drop i s) g t
  stands_unpaired {K} {E} {i} {g} {t} s l f r = go (place_letter s i l)
    where
      go : (a : A) × (drop i s ≡ a ∷ drop (suc i) s) → StandsFor K (min (depth eq s i) E) (drop i s) g t
      go (a, e) = rw (depth_letter s i e, e) (stands_other eq (λ w h p. at w (tail_place h) p) r)
        where
          Low : List A → Type 0
          Low w = (d : ℕ) × Degree K d (a ∷ drop (suc i) s) w × (d ≤ right eq a (drop (suc i) s))

          low : (w : List A) (j : ℕ) → w ≡ drop j t → (d : ℕ) × Degree K d (drop i s) (drop j t) × (d ≤ depth eq s i) → Low w
          low w j c (d, f, m) = (d, rw (← e, c) f, omega (arith, depth_letter s i e))

          at : (w : List A) → (j : ℕ) × (j ≤ length t) × (w ≡ drop j t) → Partner eq (a ∷ drop (suc i) s) w → Low w
          at w (j, b, c) p = low w j c (f j (record { inside = b; partner = rw (e, ← c) p }))
