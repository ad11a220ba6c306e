-- The laws of outputs, which are proofs: an `impl` cites only what stands in specs/. No contract cites them.
use Rattle.std.proofs.Common.{◌≡◌, ℕ, ◌+◌, List, [], ◌++◌, length, take, drop, Some, None, Option, sym, refl, ap, ◌∙◌, append_assoc, append-nil, arith, length-append}
use Rattle.std.proofs.lemmas.Bool.Decides.{nat_tests}
use Rattle.std.proofs.lemmas.List.{drop-drop}
use Rattle.files.specs.declared.output.Filler.{Filler}
use Rattle.files.specs.Outputs.{room_behind, Appends, Fills}

pub room_behind_nothing : (left : Option ℕ) → left ≡ room_behind 0 left
room_behind_nothing None = refl
room_behind_nothing (Some room) = grind (arith, nat_tests)

pub room_behind_both : (a b c : Option ℕ) (s t : List ℕ) → b ≡ room_behind (length s) a → c ≡ room_behind (length t) b → c ≡ room_behind (length (s ++ t)) a
room_behind_both None b c s t p q = q ∙ ap (room_behind (length t)) p
room_behind_both (Some room) b c s t p q = q ∙ ap (room_behind (length t)) p ∙ go (length s) (length t) (length (s ++ t)) (length-append s t)
  where
    go : (m n k : ℕ) → k ≡ m + n → room_behind n (room_behind m (Some room)) ≡ room_behind k (Some room)
    go m n k e = grind (arith, nat_tests)

pub fills_nothing : (a : Filler) → Fills a [] a
fills_nothing a =
    record {
      same_bytes = refl;
      long = refl;
      appends = λ _. record { end = omega arith; front = sym (append-nil (take a.filled a.out.now)); rest = refl };
    }

pub fills_both : (a b c : Filler) (s t : List ℕ) → Fills a s b → Fills b t c → Fills a (s ++ t) c
fills_both a b c s t p q =
    record {
      same_bytes = q.same_bytes ∙ p.same_bytes;
      long = q.long ∙ p.long;
      appends = λ room.
          let first = p.appends (omega (arith, length-append s t)) in
          let second = q.appends (omega (arith, length-append s t, first.end, p.long)) in
          both first second;
    }
  where
    both : {old s mid t new : List ℕ} {i j k : ℕ} → Appends old i s j mid → Appends mid j t k new → Appends old i (s ++ t) k new
    both {old} {s} {mid} {t} {new} {i} {j} {k} p q =
        record {
          end = omega (arith, p.end, q.end, length-append s t);
          front = q.front ∙ ap (λ x. x ++ t) p.front ∙ append_assoc (take i old) s t;
          rest = q.rest ∙ ap (λ n. drop n mid) q.end ∙ sym (drop-drop (length t) j mid) ∙ ap (drop (length t)) p.rest ∙ drop-drop (length t) j old
              ∙ ap (λ n. drop n old) (sym q.end);
        }
