-- The codes of a row, a comma before each, letter by letter.
use Rattle.std.proofs.Common.{◌≡◌, ℕ, ◌+◌, ◌<◌, List, [], ◌++◌, map, length, get_or, take, drop, codes, decimal, sym, ap, ◌∙◌}
use Rattle.std.proofs.lemmas.List.{map-append, map_more, flat_map_more, take-append-drop}
use Rattle.std.proofs.lemmas.Grind.{flat_map-append}
use Rattle.files.specs.Line.{comma_text}

module _ {L : Type 0} (code : L → ℕ) (row : List L) where
  -- The text of the first letters of the row.
  abbrev pub fronts : ℕ → List ℕ
  fronts i = comma_text (map code (take i row))

  pub fronts_more : (i : ℕ) (a : L) → i < length row → a ≡ get_or row i a → fronts (i + 1) ≡ fronts i ++ (codes "," ++ decimal (code a))
  fronts_more i a inside is =
      ap comma_text (map_more code row i a inside) ∙ sym (flat_map_more (λ c. codes "," ++ decimal c) [] (map code (take i row)) (code (get_or row i a)))
      ∙ ap (λ x. fronts i ++ (codes "," ++ decimal (code x))) (sym is)

  -- The whole text, by that of the first letters and that of the others.
  pub fronts_rest : (i : ℕ) → comma_text (map code row) ≡ fronts i ++ comma_text (map code (drop i row))
  fronts_rest i =
      ap (λ w. comma_text (map code w)) (sym (take-append-drop i row)) ∙ ap comma_text (map-append code (take i row) (drop i row))
      ∙ flat_map-append (λ c. codes "," ++ decimal c) (map code (take i row)) (map code (drop i row))
