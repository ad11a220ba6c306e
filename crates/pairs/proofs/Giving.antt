-- The record that a reader gives is that of a plate: its codes are those of a word.
use Rattle.std.proofs.Common.{◌≡◌, ℕ, List, [], ◌∷◌, map, Some, None, Ok, Err, Option, Result, sym, refl, ap, ◌∙◌, subst, MatchOption}
use Rattle.std.specs.Prelude.{MatchResult, IsErrAnd}
use Rattle.std.specs.List.{AllByRecursion}
use Rattle.letters.specs.declared.kind.Kind.{Kind}
use Rattle.letters.specs.Kinds.{IsCode}
use Rattle.files.specs.declared.reader.Reader.{Reader}
use Rattle.files.specs.declared.reader.Record.{Record}
use Rattle.files.specs.Numbers.{Stands}
use Rattle.files.specs.Records.{Entry, Allowed, Next, encode_codes, encode_entry}
use Rattle.pairs.specs.Plates.{Plate, Given, entry_of}

same_entry : (e : Entry) (n : ℕ) (cs : List ℕ) → n ≡ e.plate → cs ≡ e.codes → e ≡ record { plate = n; codes = cs }
same_entry e n cs p q = ap (λ m. record { plate = m; codes = e.codes }) (sym p) ∙ ap (λ ds. record { plate = n; codes = ds }) (sym q)

module _ {L : Type 0} (kind : Kind) (InRange : L → Type 0) (letter : ℕ → Option L) (code : L → ℕ)
    (decodes : (n : ℕ) → MatchOption (letter n) (IsCode kind n → ⊥) (λ a. IsCode kind n × InRange a × (code a ≡ n))) where
  -- Each code has its letter, so codes of the kind are those of a word.
  abbrev Word : List ℕ → Type 0
  Word cs = (w : List L) × AllByRecursion InRange w × (map code w ≡ cs)

  one_letter : (n : ℕ) → IsCode kind n → (a : L) × InRange a × (code a ≡ n)
  one_letter n h = go (letter n) (decodes n)
    where
      go : (o : Option L) → MatchOption o (IsCode kind n → ⊥) (λ a. IsCode kind n × InRange a × (code a ≡ n)) → (a : L) × InRange a × (code a ≡ n)
      go (Some a) d = (a, d.1, d.2)
      go None d = absurd (d h)

  word_of : (cs : List ℕ) → AllByRecursion (IsCode kind) cs → Word cs
  word_of [] h = ([], tt, refl)
  word_of (c ∷ cs) (h, hs) =
      let (a, in-range, is) = one_letter c h in
      let (w, ranged, are) = word_of cs hs in
      (a ∷ w, (in-range, ranged), cc)

  -- A record that was given, as the plate that it shows.
  pub record Plated (a : Reader) (r : Record) (b : Reader) : Type 0 where
    pub word : List L
    pub ranged : AllByRecursion InRange word
    pub given : Given kind InRange code a (record { number = r.plate; word = word }) b
    pub bytes : r.codes.now ≡ encode_codes (map code word)
    pub place : r.place ≡ a.at

  pub plated : (a : Reader) (r : Record) (b : Reader) (n : Option Record) → a.kind ≡ kind → n ≡ Some r → Next a (Ok n) b → Plated a r b
  plated a r b n same is next = go (subst (λ x. Next a (Ok x) b) is next)
    where
      go : Next a (Ok (Some r)) b → Plated a r b
      go (e, allowed, stands, (plate, count, place, bytes), after) =
          let here = subst (λ k. Allowed k a.last e) same allowed in
          let (w, ranged, are) = word_of e.codes here.coded in
          let p : Plate L = record { number = r.plate; word = w } in
          let entry : e ≡ entry_of code p = same_entry e r.plate (map code w) plate are in
          record {
            word = w;
            ranged = ranged;
            given = record {
              same_kind = same;
              letters = ranged;
              allowed = subst (Allowed kind a.last) entry here;
              stands = subst (λ x. Stands a.bytes.now a.at (encode_entry x) b.at) entry stands;
              after = after ∙ ap (λ n. record { bytes = a.bytes; kind = a.kind; at = b.at; last = n }) (sym plate);
            };
            bytes = bytes ∙ ap encode_codes (sym are);
            place = place;
          }

-- What `map_err` gave shows what it was given.
module _ {A E D : Type 0} (P : E → D → Type 0) where
  pub was_ok : (r : Result A E) (r' : Result A D) (x : A) → MatchResult r (λ y. r' ≡ Ok y) (λ e. IsErrAnd r' (P e)) → r' ≡ Ok x → r ≡ Ok x
  was_ok (Ok y) r' x h is = let same : ◌≡◌ {A = Result A D} (Ok y) (Ok x) = sym h ∙ is in cc
  was_ok (Err e) r' x h is = absurd (subst (λ q. IsErrAnd q (P e)) is h)

  pub was_err : (r : Result A E) (r' : Result A D) (d : D) → MatchResult r (λ y. r' ≡ Ok y) (λ e. IsErrAnd r' (P e)) → r' ≡ Err d
      → (e : E) × (r ≡ Err e) × P e d
  was_err (Ok y) r' d h is = let same : ◌≡◌ {A = Result A D} (Ok y) (Err d) = sym h ∙ is in cc
  was_err (Err e) r' d h is = (e, refl, subst (λ q. IsErrAnd q (P e)) is h)
