-- A whole run, from the runs over files of each kind.
use Rattle.std.proofs.Common.{cond, ◌≡◌, ℕ, ◌≤◌, Bool, List, ◌++◌, length, is_ok, Ok, Err, Result, sym, ap, ◌∙◌, subst, inr, append-nil}
use Rattle.std.proofs.lemmas.List.{flat_map_more}
use Rattle.std.specs.List.{flat_map}
use Rattle.letters.specs.declared.kind.Kind.TheVariants.{Modes, Taps}
use Rattle.letters.specs.Modes.{ModeNumber, mode_order}
use Rattle.letters.specs.Taps.{TapNumbers, tap_code, tap_order}
use Rattle.words.specs.Letters.{Before}
use Rattle.pairs.specs.declared.fault.RunFault.{RunFault}
use Rattle.pairs.specs.declared.stop.Stop.{Stop}
use Rattle.pairs.specs.declared.stop.Stop.TheVariants.{Refused, Unprinted}
use Rattle.pairs.specs.Runs.{fault_line, some_modes, some_taps, Began, Printed, all_modes, all_taps, Took, none_taken, one_taken, RunAnswer}
use Rattle.pairs.specs.Steps.{LinesAnswer, PlatesAnswer, FileAnswer}

module _ {S : Type 0} (took : S → List ℕ → Bool → S → Type 0) (s t : S) where
  -- What tells the lines of a run tells them to whoever asks for less.
  weaker : (first all first' all' : List (List ℕ) → Type 0) → ((ls : List (List ℕ)) → first ls → first' ls) → ((ls : List (List ℕ)) → all ls → all' ls)
      → (r : Result (Unit {0}) Stop) → LinesAnswer took first all s r t → LinesAnswer took first' all' s r t
  weaker first all first' all' f h (Ok done) (ls, run, taken) = (ls, h ls run, taken)
  weaker first all first' all' f h (Err (Refused fault)) (ls, so_far, run, taken) = (ls, f ls so_far, h _ run, taken)
  weaker first all first' all' f h (Err (Unprinted error)) (ls, m, l, so_far, taken, more, refused) = (ls, m, l, f ls so_far, taken, f _ more, refused)

  pub modes_run : (bs bs' : List ℕ) (r : Result (Unit {0}) Stop) → bs' ≡ bs → length bs ≤ 16384
      → PlatesAnswer (Before mode_order) Modes (λ m. ModeNumber m.value) (λ m. m.value) took bs' s r t → FileAnswer took bs s r t
  modes_run bs bs' r same short answer =
      weaker _ _ (Began bs) (Printed bs) some_modes (λ ls. all_modes ls short) r
      (subst (λ x. PlatesAnswer (Before mode_order) Modes (λ m. ModeNumber m.value) (λ m. m.value) took x s r t) same answer)

  pub taps_run : (bs bs' : List ℕ) (r : Result (Unit {0}) Stop) → bs' ≡ bs → length bs ≤ 16384
      → PlatesAnswer (Before tap_order) Taps (λ t. TapNumbers t.zone t.step) tap_code took bs' s r t → FileAnswer took bs s r t
  taps_run bs bs' r same short answer =
      weaker _ _ (Began bs) (Printed bs) some_taps (λ ls. all_taps ls short) r
      (subst (λ x. PlatesAnswer (Before tap_order) Taps (λ t. TapNumbers t.zone t.step) tap_code took x s r t) same answer)

  -- The line of a refusal ends a run, whether it is taken or not.
  pub fault_run : {E : Type 0} (bs : List ℕ) (m : S) (fault : RunFault) (r : Result (Unit {0}) E) → FileAnswer took bs s (Err (Refused fault)) m → took m (fault_line fault) (is_ok r) t
      → RunAnswer took bs s r t
  fault_run bs m fault (Ok done) (ls, so_far, all, before) taken = (_, all, one_taken ls m (fault_line fault) t before taken)
  fault_run bs m fault (Err e) (ls, so_far, all, before) refused = (ls, m, fault_line fault, so_far, before, inr all, refused)

-- Lines that bytes in memory took stand behind what they held. `items` is what they hold.
pub took_text : {S : Type 0} (items : S → List ℕ) (s t : S) (ls : List (List ℕ)) → Took (λ before line taken after. items after ≡ cond taken (items before ++ line) (items before)) s ls t
    → items t ≡ items s ++ flat_map (λ l. l) ls
took_text items s t ls none_taken = sym (append-nil (items s))
took_text items s t ls (one_taken ms m l t' before last) =
    last ∙ ap (λ x. x ++ l) (took_text items s m ms before) ∙ flat_map_more (λ x. x) (items s) ms l
