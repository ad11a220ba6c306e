use Rattle.std.proofs.Common.{◌≤◌, length, sym, ap, ◌∙◌, arith, rules}
use Rattle.std.proofs.lemmas.List.{length-take-le}
use Rattle.words.proofs.FormCalls.{thinned_below, thinned_few, formed}
use Rattle.words.proofs.LetterOrders.{before_order}
use Rattle.words.proofs.forming.form_in_place.Goals as goal

pub gather_in_place-requires-clause-below : goal.gather_in_place-requires-clause-below
gather_in_place-requires-clause-below g c =
    thinned_below (rw (sym c.places-places.ensures) at c.thin_out-lean.ensures.lean)

pub slice_bounds-sort-end : goal.slice_bounds-sort-end
slice_bounds-sort-end g c =
    let few = thinned_few (rw (sym c.places-places.ensures) at c.thin_out-lean.ensures.lean) in
    let inside : length c.places-places.result.now ≤ length c.gather_in_place.new.word =
    omega (arith, c.in_ok-check.ensures.fits) in
    search rules

pub slice_bounds-sort-end-2 : goal.slice_bounds-sort-end-2
slice_bounds-sort-end-2 g c =
    let few = thinned_few (rw (sym c.places-places.ensures) at c.thin_out-lean.ensures.lean) in
    sym (length-take-le _ c.gather_in_place.new.word (omega (arith, c.in_ok-check.ensures.fits)))

pub sort-requires : goal.sort-requires
sort-requires g c =
    let few = thinned_few (rw (sym c.places-places.ensures) at c.thin_out-lean.ensures.lean) in
    let all = length-take-le _ c.gather_in_place.new.word (omega (arith, c.in_ok-check.ensures.fits)) in
    record { long = all ∙ ap length c.places-places.ensures }

pub returns : goal.returns
returns g c =
    let laws = g.met.L.OrderedLetter in
    let order = before_order g.L.OrderedLetter.order laws.same laws.itself laws.flips laws.onward in
    let thin = rw (sym c.places-places.ensures) at c.thin_out-lean.ensures.lean in (
      c.in_ok-check.ensures,
      formed order c.gather_in_place.new.word thin (omega (arith, thinned_few thin, c.in_ok-check.ensures.fits))
          c.gather_in_place.ensures.letters c.gather_in_place.ensures.rest
          (rw c.thin_out-lean.ensures.k at c.sort.ensures.reordered)
          (rw c.thin_out-lean.ensures.k at c.sort.ensures.sorted)
          (omega arith),
    )
