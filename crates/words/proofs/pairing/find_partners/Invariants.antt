use Rattle.words.specs.Paths.{Leads}
use Rattle.words.specs.RowSteps.{PartnersFrom}
use Rattle.words.proofs.pairing.find_partners.Given as goal

abbrev pub invariant-loop-place : goal.invariant-loop-place
invariant-loop-place l = record {
  path : Leads l.own l.place l.path;
  partners : PartnersFrom l.own l.other l.place l.partners;
}
