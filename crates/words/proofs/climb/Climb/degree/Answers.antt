use Rattle.std.proofs.Common.{arith, length-drop}
use Rattle.std.proofs.lemmas.Bool.Decides.{Decides-ltb}
use Rattle.words.proofs.Staircase.{degree_of}
use Rattle.words.proofs.climb.Climb.degree.Goals as goal

pub returns : goal.returns
returns c =
    let t = c.args.self.now.right in
    let cap = rw c.self.view_is at c.cap.ensures.cap in
    rw (c.then_some.ensures, cap)
    (degree_of _ (Decides-ltb _ _) (omega (arith, length-drop t.at t.word)) c.capped_degree-degree.ensures)
