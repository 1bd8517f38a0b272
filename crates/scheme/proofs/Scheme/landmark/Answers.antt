use Rattle.scheme.specs.Landmarks.{Drawn}
use Rattle.scheme.specs.Task.{task_of}
use Rattle.scheme.proofs.Drawing.{drawn_landmark, drawn_apart}
use Rattle.scheme.proofs.Scheme.landmark.Goals as goal

pub returns : goal.returns
returns c =
    let short = c.if-is_sufficient.ensures in
    let drawn : Drawn (task_of c.args.self.now) c.args.chosen c.leaving.result = record {
      grown = c.grown-grown.result;
      reach = c.reach.result;
      is_grown = c.grown-grown.ensures;
      is_reach = c.reach.ensures;
      leaving = c.leaving.ensures;
    }
    in
    (short, drawn, drawn_landmark drawn short, λ shared. drawn_apart drawn shared.0 shared.1 shared.2)
