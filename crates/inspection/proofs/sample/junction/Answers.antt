use Rattle.scheme.specs.Task.{task_of}
use Rattle.inspection.specs.Sample.{table}
use Rattle.inspection.proofs.Entries.{entered_wanted}
use Rattle.inspection.proofs.sample.junction.Goals as goal

pub returns : goal.returns
returns c =
    let wants = c.in_ok-want.ensures in
    entered_wanted (task_of c.in_ok-scheme.scheme) (task_of c.enter_all.new.scheme) (task_of c.want.new.self) table 4
    c.in_ok-scheme.ensures c.in_ok-enter_all.ensures wants.0.1 wants.1
