use Rattle.picture_model.proofs.FaultlessGeometry.{IsFrame-memory}
use Rattle.planar_plan.proofs.frame.Frame.grants.Goals as goal

pub grants-requires-clause-aligned : goal.grants-requires-clause-aligned
grants-requires-clause-aligned c =
    (IsFrame-memory c.self.inside.desc c.self.invariant.scattered.framed.geometry).0

pub grants-requires-clause-apart : goal.grants-requires-clause-apart
grants-requires-clause-apart c =
    (IsFrame-memory c.self.inside.desc c.self.invariant.scattered.framed.geometry).1
