use Rattle.planar_plan.proofs.cut.cut_whole.Goals as goal

pub cut_span-requires-clause-windows : goal.cut_span-requires-clause-windows
cut_span-requires-clause-windows c = c.no_windows-windows.ensures c.args.scatter.now
