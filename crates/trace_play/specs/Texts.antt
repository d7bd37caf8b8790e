-- What `trace` prints: the lines of all steps, and the report of the machine after them.
use Rattle.std.specs.Prelude.{ℕ, List, ◌++◌}
use Rattle.machine_model.specs.States.{State}
use Rattle.machine_model.specs.Steps.{Step}
use Rattle.dma_machine.specs.Facts.{report_of}
use Rattle.command_texts.specs.Texts.{report_text}
use Rattle.turn_trace.specs.Traces.{Tracing, after_all, last_line, lines, tracing}

-- the text of the steps that are left of a trace, and what comes behind them
abbrev pub end_text : Tracing → List ℕ
end_text t = last_line t ++ report_text (report_of t.machine)

abbrev pub rest_text : Tracing → List Step → List ℕ
rest_text t steps = lines t steps ++ end_text (after_all t steps)

-- the text of a machine's steps
abbrev pub trace_text : State → List Step → List ℕ
trace_text m steps = rest_text (tracing m 0) steps
