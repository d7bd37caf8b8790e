-- What contracts see of a chain: the chain, and its live state.
use Rattle.std.specs.Prelude.{ℕ, List, map, replicate}
use Rattle.fifo_model.specs.Queues.{empty_fifo}
use Rattle.page_table.specs.Blocks.{Block}
use Rattle.page_table.specs.Grants.{Chunk}
use Rattle.machine_model.specs.States.{State, started}
use Rattle.machine_model.specs.Steps.{Step, Turn, with_program}
use Rattle.chain_model.specs.declared.PartWords.{PartWords}
use Rattle.chain_model.specs.Chains.{Chain, Patching, patched, unpatched}
use Rattle.chain_model.specs.Live.{Live, LiveStep, Plain, live_run, live_step}

pub record ChainState : Type 0 where
  pub chain : Chain
  pub live : Live

abbrev pub chain_of : ℕ → ℕ → List PartWords → List Chunk → Chain
chain_of base slots parts grants = record { base = base; slots = slots; parts = parts; grants = grants }

-- a chain before its first step: no slot leads to a part
abbrev pub first_chain : Chain → List Block → ChainState
first_chain chain memory =
    record {
      chain = chain;
      live = record { patching = unpatched chain; machine = started (patched chain (unpatched chain)) memory empty_fifo };
    }

-- after a step
abbrev pub lived : LiveStep → ChainState → ChainState
lived s state = record state { live = live_step state.chain s state.live }

-- the live state of a machine that runs the program of some part
abbrev pub live_of : Chain → Patching → State → Live
live_of chain patching m = record { patching = patching; machine = with_program (patched chain patching) m }

abbrev pub state_of : Chain → Patching → State → ChainState
state_of chain patching m = record { chain = chain; live = live_of chain patching m }

-- after steps of its machine
abbrev pub stepped : List Step → ChainState → ChainState
stepped steps state = record state { live = live_run state.chain state.live (map Plain steps) }

-- after so many turns
abbrev pub turned : ℕ → ChainState → ChainState
turned count state = record state { live = live_run state.chain state.live (replicate count (Plain Turn)) }
