use Rattle.machine_model.proofs.Wider.{data-wider, demands-wider}
use Rattle.machine_model.proofs.laws.wider_grants_bring_no_fault.Goals as goal

pub returns-clause-instruction : goal.returns-clause-instruction
returns-clause-instruction c = λ grants wider instr target more h. data-wider grants wider more instr target h

pub returns-clause-demands : goal.returns-clause-demands
returns-clause-demands c = λ grants wider ds more h. demands-wider grants wider more ds h
