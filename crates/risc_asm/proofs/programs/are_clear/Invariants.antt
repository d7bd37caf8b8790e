use Rattle.std.proofs.Common.{◌≡◌, false, drop}
use Rattle.std.specs.List.{All}
use Rattle.machine_model.specs.Paths.{shares_byte}
use Rattle.risc_text.specs.Assembly.{of_spans}
use Rattle.risc_asm.proofs.programs.are_clear.Given as goal

abbrev pub invariant-loop-number : goal.invariant-loop-number
invariant-loop-number l = record {
  forth : All (λ c. shares_byte (of_spans 0 l.spans) c ≡ false) l.grants →
      All (λ c. shares_byte (of_spans 0 (drop l.number l.spans)) c ≡ false) l.grants;
  back : All (λ c. shares_byte (of_spans 0 (drop l.number l.spans)) c ≡ false) l.grants →
      All (λ c. shares_byte (of_spans 0 l.spans) c ≡ false) l.grants;
}
