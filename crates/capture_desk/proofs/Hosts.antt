-- What a host tells after a write of no bytes.
use Rattle.std.proofs.Common.{[], List, ℕ, Option, ap, ◌≡◌}
use Rattle.capture_desk.proofs.Laws.{written_nil}
use Rattle.capture_desk.specs.Hosts.{Store, with_written}

pub nothing_written : (name : Option (List ℕ)) (s : Store) → with_written name [] s ≡ s
nothing_written name s = ap (λ outputs. record s { outputs = outputs }) (written_nil name s.outputs)
