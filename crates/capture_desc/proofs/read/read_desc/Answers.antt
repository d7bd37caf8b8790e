use Rattle.capture_desc.proofs.Formed.{answered-IsWellFormed}
use Rattle.capture_desc.proofs.Shown.{answered-shown}
use Rattle.capture_desc.proofs.read.read_desc.Goals as goal

pub returns : goal.returns
returns c =
    let answer = c.read_text.ensures in
    record {
      answer = answer;
      well_formed = answered-IsWellFormed c.args.text.now _ answer;
      shown = answered-shown c.args.text.now _ answer;
    }
