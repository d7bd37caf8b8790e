-- The exit status of a call.
use Rattle.std.specs.Prelude.{◌≡◌, ℕ, Result}
use Rattle.bt878_words.specs.declared.Task.{Task}
use Rattle.bt878_words.specs.declared.UsageFault.{UsageFault}
use Rattle.capture_desk.specs.Desks.{Seen}
use Rattle.command_texts.specs.declared.answer.Answer.{Answer}
use Rattle.command_texts.specs.Answers.{status_of}
use Rattle.bt878_contract.specs.Tasks.{Answers}

-- it is that of an answer for which everything holds that `bt878` promises of it
pub record EndsWith (words : Result Task UsageFault) (status : ℕ) (old new : Seen) : Type 0 where
  pub answer : Answer
  pub answers : Answers words answer old new
  pub of_answer : status ≡ status_of answer
