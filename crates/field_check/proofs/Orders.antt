-- Which cause comes first at a SYNC.
use Rattle.std.proofs.Common.{◌≡◌, Bool, List, [], ◌∷◌, Option, Some, None, refl, sym, ap, ◌∙◌}
use Rattle.risc_word.specs.declared.Code.{Code}
use Rattle.risc_word.specs.declared.Ctl.{Ctl}
use Rattle.risc_word.specs.declared.Instr.{Instr}
use Rattle.risc_word.specs.declared.Instr.TheVariants.{Sync}
use Rattle.fifo_model.specs.declared.Queue.{Queue}
use Rattle.fifo_model.specs.declared.Queue.TheVariants.{One, Two, Three}
use Rattle.pixel_layout.specs.declared.Parity.{Parity}
use Rattle.capture_desc.specs.declared.desc.Desc.{Desc}
use Rattle.field_law.specs.Sections.{Ask}
use Rattle.check_model.specs.Checks.{Awaited, first_why, instr_why, order_why, over_queues, queue_why}
use Rattle.check_model.specs.declared.Why.{Why}
use Rattle.field_check.specs.Tracks.{code_why, none_why}

why_alone : (w : Option Why) → first_why w None ≡ w
why_alone None = refl
why_alone (Some why) = refl

module _ (d : Desc) (field : Parity) (ctl : Ctl) (resync : Bool) (code : Code) (left : Awaited) where
  abbrev waits : Queue → Option Why
  waits q = code_why d field q code (left q)

  abbrev asks : Option Why
  asks = over_queues (queue_why d field (Sync ctl resync code) left)

  pub first_waits : (why : Why) → Some why ≡ waits One → Some why ≡ order_why d field (Sync ctl resync code) left
  first_waits why one = ap (λ (w : Option Why). first_why (first_why w (first_why (waits Two) (waits Three))) asks) one

  pub second_waits : (why : Why) → None ≡ waits One → Some why ≡ waits Two → Some why ≡ order_why d field (Sync ctl resync code) left
  second_waits why one two =
      ap (λ (w : Option Why). first_why (first_why w (waits Three)) asks) two
      ∙ ap (λ (w : Option Why). first_why (first_why w (first_why (waits Two) (waits Three))) asks) one

  pub third_waits : (why : Why) → None ≡ waits One → None ≡ waits Two → Some why ≡ waits Three →
      Some why ≡ order_why d field (Sync ctl resync code) left
  third_waits why one two three =
      ap (λ (w : Option Why). first_why w asks) three
      ∙ ap (λ (w : Option Why). first_why (first_why w (waits Three)) asks) two
      ∙ ap (λ (w : Option Why). first_why (first_why w (first_why (waits Two) (waits Three))) asks) one

  missing : (q : Queue) (asks : List Ask) → None ≡ code_why d field q code asks →
      none_why q asks ≡ queue_why d field (Sync ctl resync code) (λ _. asks) q
  missing q [] none = refl
  missing q (next ∷ rest) none = none

  pub none_waits : (nothing : Option Why) → None ≡ waits One → None ≡ waits Two → None ≡ waits Three →
      nothing ≡ over_queues (λ q. none_why q (left q)) →
      nothing ≡ order_why d field (Sync ctl resync code) left
  none_waits nothing one two three is =
      is
      ∙ ap (λ (w : Option Why). first_why w (first_why (none_why Two (left Two)) (none_why Three (left Three))))
      (missing One (left One) one)
      ∙ ap (λ (w : Option Why). first_why (queue_why d field (Sync ctl resync code) left One) (first_why w (none_why Three (left Three))))
      (missing Two (left Two) two)
      ∙ ap (λ (w : Option Why). first_why (queue_why d field (Sync ctl resync code) left One)
      (first_why (queue_why d field (Sync ctl resync code) left Two) w)) (missing Three (left Three) three)
      ∙ ap (λ (w : Option Why). first_why w asks) three
      ∙ ap (λ (w : Option Why). first_why (first_why w (waits Three)) asks) two
      ∙ ap (λ (w : Option Why). first_why (first_why w (first_why (waits Two) (waits Three))) asks) one

  pub sync_only : (instr : Instr) → instr ≡ Sync ctl resync code →
      order_why d field (Sync ctl resync code) left ≡ instr_why d field instr left
  sync_only instr is =
      sym (ap (λ (instr : Instr). instr_why d field instr left) is ∙ why_alone (order_why d field (Sync ctl resync code) left))
