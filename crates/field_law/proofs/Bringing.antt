-- Entries that bring tokens, put together.
use Rattle.std.proofs.Common.{◌≡◌, ℕ, List, [], ◌∷◌, ◌++◌, Some, refl, sym, ap, subst, ◌∙◌, append_assoc}
use Rattle.risc_word.specs.declared.Code.{Code}
use Rattle.risc_word.specs.declared.Code.TheVariants.{Vre, Vro, Fm1, Fm3}
use Rattle.risc_word.specs.Words.{code_number}
use Rattle.sync_status.specs.Statuses.{kind_of}
use Rattle.fifo_model.specs.declared.Entry.{Entry}
use Rattle.fifo_model.specs.Queues.{code_of_kind, control_entry}
use Rattle.fifo_model.specs.declared.Queue.{Queue}
use Rattle.field_law.specs.Fields.{Token, Mark, Row, IsLine, Brings}
use Rattle.field_law.specs.Arrivals.{pushed_by, pushed_in}
use Rattle.machine_model.specs.Steps.{Step}

code_seen : (code : Code) → code_of_kind (kind_of (code_number code)) ≡ Some code
code_seen Vre = refl
code_seen Vro = refl
code_seen Fm1 = refl
code_seen Fm3 = refl

pub mark_brings : (code : Code) (tokens : List Token) (entries : List Entry) → Brings tokens entries →
    Brings (Mark code ∷ tokens) (control_entry code ∷ entries)
mark_brings code tokens entries here = (control_entry code, entries, refl, code_seen code, here)

pub row_brings : (bytes : List ℕ) (line : List Entry) (tokens : List Token) (entries : List Entry) → IsLine bytes line →
    Brings tokens entries → Brings (Row bytes ∷ tokens) (line ++ entries)
row_brings bytes line tokens entries is here = (line, entries, refl, is, here)

-- what brings some tokens and then what brings others
pub brings-append : (first later : List Token) (xs ys : List Entry) → Brings first xs → Brings later ys → Brings (first ++ later) (xs ++ ys)
brings-append [] later xs ys one two = subst (λ (xs : List Entry). Brings later (xs ++ ys)) (sym one) two
brings-append (Mark code ∷ first) later xs ys one two =
    subst (λ (xs : List Entry). Brings (Mark code ∷ (first ++ later)) (xs ++ ys)) (sym one.2)
    (one.0, one.1 ++ ys, refl, one.3, brings-append first later one.1 ys one.4 two)
brings-append (Row bytes ∷ first) later xs ys one two = (
  one.0,
  one.1 ++ ys,
  ap (λ (xs : List Entry). xs ++ ys) one.2 ∙ append_assoc one.0 one.1 ys,
  one.3,
  brings-append first later one.1 ys one.4 two,
)

-- what some steps push and then what others push
pub pushed_in-append : (xs ys : List Step) (q : Queue) → pushed_in (xs ++ ys) q ≡ pushed_in xs q ++ pushed_in ys q
pushed_in-append [] ys q = refl
pushed_in-append (x ∷ xs) ys q =
    ap (λ (rest : List Entry). pushed_by x q ++ rest) (pushed_in-append xs ys q)
    ∙ sym (append_assoc (pushed_by x q) (pushed_in xs q) (pushed_in ys q))
