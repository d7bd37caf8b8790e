-- How a command ends: its refusal is reported, or what it made is delivered.
use Rattle.std.proofs.Common.{◌≡◌, ℕ, zero, suc, ◌<◌, ◌⊎◌, inl, inr, All, Bool, true, false, List, [], ◌∷◌, ◌++◌, length, take}
use Rattle.std.proofs.Common.{slice_index_or, Option, refl, sym, ap, subst, ◌∙◌, arith}
use Rattle.capture_desk.specs.declared.calls.Call.{Call}
use Rattle.capture_desk.specs.Desks.{Inputs, IsAllowed, Seen, Tells, Told, after_say, counted, said_by}
use Rattle.capture_desk.proofs.Telling.{tells_both}
use Rattle.bt878_words.specs.declared.Task.{Task}
use Rattle.bt878_words.specs.Words.{writes}
use Rattle.command_texts.specs.declared.answer.Answer.{Answer}
use Rattle.command_texts.specs.declared.answer.Answer.TheVariants.{Done, NoMemory, Usage, WriteFault}
use Rattle.command_texts.specs.declared.refusal.Refusal.{Refusal}
use Rattle.command_texts.specs.declared.refusal.Refusal.TheVariants as refusal
use Rattle.command_texts.specs.Answers.{TakesMemory, answer_of}
use Rattle.command_texts.specs.Texts.{answer_text}
use Rattle.command_steps.specs.declared.outputs.Output.{Output}
use Rattle.command_steps.specs.Inputs.{Input, KeepsReads, StopsIn, apart}
use Rattle.command_steps.specs.Reading.{AreTakenUpTo, EndsTaking, IsOpened, IsShortAt, MayCome, Stopped, Took}
use Rattle.command_steps.specs.Outputs.{AreCutOff, AreDelivered, Finishes, IsDeliveryPart, IsPart, LastWriteFailed, Product, Refused, Says}
use Rattle.command_steps.specs.Outputs.{delivered, delivery}
use Rattle.command_steps.proofs.Parts.{apart_part, apart_delivered}
use Rattle.bt878_contract.specs.Tasks.{AreAllowed, Ends, IsDone, IsPartDone, IsProduct, IsRefused, Stops, inputs_of}
use Rattle.bt878_contract.proofs.Judges.{stops_later}

-- ---- refusals

said_from : (text : List ℕ) (old mid new : Seen) → mid.writes ≡ old.writes → apart mid.told ≡ apart old.told → Says text mid new →
    Says text old new
said_from text old mid new more same (n, few, e, whole) = (n, few, e ∙ ap (after_say (take n text)) same, from whole)
  where
    from : ((n ≡ length text) × (new.writes ≡ mid.writes)) ⊎ LastWriteFailed mid new →
        ((n ≡ length text) × (new.writes ≡ old.writes)) ⊎ LastWriteFailed old new
    from (inl all) = inl (all.0, all.1 ∙ more)
    from (inr fault) = inr (fault.0 ∙ ap counted more, fault.1)

ends_by : (task : Task) (r : Refusal) (old new : Seen) → IsRefused task r old new → Ends task (answer_of r) old new
ends_by task refusal.ReadFault old new h = (refusal.ReadFault, refl, h)
ends_by task (refusal.Malformed file fault) old new h = (refusal.Malformed file fault, refl, h)
ends_by task (refusal.BadDesc fault) old new h = (refusal.BadDesc fault, refl, h)
ends_by task (refusal.BadGeometry fault) old new h = (refusal.BadGeometry fault, refl, h)
ends_by task (refusal.BadChain fault) old new h = (refusal.BadChain fault, refl, h)
ends_by task (refusal.BadRing fault) old new h = (refusal.BadRing fault, refl, h)
ends_by task (refusal.BadText fault) old new h = (refusal.BadText fault, refl, h)
ends_by task (refusal.Rejected at nth cause) old new h = (refusal.Rejected at nth cause, refl, h)
ends_by task (refusal.Differs text) old new h = (refusal.Differs text, refl, h)
ends_by task refusal.NoMemory old new h = (refusal.NoMemory, refl, h)

no_memory : (inputs : List Input) (old new : Seen) → StopsIn inputs refusal.NoMemory old new
no_memory [] old new = refl
no_memory (input ∷ inputs) old new = inl tt

-- out of memory for the text of a refusal: then memory runs out at the input that the refusal is of
short_at : (kept : Bool) (name : List ℕ) (told : Option Inputs) (calls : List Call) → kept ≡ true → IsOpened name told calls →
    IsShortAt kept name told calls
short_at true name told calls is h = h
short_at false name told calls is h = absurd (cc)

short_ends : (r : Refusal) (kept : Bool) (name : List ℕ) (told : Option Inputs) (calls : List Call) → TakesMemory r →
    EndsTaking r kept name told calls → EndsTaking refusal.NoMemory kept name told calls
short_ends refusal.ReadFault kept name told calls takes h = absurd takes
short_ends refusal.NoMemory kept name told calls takes h = h
short_ends r kept name told calls takes h = short_at kept name told calls (h.1 takes) h.0

short_comes : (r : Refusal) (kept : Bool) → TakesMemory r → MayCome r kept → kept ≡ true
short_comes refusal.NoMemory kept takes h = h
short_comes r kept takes h = h takes

short_calls : (inputs : List Input) (r : Refusal) (told : Option Inputs) (calls : List Call) → TakesMemory r →
    AreTakenUpTo inputs r told calls → AreTakenUpTo inputs refusal.NoMemory told calls
short_calls [] r told calls takes h = h
short_calls (input ∷ inputs) r told calls takes (inl h) = inl (h.0, short_ends r input.judge.kept input.name told calls takes h.1)
short_calls (input ∷ inputs) r told calls takes (inr (x, y, e, whole, good, may, more)) =
    inr (x, y, e, whole, good, short_comes r input.judge.kept takes may, short_calls inputs r told y takes more)

short_reads : (r : Refusal) (old new : Seen) → TakesMemory r → KeepsReads r old new → new.reads ≡ old.reads
short_reads refusal.ReadFault old new takes h = absurd takes
short_reads r old new takes h = h

-- what comes after a refusal reads nothing
reads_later : (r : Refusal) (old mid new : Seen) → new.reads ≡ mid.reads → KeepsReads r old mid → KeepsReads r old new
reads_later refusal.ReadFault old mid new same h = tt
reads_later r old mid new same h = same ∙ h

pub ends_refused : (task : Task) (r : Refusal) (answer : Answer) (old mid new : Seen) → Stopped (inputs_of task) r old mid →
    Refused r answer mid new → Ends task answer old new
ends_refused task r answer old mid new stopped refused = by_answer refused.0
  where
    refused_as : (other : Refusal) → answer ≡ answer_of other → Stops task other old new → KeepsReads other old new →
        AreTakenUpTo (inputs_of task) other old.told.inputs stopped.calls.0 → IsRefused task other old new
    refused_as other e why reads taken =
        record {
          why = why;
          reads = reads;
          said =
              subst (λ a. Says (answer_text a) old new) e
              (said_from (answer_text answer) old mid new stopped.writes stopped.told refused.1.0);
          calls = (
            stopped.calls.0 ++ said_by (answer_text (answer_of other)),
            (stopped.calls.0, taken, refl),
            tells_both stopped.calls.0 (said_by (answer_text (answer_of other))) old.calls mid.calls new.calls stopped.calls.2
                (subst (λ a. Tells (said_by (answer_text a)) mid.calls new.calls) e refused.1.1),
          );
        }

    by_answer : (answer ≡ answer_of r) ⊎ ((answer ≡ NoMemory) × TakesMemory r) → Ends task answer old new
    by_answer (inl e) =
        subst (λ a. Ends task a old new) (sym e)
        (ends_by task r old new
        (refused_as r e (stops_later (inputs_of task) r old mid new refused.1.2 stopped.why)
        (reads_later r old mid new refused.1.2 stopped.reads) stopped.calls.1))
    by_answer (inr (e, takes)) =
        subst (λ a. Ends task a old new) (sym e)
        (ends_by task refusal.NoMemory old new
        (refused_as refusal.NoMemory e (no_memory (inputs_of task) old new) (refused.1.2 ∙ short_reads r old mid takes stopped.reads)
        (short_calls (inputs_of task) r old.told.inputs stopped.calls.0 takes stopped.calls.1)))

-- ---- what is done

module _ (task : Task) (product : Product) (old mid new : Seen) (took : Took (inputs_of task) old mid)
    (made : IsProduct task old.told.inputs product) where
  task_done : AreDelivered product.files product.text mid new → IsDone task old new
  task_done h =
      record {
        product = product;
        made = made;
        left = ap apart h.left ∙ apart_delivered product.files product.text mid.told ∙ ap (delivered product.files product.text) took.told;
        counts = (h.counts.0 ∙ took.reads, h.counts.1 ∙ took.writes);
        calls = (
          took.calls.0 ++ delivery (writes task) product.text,
          (took.calls.0, took.calls.1, refl),
          tells_both took.calls.0 (delivery (writes task) product.text) old.calls mid.calls new.calls took.calls.2
              (subst (λ names. Tells (delivery names product.text) mid.calls new.calls) made.names h.calls),
        );
      }

  task_part : AreCutOff product.files product.text mid new → IsPartDone task old new
  task_part h =
      record {
        product = product;
        made = made;
        left =
            subst (λ t. IsPart product.files product.text t (apart new.told)) took.told
            (apart_part product.files product.text mid.told new.told h.left);
        fault = (h.fault.0 ∙ took.reads, h.fault.1 ∙ ap counted took.writes, h.fault.2);
        calls = (
          took.calls.0 ++ h.calls.0,
          (took.calls.0, h.calls.0, took.calls.1, subst (λ names. IsDeliveryPart names h.calls.0) made.names h.calls.1, refl),
          tells_both took.calls.0 h.calls.0 old.calls mid.calls new.calls took.calls.2 h.calls.2,
        );
      }

  pub ends_finished : (answer : Answer) → Finishes product.files product.text answer mid new → Ends task answer old new
  ends_finished Done h = task_done h
  ends_finished WriteFault h = task_part h
  ends_finished (Usage fault) h = absurd h
  ends_finished answer h = absurd h

-- ---- names that may be created

-- the names of outputs may still be created once the inputs are taken
pub still_allowed : (names others : List (List ℕ)) (old mid : Told) → others ≡ names → apart mid ≡ apart old →
    AreAllowed names old.may_create → AreAllowed others mid.may_create
still_allowed names others old mid same taken h =
    subst (λ ns. AreAllowed ns mid.may_create) (sym same) (subst (AreAllowed names) (sym (ap (λ (t : Told). t.may_create) taken)) h)

pub one_allowed : {C : Type 0} (output : Output C) (told : Option (List (List ℕ))) → IsAllowed output.name.now told →
    All (λ (output : Output C). IsAllowed output.name.now told) (output ∷ [])
one_allowed output told h = λ k d less. first_of_one k d less
  where
    first_of_one : (k : ℕ) (d : Output _) → k < 1 → IsAllowed (slice_index_or (output ∷ []) k d).name.now told
    first_of_one zero d less = h
    first_of_one (suc k) d less = absurd (omega (arith, less))

pub two_allowed : {C : Type 0} (one two : Output C) (told : Option (List (List ℕ))) → IsAllowed one.name.now told →
    IsAllowed two.name.now told → All (λ (output : Output C). IsAllowed output.name.now told) (one ∷ two ∷ [])
two_allowed one two told h k = λ i d less. first_of_two i d less
  where
    first_of_two : (i : ℕ) (d : Output _) → i < 2 → IsAllowed (slice_index_or (one ∷ two ∷ []) i d).name.now told
    first_of_two zero d less = h
    first_of_two (suc zero) d less = k
    first_of_two (suc (suc i)) d less = absurd (omega (arith, less))
