-- What is noted of a burst, application by application, is what is seen of it.
use Rattle.std.proofs.Common.{◌≡◌, ℕ, zero, suc, ◌-◌, ◌<◌, ◌++◌, Bool, true, false, not, List, [], ◌∷◌, Option, Some, None, refl, sym, ap}
use Rattle.std.proofs.Common.{◌∙◌, arith, if◌then◌else◌}
use Rattle.std.specs.Prelude.{◌&&◌, ◌||◌, ◌==◌, ◌+◌}
use Rattle.std.specs.List.{list_any}
use Rattle.std.proofs.lemmas.List.Sums.{sum_by-append}
use Rattle.std.proofs.Math.Bool.{or-false, or-true, or_assoc}
use Rattle.fifo_model.specs.declared.Queue.{Queue}
use Rattle.machine_model.specs.declared.Did.{Did}
use Rattle.machine_model.specs.declared.Did.TheVariants.{GivenUp, Moved}
use Rattle.machine_model.specs.declared.Seen.{Seen}
use Rattle.sync_status.specs.declared.Verdict.{Verdict}
use Rattle.sync_status.specs.declared.Verdict.TheVariants.{Take}
use Rattle.sync_status.specs.Statuses.{is_end, kind_of, valid_bytes}
use Rattle.machine_model.specs.Seen.{Application, application, applications, bytes_taken, discards_reserved, discards_reserved_by, ends}
use Rattle.machine_model.specs.Seen.{ends_by, gives_up, gives_up_by, seen_alone, seen_burst, taken_by, takes, takes_by, verdict_of}
use Rattle.machine_model.specs.States.{State}
use Rattle.machine_model.specs.Turns.{apply}
use Rattle.dma_machine.specs.Needs.{Applied}
use Rattle.dma_machine.specs.Noted.{all_noted, noted}
use Rattle.dma_machine.specs.WholeTakes.{takes_whole}
use Rattle.dma_machine.proofs.WholeTakes.{IsWhole, plain_whole}

all_noted-append : (q : Queue) (first rest : List Application) (seen : Seen) →
    all_noted q (first ++ rest) seen ≡ all_noted q rest (all_noted q first seen)
all_noted-append q [] rest seen = refl
all_noted-append q (a ∷ first) rest seen = all_noted-append q first rest (noted q a seen)

continued : (wanted : Option State) (left : ℕ) (q : Queue) (made : Bool) (after before : State) (seen : Seen) →
    Applied wanted made after before →
    all_noted q (elim wanted as (λ _. List Application) [ None ↦ [] | Some next ↦ applications left q next ]) seen
    ≡ (if made then all_noted q (applications left q after) seen else seen)
continued None left q true after before seen h = let e = h.0 in cc
continued None left q false after before seen h = refl
continued (Some next) left q true after before seen h = ap (λ m. all_noted q (applications left q m) seen) (sym h.1)
continued (Some next) left q false after before seen h = let e = h.0 in cc

-- what is left to note of a burst after an application, or after none
pub noted-applied : (left : ℕ) (q : Queue) (made : Bool) (after before : State) (seen : Seen) → 0 < left →
    Applied (apply q before) made after before →
    all_noted q (applications left q before) seen
    ≡ (if made then all_noted q (applications (left - 1) q after) (all_noted q (application q before) seen)
    else all_noted q (application q before) seen)
noted-applied zero q made after before seen some h = absurd (omega arith)
noted-applied (suc left) q made after before seen some h =
    let one_less : suc left - 1 ≡ left = omega arith in
    all_noted-append q (application q before) _ seen
    ∙ continued (apply q before) left q made after before (all_noted q (application q before) seen) h
    ∙ ap (λ n. if made then all_noted q (applications n q after) (all_noted q (application q before) seen)
    else all_noted q (application q before) seen)
    (sym one_less)

continued_taken : (wanted : Option State) (left : ℕ) (q : Queue) (made : Bool) (after before : State) → Applied wanted made after before →
    bytes_taken (elim wanted as (λ _. List Application) [ None ↦ [] | Some next ↦ applications left q next ])
    ≡ (if made then bytes_taken (applications left q after) else 0)
continued_taken None left q true after before h = let e = h.0 in cc
continued_taken None left q false after before h = refl
continued_taken (Some next) left q true after before h = ap (λ m. bytes_taken (applications left q m)) (sym h.1)
continued_taken (Some next) left q false after before h = let e = h.0 in cc

-- how many bytes what is left of a burst takes, with an application or none
pub taken-applied : (left : ℕ) (q : Queue) (made : Bool) (after before : State) → 0 < left → Applied (apply q before) made after before →
    bytes_taken (applications left q before)
    ≡ bytes_taken (application q before) + (if made then bytes_taken (applications (left - 1) q after) else 0)
taken-applied zero q made after before some h = absurd (omega arith)
taken-applied (suc left) q made after before some h =
    let one_less : suc left - 1 ≡ left = omega arith in
    sum_by-append (λ a. taken_by (verdict_of a)) (application q before) _
    ∙ ap (λ n. bytes_taken (application q before) + n) (continued_taken (apply q before) left q made after before h)
    ∙ ap (λ n. bytes_taken (application q before) + (if made then bytes_taken (applications n q after) else 0)) (sym one_less)

either : (one other : Bool) (given otherwise : Did) →
    (if other then given else (if one then given else otherwise)) ≡ (if one || other then given else otherwise)
either true true given otherwise = refl
either true false given otherwise = refl
either false other given otherwise = refl

abbrev seen_as : Did → ℕ → Bool → Bool → Bool → Seen
seen_as did at took ended reserved = record { did = did; at = at; took = took; ended = ended; reserved = reserved }

same_seen : (did did_too : Did) (at : ℕ) (took took_too ended ended_too reserved reserved_too : Bool) →
    did ≡ did_too → took ≡ took_too → ended ≡ ended_too → reserved ≡ reserved_too →
    seen_as did at took ended reserved ≡ seen_as did_too at took_too ended_too reserved_too
same_seen did did_too at took took_too ended ended_too reserved reserved_too d t e r = cc (d, t, e, r)

-- what was seen before, with all that is noted of some applications
abbrev with_all : Queue → List Application → Seen → Seen
with_all q made seen =
    seen_as (if list_any gives_up made then GivenUp q else seen.did) seen.at (seen.took || list_any takes made)
    (seen.ended || list_any ends made) (seen.reserved || list_any discards_reserved made)

all_noted-with_all : (q : Queue) (made : List Application) (seen : Seen) → all_noted q made seen ≡ with_all q made seen
all_noted-with_all q [] seen =
    same_seen _ _ seen.at _ _ _ _ _ _ refl (sym (or-false seen.took)) (sym (or-false seen.ended)) (sym (or-false seen.reserved))
all_noted-with_all q (a ∷ made) seen =
    all_noted-with_all q made (noted q a seen)
    ∙ same_seen _ _ seen.at _ _ _ _ _ _
    (either (gives_up a) (list_any gives_up made) (GivenUp q) seen.did)
    (or_assoc seen.took (takes a) (list_any takes made))
    (or_assoc seen.ended (ends a) (list_any ends made))
    (or_assoc seen.reserved (discards_reserved a) (list_any discards_reserved made))

pub all_noted-seen_burst : (q : Queue) (at : ℕ) (made : List Application) →
    all_noted q made (seen_alone (Moved q) at) ≡ seen_burst q at made
all_noted-seen_burst q at made = all_noted-with_all q made (seen_alone (Moved q) at)

-- what is noted of a front that is taken whole

pub whole_noted : (q : Queue) (a : Application) (seen : Seen) →
    takes_whole (kind_of a.entry.status) a.demand.needs_sol a.taken a.demand.rest ≡ true →
    record seen { took = true } ≡ noted q a seen
whole_noted q a seen e =
    let whole : IsWhole (kind_of a.entry.status) a.demand.needs_sol a.taken a.demand.rest = plain_whole _ _ _ _ e in
    let verdict : Take 4 ≡ verdict_of a = sym whole.verdict in
    let no_end : false ≡ is_end (kind_of a.entry.status) = sym whole.no_end in
    same_seen _ _ seen.at _ _ _ _ _ _
    (ap (λ (b : Bool). if b && a.taken + 4 == valid_bytes a.entry.status && not (a.demand.rest == 4) then GivenUp q else seen.did) no_end
    ∙ ap (λ (v : Verdict). if gives_up_by v a then GivenUp q else seen.did) verdict)
    (sym (or-true seen.took) ∙ ap (λ (v : Verdict). seen.took || takes_by v) verdict)
    (sym (or-false seen.ended) ∙ ap (λ (b : Bool). seen.ended || (b && a.taken + 4 == valid_bytes a.entry.status)) no_end
    ∙ ap (λ (v : Verdict). seen.ended || ends_by v a) verdict)
    (sym (or-false seen.reserved) ∙ ap (λ (v : Verdict). seen.reserved || discards_reserved_by v a) verdict)

pub whole_taken : (a : Application) → takes_whole (kind_of a.entry.status) a.demand.needs_sol a.taken a.demand.rest ≡ true →
    4 ≡ taken_by (verdict_of a)
whole_taken a e =
    let whole : IsWhole (kind_of a.entry.status) a.demand.needs_sol a.taken a.demand.rest = plain_whole _ _ _ _ e in
    let verdict : Take 4 ≡ verdict_of a = sym whole.verdict in
    ap taken_by verdict
