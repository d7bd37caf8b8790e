-- Laws of what a desk's calls change.
use Rattle.std.proofs.Common.{ℕ, ◌+◌, List, [], ◌∷◌, ◌++◌, drop, Option, Some, None, option_map, Bool, true, false, if◌then◌else◌, ◌≡◌}
use Rattle.std.proofs.Common.{refl, ap, append_assoc}
use Rattle.std.proofs.lemmas.List.{drop-drop}
use Rattle.std.proofs.lemmas.List as list
use Rattle.std.specs.Str.{bytes_eq}
use Rattle.capture_desk.specs.declared.append.Sink.{Sink}
use Rattle.capture_desk.specs.declared.append.Sink.TheVariants.{Output, Text}
use Rattle.capture_desk.specs.Sinks.{IsReady, after_append}
use Rattle.capture_desk.specs.Desks.{Outputs, Told, after_read, after_say, after_write, appended, written}

-- nothing appended is nothing changed, and two pieces are one
more_nil : (o : Option (List ℕ)) → option_map (λ old. old ++ []) o ≡ o
more_nil None = refl
more_nil (Some old) = ap Some (list.append-nil old)

more_twice : (a b : List ℕ) (o : Option (List ℕ)) →
    option_map (λ old. old ++ b) (option_map (λ old. old ++ a) o) ≡ option_map (λ old. old ++ (a ++ b)) o
more_twice a b None = refl
more_twice a b (Some old) = ap Some (append_assoc old a b)

keep_cases : (t : Bool) (file : List ℕ × Option (List ℕ)) (files rest : Outputs) → rest ≡ files →
    (if t then (file.0, option_map (λ old. old ++ []) file.1) ∷ files else file ∷ rest) ≡ file ∷ files
keep_cases true file files rest e = ap (λ x. (file.0, x) ∷ files) (more_nil file.1)
keep_cases false file files rest e = ap (λ x. file ∷ x) e

pub appended-nil : (name : List ℕ) (outputs : Outputs) → appended name [] outputs ≡ outputs
appended-nil name [] = refl
appended-nil name (file ∷ files) = keep_cases (bytes_eq file.0 name) file files _ (appended-nil name files)

join_cases : (t : Bool) (name a b : List ℕ) (file : List ℕ × Option (List ℕ)) (files : Outputs) → bytes_eq file.0 name ≡ t →
    appended name b (appended name a files) ≡ appended name (a ++ b) files →
    appended name b (if t then (file.0, option_map (λ old. old ++ a) file.1) ∷ files else file ∷ appended name a files)
    ≡ (if t then (file.0, option_map (λ old. old ++ (a ++ b)) file.1) ∷ files else file ∷ appended name (a ++ b) files)
join_cases true name a b file files e h = rw e (ap (λ x. (file.0, x) ∷ files) (more_twice a b file.1))
join_cases false name a b file files e h = rw e (ap (λ x. file ∷ x) h)

pub appended-appended : (name a b : List ℕ) (outputs : Outputs) → appended name b (appended name a outputs) ≡ appended name (a ++ b) outputs
appended-appended name a b [] = refl
appended-appended name a b (file ∷ files) = join_cases (bytes_eq file.0 name) name a b file files refl (appended-appended name a b files)

pub written_nil : (writing : Option (List ℕ)) (outputs : Option Outputs) → option_map (written writing []) outputs ≡ outputs
written_nil writing None = refl
written_nil None (Some outputs) = refl
written_nil (Some name) (Some outputs) = ap Some (appended-nil name outputs)

written_twice : (writing : Option (List ℕ)) (a b : List ℕ) (outputs : Option Outputs) →
    option_map (written writing b) (option_map (written writing a) outputs) ≡ option_map (written writing (a ++ b)) outputs
written_twice writing a b None = refl
written_twice None a b (Some outputs) = refl
written_twice (Some name) a b (Some outputs) = ap Some (appended-appended name a b outputs)

pub after_write-nil : (t : Told) → after_write [] t ≡ t
after_write-nil t = ap (λ x. record t { outputs = x }) (written_nil t.writing t.outputs)

pub after_write-after_write : (a b : List ℕ) (t : Told) → after_write b (after_write a t) ≡ after_write (a ++ b) t
after_write-after_write a b t = ap (λ x. record t { outputs = x }) (written_twice t.writing a b t.outputs)

pub after_say-nil : (t : Told) → after_say [] t ≡ t
after_say-nil t = ap (λ x. record t { said = x }) (more_nil t.said)

pub after_say-after_say : (a b : List ℕ) (t : Told) → after_say b (after_say a t) ≡ after_say (a ++ b) t
after_say-after_say a b t = ap (λ x. record t { said = x }) (more_twice a b t.said)

-- the same wherever bytes are appended
pub append-nil : (sink : Sink) (t : Told) → after_append sink [] t ≡ t
append-nil Output t = after_write-nil t
append-nil Text t = after_say-nil t

pub append-append : (sink : Sink) (a b : List ℕ) (t : Told) → after_append sink b (after_append sink a t) ≡ after_append sink (a ++ b) t
append-append Output a b t = after_write-after_write a b t
append-append Text a b t = after_say-after_say a b t

pub ready_after : (sink : Sink) (bytes : List ℕ) (t : Told) → IsReady sink t → IsReady sink (after_append sink bytes t)
ready_after Output bytes t h = h
ready_after Text bytes t h = tt

-- nothing read is nothing changed, and two reads are one
drop_none : (rest : Option (List ℕ)) → option_map (λ bytes. drop 0 bytes) rest ≡ rest
drop_none None = refl
drop_none (Some bytes) = refl

drop_twice : (m n : ℕ) (rest : Option (List ℕ)) →
    option_map (λ bytes. drop n bytes) (option_map (λ bytes. drop m bytes) rest) ≡ option_map (λ bytes. drop (m + n) bytes) rest
drop_twice m n None = refl
drop_twice m n (Some bytes) = ap Some (drop-drop n m bytes)

pub after_read-none : (t : Told) → after_read 0 t ≡ t
after_read-none t = ap (λ x. record t { rest = x }) (drop_none t.rest)

pub after_read-after_read : (m n : ℕ) (t : Told) → after_read n (after_read m t) ≡ after_read (m + n) t
after_read-after_read m n t = ap (λ x. record t { rest = x }) (drop_twice m n t.rest)
