-- Words that are appended to others, and those of instructions that are left.
use Rattle.std.proofs.Common.{◌≡◌, ◌++◌, ℕ, List, [], append_assoc, refl, sym, ap, ◌∙◌}
use Rattle.std.proofs.lemmas.Grind.{flat_map-append}
use Rattle.std.proofs.lemmas.List.{append-nil}
use Rattle.risc_word.specs.Words.{encoded}
use Rattle.risc_word.specs.declared.Instr.{Instr}
use Rattle.picture_model.specs.Programs.{words_of}
use Rattle.field_compile.specs.Kept.{BeginsWith}

pub begins_here : (old : List ℕ) → BeginsWith old old
begins_here old = record { added = []; split = sym (append-nil old) }

pub begins_then : (old words new : List ℕ) → BeginsWith old words → BeginsWith words new → BeginsWith old new
begins_then old words new first then =
    record {
      added = first.added ++ then.added;
      split = then.split ∙ ap (λ (w : List ℕ). w ++ then.added) first.split ∙ append_assoc old first.added then.added;
    }

-- old words are still there, and with the words of the instructions that are left all are there
pub record IsLeft (old out : List ℕ) (rest all : List Instr) : Type 0 where
  pub kept : BeginsWith old out
  pub whole : out ++ words_of rest ≡ old ++ words_of all

pub all_left : (old : List ℕ) (all : List Instr) → IsLeft old old all all
all_left old all = record { kept = begins_here old; whole = refl }

-- some instructions more
pub fewer_left : (old out new : List ℕ) (next rest all : List Instr) → IsLeft old out (next ++ rest) all → BeginsWith out new →
    new ≡ out ++ words_of next → IsLeft old new rest all
fewer_left old out new next rest all left kept added =
    record {
      kept = begins_then old out new left.kept kept;
      whole =
          ap (λ (w : List ℕ). w ++ words_of rest) added
          ∙ append_assoc out (words_of next) (words_of rest)
          ∙ ap (λ (w : List ℕ). out ++ w) (sym (flat_map-append encoded next rest))
          ∙ left.whole;
    }

-- none is left
pub none_left : (old out : List ℕ) (rest all : List Instr) → IsLeft old out rest all → rest ≡ [] → out ≡ old ++ words_of all
none_left old out rest all left none =
    sym (append-nil out) ∙ ap (λ (instrs : List Instr). out ++ words_of instrs) (sym none) ∙ left.whole
