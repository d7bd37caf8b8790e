-- The document that a text is, by the contracts of `toml`.
use Rattle.std.proofs.Common.{◌≡◌, ℕ, Bool, false, List, Some, None, inl, inr, sym, ◌∙◌}
use Rattle.std.specs.Prelude.{IsUtf8, IsTrue, ◌↔◌}
use Rattle.std.specs.Str.{is_utf8}
use Rattle.std.proofs.lemmas.Bool.{cases_Bool, false≢true}
use Rattle.std.proofs.lemmas.Str.{IsUtf8-from_is_utf8, is_utf8-from_IsUtf8}
use Rattle.toml.specs.Data.{Members}
use Rattle.toml.specs.Parse.{parse_document}
use Rattle.toml.specs.Errors.{IsMemory}
use Rattle.toml.specs.declared.de.error.Error.{Error}
use Rattle.toml_keys.specs.Keys.{document_of}

no_document : (text : List ℕ) → (IsUtf8 text → parse_document text ≡ None) → document_of text ≡ None
no_document text refused =
    elim (cases_Bool (is_utf8 text)) [
      | inl utf8 ↦ rw (utf8, refused (IsUtf8-from_is_utf8 text utf8))
      | inr other ↦ rw other
    ]

pub some_document : (text : List ℕ) (ms : Members) → IsUtf8 text × (parse_document text ≡ Some ms) → document_of text ≡ Some ms
some_document text ms parsed = rw (is_utf8-from_IsUtf8 text parsed.0, parsed.1)

pub refused_document : (text : List ℕ) (error : Error) (memory : Bool) → (IsTrue memory ↔ IsMemory error) → memory ≡ false →
    ((IsMemory error → ⊥) → IsUtf8 text → parse_document text ≡ None) → document_of text ≡ None
refused_document text error memory decides other refused =
    no_document text (refused (λ is_memory. false≢true (sym other ∙ decides.1 is_memory)))
