-- A whole stream.
use Rattle.std.proofs.Common.{◌≡◌, ℕ, List, [], ◌∷◌, ◌++◌, sym, ap, ◌∙◌}
use Rattle.std.specs.Prelude.{codes}
use Rattle.std.specs.List.{flat_map}
use Rattle.std.proofs.lemmas.List.{append-nil}
use Rattle.pixel_layout.specs.declared.Parity.TheVariants.{Top, Bottom}
use Rattle.capture_desc.specs.declared.desc.Desc.{Desc}
use Rattle.capture_desc.specs.declared.desc.Fields.{Fields}
use Rattle.capture_desc.specs.declared.desc.Fields.TheVariants as fields
use Rattle.picture_model.specs.Described.{fields_of}
use Rattle.field_stream.specs.Generator.{first_number}
use Rattle.field_stream.specs.Pushes.{Push, field_pushes, frame_pushes, stream_pushes}
use Rattle.field_stream.specs.Made.{made}
use Rattle.field_stream.specs.Drafts.{Drafted, pushed_all}
use Rattle.field_stream.proofs.Moving.{pushed_all-bytes}

pub frame_both : (d : Desc) → d.fields ≡ fields.Both → field_pushes d Top ++ field_pushes d Bottom ≡ frame_pushes d
frame_both d is =
    ap (λ (ps : List Push). field_pushes d Top ++ ps) (sym (append-nil (field_pushes d Bottom)))
    ∙ ap (λ (which : Fields). flat_map (field_pushes d) (fields_of which)) (sym is)

-- the first word, and the number of the generator before anything is drawn
abbrev pub begun : ℕ → Drafted
begun seed = record { bytes = codes "BFS1"; number = first_number seed }

pub begun_as : (seed : ℕ) (first draft : Drafted) → first ≡ record { bytes = []; number = first_number seed } →
    draft ≡ record first { bytes = first.bytes ++ codes "BFS1" } → draft ≡ begun seed
begun_as seed first draft e f = f ∙ ap (λ (d : Drafted). record d { bytes = d.bytes ++ codes "BFS1" }) e

pub made_whole : (d : Desc) (seed frames : ℕ) (draft : Drafted) → draft ≡ begun seed →
    (pushed_all (stream_pushes d frames) draft).bytes ++ 0 ∷ [] ≡ made d seed frames
made_whole d seed frames draft e =
    ap (λ (first : Drafted). (pushed_all (stream_pushes d frames) first).bytes ++ 0 ∷ []) e
    ∙ ap (λ (bs : List ℕ). bs ++ 0 ∷ []) (pushed_all-bytes (stream_pushes d frames) (begun seed))
