-- What a checked description meets, and the words of its sections.
use Rattle.std.specs.Prelude.{◌≡◌, ◌+◌, ◌*◌, ◌^◌, ◌≤◌, List, ℕ, length}
use Rattle.capture_desc.specs.declared.desc.Desc.{Desc}
use Rattle.picture_model.specs.Described.{IsDescription}
use Rattle.picture_model.specs.Geometry.{IsValid}
use Rattle.picture_model.specs.Programs.{compiled_words, sections_words}

-- a description whose geometry has no fault at all
pub record IsChecked (d : Desc) : Type 0 where
  pub description : IsDescription d
  pub valid : IsValid d

-- words are those of the sections at an address, with a way back. Where the sections end beyond 2^32 there
-- is no address for each of them, and only their number is that of the sections
pub record AreSections (d : Desc) (at back : ℕ) (words : List ℕ) : Type 0 where
  pub long : length words ≡ length (sections_words d at back)
  pub same : at + 4 * length (sections_words d at back) ≤ 2 ^ 32 → words ≡ sections_words d at back

-- the words that are kept of a description are those of its program
pub record HasWords (d : Desc) (kept : List ℕ) : Type 0 where
  pub checked : IsChecked d
  pub words : kept ≡ compiled_words d
