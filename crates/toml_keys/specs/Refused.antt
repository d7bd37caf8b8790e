-- When a text gives no table.
use Rattle.std.specs.Prelude.{◌≡◌, ℕ, List, None, Result, Ok, Err, ⊤}
use Rattle.toml_keys.specs.declared.table.TableError.{TableError}
use Rattle.toml_keys.specs.declared.table.TableError.TheVariants.{NotToml, Memory}
use Rattle.toml_keys.specs.Keys.{document_of}

-- NotToml means that the text is no document; it may be out of memory at any text
abbrev pub IsRefused : {A : Type 0} → List ℕ → Result A TableError → Type 0
IsRefused text (Ok table) = ⊤
IsRefused text (Err NotToml) = document_of text ≡ None
IsRefused text (Err Memory) = ⊤
