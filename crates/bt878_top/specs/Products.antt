-- The files that outputs are, and what a command produced.
use Rattle.std.specs.Prelude.{ℕ, List, [], ◌∷◌}
use Rattle.capture_file.specs.Images.{image_of}
use Rattle.capture_file.specs.Programs.{spelled}
use Rattle.damage_map.specs.Maps.{rows_of}
use Rattle.command_texts.specs.DamageTexts.{damage_text}
use Rattle.field_stream.specs.Made.{made}
use Rattle.command_steps.specs.Outputs.{Product}
use Rattle.trace_play.specs.Playing.{text_left}
use Rattle.bt878_top.specs.Contents.{listing_with}
use Rattle.bt878_top.specs.declared.produced.Outputs.{Outputs}
use Rattle.bt878_top.specs.declared.produced.Outputs.TheVariants as outputs
use Rattle.bt878_top.specs.declared.produced.Produced.{Produced}
use Rattle.bt878_top.specs.declared.produced.Produced.TheVariants.{Ready, Checked, Listing, Traced, Damaged, Files}

-- the files in their order, each a name with bytes
abbrev pub files_of : Outputs → List (List ℕ × List ℕ)
files_of (outputs.Program name program fill) = (name.now, spelled program fill) ∷ []
files_of (outputs.Stream name checked seed frames) = (name.now, made checked seed frames) ∷ []
files_of (outputs.Image name machine) = (name.now, image_of machine.memory) ∷ []
files_of (outputs.ProgramAndImage program fill image machine) =
    (program.now, spelled machine.program fill) ∷ (image.now, image_of machine.memory) ∷ []
files_of (outputs.ChainImage name buffer) = (name.now, image_of buffer.live.machine.memory) ∷ []

-- the files and the text
abbrev pub product_of : Produced → Product
product_of (Ready text) = record { files = []; text = text.now }
product_of (Checked text) = record { files = []; text = text }
product_of (Listing listed) = record { files = []; text = listing_with listed.program listed.memory.items }
product_of (Traced trace) = record { files = []; text = text_left trace }
product_of (Damaged checked map) = record { files = []; text = damage_text checked (λ field. rows_of field map) }
product_of (Files outputs text) = record { files = files_of outputs; text = text }
