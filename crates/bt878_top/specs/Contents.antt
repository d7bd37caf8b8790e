-- The bytes of what the outputs hold, and of a listing.
use Rattle.std.specs.Prelude.{ℕ, List, ◌++◌}
use Rattle.capture_file.specs.Images.{image_of}
use Rattle.capture_file.specs.Programs.{spelled}
use Rattle.machine_model.specs.Paths.{RiscProgram}
use Rattle.risc_listing.specs.Listings.{all_word_lines}
use Rattle.field_stream.specs.Made.{made}
use Rattle.bt878_top.specs.declared.contents.Contents.{Contents}
use Rattle.bt878_top.specs.declared.contents.Contents.TheVariants.{Program, Image, Stream}

abbrev pub bytes_of : Contents → List ℕ
bytes_of (Program program fill) = spelled program.now fill
bytes_of (Image ram) = image_of ram.now
bytes_of (Stream frame seed frames) = made frame.now seed frames.now

-- the listing of a program, by its last lines
abbrev pub listing_with : RiscProgram → List ℕ → List ℕ
listing_with program memory = all_word_lines program ++ memory
