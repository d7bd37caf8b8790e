-- What is pushed for a field brings the picture that is drawn.
use Rattle.std.proofs.Common.{◌≡◌, ℕ, zero, suc, ◌+◌, ◌*◌, ◌<◌, ◌≤◌, false, List, [], ◌∷◌, ◌++◌, length, drop, replicate, refl, sym, ap}
use Rattle.std.proofs.Common.{◌∙◌, subst, arith}
use Rattle.std.specs.List.{concat}
use Rattle.std.proofs.lemmas.List.{append-nil, length-replicate}
use Rattle.std.proofs.lemmas.List.Elements.{All-nil, All-replicate}
use Rattle.risc_word.specs.declared.Code.TheVariants.{Fm1}
use Rattle.fifo_model.specs.declared.Queue.{Queue}
use Rattle.fifo_model.specs.declared.Queue.TheVariants.{One, Two, Three}
use Rattle.pixel_layout.specs.declared.Parity.{Parity}
use Rattle.capture_desc.specs.declared.desc.Desc.{Desc}
use Rattle.picture_model.specs.Described.{field_height, layout_of, plane_row_bytes, vbi_skip}
use Rattle.picture_model.specs.Programs.{data_code, vertical}
use Rattle.picture_model.proofs.FaultlessGeometry.{IsRight, IsFrame-IsRight}
use Rattle.field_law.specs.Arrivals.{is_queue, pushed_in}
use Rattle.field_law.specs.Fields.{Token, Mark, Brings}
use Rattle.field_law.proofs.Bringing.{mark_brings, brings-append}
use Rattle.picture_law.specs.Pictures.{AreLines, AreRows, HoldBytes, IsField, IsPicture, Picture, SkippedLines, field_tokens, lines_of}
use Rattle.picture_law.specs.Pictures.{lines_on, picture_tokens, plane_of, rows_on, skipped_vbi_on, vbi_on, vbi_tokens}
use Rattle.field_stream.specs.Pushes.{Push, packed_line, picture_line, picture_pushes, repeated, vbi_pushes}
use Rattle.field_stream.proofs.Moving.{repeated_split}
use Rattle.generated_law.specs.Drawn.{BringsPicture, DrawsPicture, bytes_before, cut, drawn_bytes, drawn_entries, drawn_picture}
use Rattle.generated_law.specs.Drawn.{drawn_steps, number_behind, vbi_bytes_on}
use Rattle.generated_law.specs.Drawn as drawn
use Rattle.generated_law.proofs.Statuses.{pushed_in-drawn, packed_nothing, packed_statuses}
use Rattle.generated_law.proofs.WholeLines.{AreBytes}
use Rattle.generated_law.proofs.Repeated.{AreDrawn, lines_drawn, nothing_drawn, rows_drawn}
use Rattle.generated_law.proofs.Cutting.{bytes_in, bytes_in-append, bytes_in-lines, carried-brings, cut-concat, cut-vbi, drop_both}
use Rattle.generated_law.proofs.Cutting.{length-concat, length-no_vbi, length-vbi}

-- ---- VBI lines

record AreVbi (lines skip bytes number : ℕ) : Type 0 where
  skipped : List (List ℕ)
  rows : List (List ℕ)
  passed : AreLines skip bytes skipped
  are : AreLines lines bytes rows
  hold : HoldBytes rows
  brings : Brings (vbi_tokens lines skipped rows) (pushed_in (drawn_steps number (vbi_pushes lines skip bytes)) One)

-- lines of which nothing is known
any_lines : (count bytes : ℕ) → AreLines count bytes (replicate count (replicate bytes 0))
any_lines count bytes =
    record {
      many = length-replicate count (replicate bytes 0);
      long = All-replicate (λ line. length line ≡ bytes) count (replicate bytes 0) (length-replicate bytes 0);
    }

vbi_drawn : (lines skip bytes number : ℕ) → (0 < lines → 5 ≤ bytes) → AreVbi lines skip bytes number
vbi_drawn zero skip bytes number some =
    record {
      skipped = replicate skip (replicate bytes 0);
      rows = [];
      passed = any_lines skip bytes;
      are = record { many = refl; long = All-nil (λ line. length line ≡ bytes) };
      hold = All-nil AreBytes;
      brings = refl;
    }
vbi_drawn (suc more) skip bytes number some =
    let line = packed_line bytes in
    let behind = number_behind number (repeated skip line) in
    let first = lines_drawn skip bytes number line One (some (omega arith)) (packed_statuses bytes) in
    let later = lines_drawn (suc more) bytes behind line One (some (omega arith)) (packed_statuses bytes) in
    let tokens = lines_of first.lines ++ lines_of later.lines in
    let both =
    ap (λ (pushes : List Push). pushed_in (drawn_steps number pushes) One) (repeated_split skip (suc more) line)
    ∙ pushed_in-drawn number (repeated skip line) (repeated (suc more) line) One
    in
    record {
      skipped = first.lines;
      rows = later.lines;
      passed = first.are;
      are = later.are;
      hold = later.hold;
      brings = mark_brings Fm1 tokens (pushed_in (drawn_steps number (repeated (skip + suc more) line)) One)
          (subst (Brings tokens) (sym both)
          (brings-append (lines_of first.lines) (lines_of later.lines) (pushed_in (drawn_steps number (repeated skip line)) One)
          (pushed_in (drawn_steps behind (repeated (suc more) line)) One) first.brings later.brings));
    }

no_vbi : (lines skip bytes number : ℕ) (q : Queue) → is_queue One q ≡ false →
    Brings (vbi_tokens lines [] []) (pushed_in (drawn_steps number (vbi_pushes lines skip bytes)) q)
no_vbi zero skip bytes number q other = refl
no_vbi (suc more) skip bytes number q other =
    mark_brings Fm1 [] (pushed_in (drawn_steps number (repeated (skip + suc more) (packed_line bytes))) q)
    (nothing_drawn (skip + suc more) number (packed_line bytes) q (packed_nothing q bytes other))

-- ---- a field

same_picture : (a b c e a' b' c' e' : List (List ℕ)) → a ≡ a' → b ≡ b' → c ≡ c' → e ≡ e' →
    ◌≡◌ {A = Picture} (record { vbi = a; one = b; two = c; three = e }) (record { vbi = a'; one = b'; two = c'; three = e' })
same_picture a b c e a' b' c' e' first second third fourth = cc

module _ (d : Desc) (field : Parity) (number : ℕ) (right : IsRight d) where
  abbrev behind_vbi : ℕ
  behind_vbi = number_behind number (vbi_pushes d.vbi_lines (vbi_skip d field) d.vbi_bytes)

  abbrev behind_skipped : ℕ
  behind_skipped = number_behind behind_vbi (repeated d.skip_lines (picture_line d))

  vbi : AreVbi d.vbi_lines (vbi_skip d field) d.vbi_bytes number
  vbi = vbi_drawn d.vbi_lines (vbi_skip d field) d.vbi_bytes number (λ some. (right.vbi_bytes some).0)

  skipped : (q : Queue) → AreDrawn (lines_on d q d.skip_lines) (plane_row_bytes d (plane_of q))
      (pushed_in (drawn_steps behind_vbi (repeated d.skip_lines (picture_line d))) q)
  skipped q = rows_drawn d d.skip_lines behind_vbi q right

  rows : (q : Queue) → AreDrawn (lines_on d q (field_height d field)) (plane_row_bytes d (plane_of q))
      (pushed_in (drawn_steps behind_skipped (repeated (field_height d field) (picture_line d))) q)
  rows q = rows_drawn d (field_height d field) behind_skipped q right

  abbrev picture : Picture
  picture = record { vbi = vbi.rows; one = (rows One).lines; two = (rows Two).lines; three = (rows Three).lines }

  abbrev skipped_lines : SkippedLines
  skipped_lines = record { vbi = vbi.skipped; rows = λ q. (skipped q).lines }

  -- what the VBI part brings over a queue
  abbrev vbi_part : Queue → List Token
  vbi_part q = vbi_tokens d.vbi_lines (skipped_vbi_on skipped_lines q) (vbi_on picture q)

  -- ---- its entries bring the lines

  vbi_brings : (q : Queue) → Brings (vbi_part q) (pushed_in (drawn_steps number (vbi_pushes d.vbi_lines (vbi_skip d field) d.vbi_bytes)) q)
  vbi_brings One = vbi.brings
  vbi_brings Two = no_vbi d.vbi_lines (vbi_skip d field) d.vbi_bytes number Two refl
  vbi_brings Three = no_vbi d.vbi_lines (vbi_skip d field) d.vbi_bytes number Three refl

  rows_brings : (q : Queue) →
      Brings (lines_of (rows_on picture q)) (pushed_in (drawn_steps behind_skipped (repeated (field_height d field) (picture_line d))) q)
  rows_brings One = (rows One).brings
  rows_brings Two = (rows Two).brings
  rows_brings Three = (rows Three).brings

  lines_bring : (q : Queue) → Brings (lines_of (skipped_lines.rows q) ++ lines_of (rows_on picture q))
      (pushed_in (drawn_steps behind_vbi (repeated (d.skip_lines + field_height d field) (picture_line d))) q)
  lines_bring q =
      let line = picture_line d in
      let both =
      ap (λ (pushes : List Push). pushed_in (drawn_steps behind_vbi pushes) q) (repeated_split d.skip_lines (field_height d field) line)
      ∙ pushed_in-drawn behind_vbi (repeated d.skip_lines line) (repeated (field_height d field) line) q in
      subst (Brings (lines_of (skipped_lines.rows q) ++ lines_of (rows_on picture q))) (sym both)
      (brings-append (lines_of (skipped_lines.rows q)) (lines_of (rows_on picture q))
      (pushed_in (drawn_steps behind_vbi (repeated d.skip_lines line)) q)
      (pushed_in (drawn_steps behind_skipped (repeated (field_height d field) line)) q) (skipped q).brings (rows_brings q))

  picture_brings : (q : Queue) → Brings (picture_tokens (layout_of d).planar (skipped_lines.rows q) (rows_on picture q))
      (pushed_in (drawn_steps behind_vbi (picture_pushes d field)) q)
  picture_brings q =
      mark_brings (data_code (layout_of d).planar) (lines_of (skipped_lines.rows q) ++ lines_of (rows_on picture q))
      (pushed_in (drawn_steps behind_vbi (repeated (d.skip_lines + field_height d field) (picture_line d))) q) (lines_bring q)

  field_brings : (q : Queue) → Brings (Mark (vertical field) ∷ field_tokens d picture skipped_lines q) (drawn_entries d field number q)
  field_brings q =
      let vbi_first = vbi_pushes d.vbi_lines (vbi_skip d field) d.vbi_bytes in
      let picture_part = picture_tokens (layout_of d).planar (skipped_lines.rows q) (rows_on picture q) in
      mark_brings (vertical field) (vbi_part q ++ picture_part) (pushed_in (drawn_steps number (vbi_first ++ picture_pushes d field)) q)
      (subst (Brings (vbi_part q ++ picture_part)) (sym (pushed_in-drawn number vbi_first (picture_pushes d field) q))
      (brings-append (vbi_part q) picture_part (pushed_in (drawn_steps number vbi_first) q)
      (pushed_in (drawn_steps behind_vbi (picture_pushes d field)) q) (vbi_brings q) (picture_brings q)))

  -- ---- the lines are those of the picture that is drawn

  vbi_long : (q : Queue) → length (bytes_in (vbi_part q)) ≡ vbi_bytes_on d field q
  vbi_long One = length-vbi d.vbi_lines (vbi_skip d field) d.vbi_bytes vbi.skipped vbi.rows vbi.passed vbi.are
  vbi_long Two = length-no_vbi d.vbi_lines
  vbi_long Three = length-no_vbi d.vbi_lines

  bytes_are : (q : Queue) →
      drawn_bytes d field number q ≡ bytes_in (vbi_part q) ++ (concat (skipped_lines.rows q) ++ concat (rows_on picture q))
  bytes_are q =
      let skips = lines_of (skipped_lines.rows q) in
      let rest = lines_of (rows_on picture q) in
      carried-brings (Mark (vertical field) ∷ field_tokens d picture skipped_lines q) (drawn_entries d field number q) (field_brings q)
      ∙ bytes_in-append (vbi_part q) (picture_tokens (layout_of d).planar (skipped_lines.rows q) (rows_on picture q))
      ∙ ap (λ (more : List ℕ). bytes_in (vbi_part q) ++ more) (bytes_in-append skips rest)
      ∙ ap (λ (first : List ℕ). bytes_in (vbi_part q) ++ (first ++ bytes_in rest)) (bytes_in-lines (skipped_lines.rows q))
      ∙ ap (λ (more : List ℕ). bytes_in (vbi_part q) ++ (concat (skipped_lines.rows q) ++ more)) (bytes_in-lines (rows_on picture q))

  vbi_same : cut d.vbi_lines d.vbi_bytes (drop (vbi_skip d field * d.vbi_bytes) (drawn_bytes d field number One)) ≡ vbi.rows
  vbi_same =
      ap (λ (bytes : List ℕ). cut d.vbi_lines d.vbi_bytes (drop (vbi_skip d field * d.vbi_bytes) bytes)) (bytes_are One)
      ∙ cut-vbi d.vbi_lines (vbi_skip d field) d.vbi_bytes vbi.skipped vbi.rows
      (concat (skipped_lines.rows One) ++ concat (rows_on picture One)) vbi.passed vbi.are

  rows_are : (q : Queue) → AreRows d q (field_height d field) (rows_on picture q)
  rows_are One = (rows One).are
  rows_are Two = (rows Two).are
  rows_are Three = (rows Three).are

  rows_same : (q : Queue) → drawn.rows_drawn d field number q ≡ rows_on picture q
  rows_same q =
      let many = lines_on d q (field_height d field) in
      let long = plane_row_bytes d (plane_of q) in
      let all = rows_on picture q in
      ap (λ (bytes : List ℕ). cut many long (drop (bytes_before d field q) bytes)) (bytes_are q)
      ∙ ap (cut many long) (drop_both (vbi_bytes_on d field q) (lines_on d q d.skip_lines * long) (bytes_in (vbi_part q))
      (concat (skipped_lines.rows q)) (concat all)
      (vbi_long q) (length-concat (lines_on d q d.skip_lines) long (skipped_lines.rows q) (skipped q).are))
      ∙ ap (cut many long) (sym (append-nil (concat all)))
      ∙ cut-concat many long all [] (rows_are q)

  drawn_same : drawn_picture d field number ≡ picture
  drawn_same = same_picture _ _ _ _ _ _ _ _ vbi_same (rows_same One) (rows_same Two) (rows_same Three)

  rows_hold : (q : Queue) → HoldBytes (rows_on picture q)
  rows_hold One = (rows One).hold
  rows_hold Two = (rows Two).hold
  rows_hold Three = (rows Three).hold

  pub right_pictured : IsPicture d field (drawn_picture d field number)
  right_pictured =
      subst (IsPicture d field) (sym drawn_same) (record { vbi = vbi.are; rows = rows_are; vbi_bytes = vbi.hold; row_bytes = rows_hold })

  pub right_brought : IsField d field (drawn_picture d field number) (drawn_entries d field number)
  right_brought =
      subst (λ (picture : Picture). IsField d field picture (drawn_entries d field number)) (sym drawn_same)
      (record { skipped = skipped_lines; lines = record { vbi = vbi.passed; rows = λ q. (skipped q).are }; brings = field_brings })

pub draws_picture : DrawsPicture
draws_picture d field number is frame = right_pictured d field number (IsFrame-IsRight d is frame)

pub brings_picture : BringsPicture
brings_picture d field number is frame = right_brought d field number (IsFrame-IsRight d is frame)
