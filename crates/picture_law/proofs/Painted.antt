-- Memory with a picture: what the section of its field stores paints it.
use Rattle.std.proofs.Common.{◌≡◌, ℕ, true, false, List, [], ◌∷◌, ◌++◌, All, slice_index_or, refl, sym, ap, ◌∙◌, subst, ⊎_elim}
use Rattle.std.specs.Prelude.{◌==◌}
use Rattle.std.proofs.lemmas.Bool.{cases_Bool, eqb-true, or_cases}
use Rattle.std.proofs.lemmas.List.Elements.{All-append, All-head, All-tail}
use Rattle.fifo_model.specs.declared.Queue.{Queue}
use Rattle.fifo_model.specs.declared.Queue.TheVariants.{One, Two, Three}
use Rattle.pixel_layout.specs.declared.Parity.{Parity}
use Rattle.page_table.specs.Grants.{Chunk, granted}
use Rattle.page_table.specs.Blocks.{Block, byte_at, chunks_of, stored}
use Rattle.page_table.proofs.Memory.{chunks_of-stored, byte_at-stored_same}
use Rattle.machine_model.specs.Paths.{RiscProgram}
use Rattle.machine_model.specs.Turns.{Store, stored_all}
use Rattle.machine_model.proofs.Memory.{chunks-stored_all}
use Rattle.capture_desc.specs.declared.desc.Desc.{Desc}
use Rattle.picture_model.specs.Described.{describes}
use Rattle.picture_model.proofs.FaultlessGeometry.{IsRight}
use Rattle.field_law.specs.Sections.{Holds, Paints, is_stored, section_stores}
use Rattle.field_law.proofs.CutLines.{stored_first, stored_second}
use Rattle.field_law.proofs.GrantedStores.{stores_granted}
use Rattle.field_law.proofs.Painting.{byte_at-unstored}
use Rattle.picture_law.specs.Pictures.{Picture, After, FieldByte, HasPlaces, IsKeptAt, IsPicture, field_tokens, shown_as, AreSkipped}
use Rattle.picture_law.specs.Pictures.{SkippedLines}
use Rattle.picture_law.specs.Sections.{section_at}
use Rattle.picture_law.proofs.Body.{field_stores, section_makes}
use Rattle.picture_law.proofs.KeptBytes.{IsOfPicture, all_of, kept_once, kept_stored, queue_of}

-- ---- stores one after another

-- a store of a list to an address, whose byte is there in the end
pub record IsLastAt (P : Store → Type 0) (memory : List Block) (address : ℕ) : Type 0 where
  pub store : Store
  pub holds : P store
  pub there : store.address ≡ address
  pub byte : byte_at memory address ≡ store.byte

pub last_at : (P : Store → Type 0) (chunks : List Chunk) (memory : List Block) (stores : List Store) (address : ℕ) →
    chunks_of memory ≡ chunks →
    All (λ store. granted chunks store.address ≡ true) stores → All P stores → is_stored address stores ≡ true →
    IsLastAt P (stored_all memory stores) address
last_at P chunks memory [] address same within all some = cc
last_at P chunks memory (store ∷ stores) address same within all some =
    let after : List Block = stored memory store.address store.byte in
    ⊎_elim
    (λ later.
    last_at P chunks after stores address (chunks_of-stored memory store.address store.byte ∙ same)
    (All-tail (λ store. granted chunks store.address ≡ true) store stores within) (All-tail P store stores all) later)
    (λ last.
    let here = ⊎_elim (λ here. here) (λ later. cc) (or_cases (store.address == address) (is_stored address stores) some) in
    let at = eqb-true store.address address here in
    let allowed : granted (chunks_of memory) store.address ≡ true =
    ap (λ (chunks : List Chunk). granted chunks store.address) same
    ∙ All-head (λ store. granted chunks store.address ≡ true) store stores within in
    record {
      store = store;
      holds = All-head P store stores all;
      there = at;
      byte =
          byte_at-unstored after stores address last ∙ ap (byte_at after) (sym at)
          ∙ byte_at-stored_same memory store.address store.byte allowed;
    })
    (cases_Bool (is_stored address stores))

-- ---- the picture

module _ (d : Desc) (right : IsRight d) (field : Parity) (described : describes d.fields field ≡ true) (picture : Picture)
    (is : IsPicture d field picture)
    (skipped : SkippedLines) (skips : AreSkipped d field skipped) (memory : List Block)
    (places : HasPlaces d field (chunks_of memory)) where
  abbrev stores : Queue → List Store
  stores q = field_stores d right field described picture is skipped skips q

  abbrev every : List Store
  every = stores One ++ (stores Two ++ stores Three)

  abbrev IsStore : Store → Type 0
  IsStore = IsOfPicture d field picture

  of_picture : (q : Queue) → All IsStore (stores q)
  of_picture q = all_of d right field described picture is skipped skips q

  is_granted : (store : Store) → IsStore store → granted (chunks_of memory) store.address ≡ true
  is_granted store of = places of.byte store.address of.kept

  every_of : All IsStore every
  every_of =
      All-append IsStore (stores One) (stores Two ++ stores Three) (of_picture One)
      (All-append IsStore (stores Two) (stores Three) (of_picture Two) (of_picture Three))

  among : (q : Queue) (address : ℕ) → is_stored address (stores q) ≡ true → is_stored address every ≡ true
  among One address h = stored_first address (stores One) (stores Two ++ stores Three) h
  among Two address h = stored_second address (stores One) (stores Two ++ stores Three) (stored_first address (stores Two) (stores Three) h)
  among Three address h =
      stored_second address (stores One) (stores Two ++ stores Three) (stored_second address (stores Two) (stores Three) h)

  last : (address : ℕ) → is_stored address every ≡ true → IsLastAt IsStore (stored_all memory every) address
  last address some =
      last_at IsStore (chunks_of memory) memory every address refl
      (λ k other within. is_granted (slice_index_or every k other) (every_of k other within)) every_of some

  -- memory after all these stores
  abbrev pub painted : List Block
  painted = stored_all memory every

  painted_kept : (byte : FieldByte) (address : ℕ) → IsKeptAt d field byte address → byte_at painted address ≡ shown_as picture byte
  painted_kept byte address kept =
      let some =
      among (queue_of d right field described picture is skipped skips byte) address
      (kept_stored d right field described picture is skipped skips byte address kept) in
      let found = last address some in
      let of = found.holds in
      let there = subst (λ (a : ℕ). IsKeptAt d field of.byte a) found.there of.kept in
      found.byte ∙ sym of.shown ∙ ap (shown_as picture) (kept_once d right field described of.byte byte address there kept)

  painted_other : (address : ℕ) → ((byte : FieldByte) → IsKeptAt d field byte address → ⊥) →
      byte_at painted address ≡ byte_at memory address
  painted_other address none =
      ⊎_elim
      (λ some.
      let found = last address some in
      let of = found.holds in
      absurd (none of.byte (subst (λ (a : ℕ). IsKeptAt d field of.byte a) found.there of.kept)))
      (λ unstored. byte_at-unstored memory every address unstored)
      (cases_Bool (is_stored address every))

  pub painted_after : After d field picture memory painted
  painted_after = record { keys = chunks-stored_all memory every; shown = painted_kept; others = painted_other }

  -- ---- whatever memory shows the picture, the section paints it

  makes : (begin target : ℕ) (q : Queue) → stores q ≡ section_stores (section_at d field begin target) (field_tokens d picture skipped) q
  makes begin target q = sym (section_makes d right field described picture is skipped skips begin target q)

  in_no_queue : (address : ℕ) → ((q : Queue) → is_stored address (stores q) ≡ false) → (byte : FieldByte) →
      IsKeptAt d field byte address → ⊥
  in_no_queue address none byte kept =
      let some = kept_stored d right field described picture is skipped skips byte address kept in
      let no = none (queue_of d right field described picture is skipped skips byte) in
      cc

  pub after_paints : (begin target : ℕ) (now : List Block) → After d field picture memory now →
      Paints (section_at d field begin target) (field_tokens d picture skipped) memory (byte_at now)
  after_paints begin target now after =
      record {
        within =
            λ q. subst (λ (made : List Store). All (λ store. granted (chunks_of memory) store.address ≡ true) made) (makes begin target q)
            (λ k other within. is_granted (slice_index_or (stores q) k other) (of_picture q k other within));
        agree = λ q. subst (λ (made : List Store). All (λ store. byte_at now store.address ≡ store.byte) made) (makes begin target q)
            (λ k other within. agrees (slice_index_or (stores q) k other) (of_picture q k other within));
        others =
            λ address none. sym (after.others address (in_no_queue address (λ q. ap (is_stored address) (makes begin target q) ∙ none q)));
      }
    where
      agrees : (store : Store) → IsStore store → byte_at now store.address ≡ store.byte
      agrees store of = after.shown of.byte store.address of.kept ∙ of.shown

-- ---- a program that holds the section grants the picture's places

pub stored_holds : (P : ℕ → Type 0) (stores : List Store) (address : ℕ) → All (λ store. P store.address) stores →
    is_stored address stores ≡ true → P address
stored_holds P [] address all some = cc
stored_holds P (store ∷ stores) address all some =
    ⊎_elim
    (λ here. subst P (eqb-true store.address address here) (All-head (λ store. P store.address) store stores all))
    (λ later. stored_holds P stores address (All-tail (λ store. P store.address) store stores all) later)
    (or_cases (store.address == address) (is_stored address stores) some)

pub holds_places : (d : Desc) (right : IsRight d) (field : Parity) (described : describes d.fields field ≡ true) (picture : Picture)
    (is : IsPicture d field picture)
    (skipped : SkippedLines) (skips : AreSkipped d field skipped) (begin target : ℕ) (program : RiscProgram) →
    Holds (section_at d field begin target) program → HasPlaces d field program.grants
holds_places d right field described picture is skipped skips begin target program held byte address kept =
    let q = queue_of d right field described picture is skipped skips byte in
    stored_holds (λ address. granted program.grants address ≡ true)
    (section_stores (section_at d field begin target) (field_tokens d picture skipped) q) address
    (stores_granted (section_at d field begin target) (field_tokens d picture skipped) program held q)
    (ap (is_stored address) (section_makes d right field described picture is skipped skips begin target q)
    ∙ kept_stored d right field described picture is skipped skips byte address kept)

-- memory with the same bytes shows the same picture
pub after_same : (d : Desc) (field : Parity) (picture : Picture) (before now other : List Block) → After d field picture before now →
    chunks_of other ≡ chunks_of before →
    ((address : ℕ) → byte_at other address ≡ byte_at now address) → After d field picture before other
after_same d field picture before now other after keys same =
    record {
      keys = keys;
      shown = λ byte address kept. same address ∙ after.shown byte address kept;
      others = λ address none. same address ∙ after.others address none;
    }
