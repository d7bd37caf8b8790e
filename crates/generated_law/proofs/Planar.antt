-- The statuses of a line of luma and of the lines of chroma that come with it.
use Rattle.std.proofs.Common.{◌≡◌, ℕ, zero, suc, ◌+◌, ◌*◌, ◌/◌, ◌%◌, ◌<◌, Bool, false, ◌&&◌, List, [], ◌∷◌, ◌++◌, map, refl, sym, ap, ◌∙◌}
use Rattle.std.specs.Prelude.{◌==◌, nat_lt}
use Rattle.std.specs.List.{flat_map, range_with_len}
use Rattle.std.proofs.lemmas.Bool.{cond_both}
use Rattle.fifo_model.specs.declared.Queue.{Queue}
use Rattle.fifo_model.specs.declared.Queue.TheVariants.{One, Two, Three}
use Rattle.field_law.specs.Arrivals.{is_queue}
use Rattle.field_stream.proofs.Chroma.{chroma_at, line_chroma}
use Rattle.field_stream.specs.Pushes.{chroma_after, line_entries, planar_at, planar_line, status_at}
use Rattle.generated_law.proofs.Statuses.{line_statuses, status_if, statuses, statuses-append}

-- ---- luma

no_luma : (chroma across index : ℕ) → statuses One (chroma_after chroma across index) ≡ []
no_luma chroma across index =
    cond_both (index % across == 0 && nat_lt (index / across) (line_entries chroma)) _ [] (λ pushes. statuses One pushes ≡ []) (λ due. refl)
    (λ none. refl)

luma_from : (luma chroma across from count : ℕ) →
    statuses One (flat_map (planar_at luma chroma across) (range_with_len from count)) ≡ map (status_at luma) (range_with_len from count)
luma_from luma chroma across from zero = refl
luma_from luma chroma across from (suc count) =
    let more = flat_map (planar_at luma chroma across) (range_with_len (from + 1) count) in
    ap (λ (list : List ℕ). status_at luma from ∷ list)
    (statuses-append One (chroma_after chroma across from) more
    ∙ ap (λ (list : List ℕ). list ++ statuses One more) (no_luma chroma across from)
    ∙ luma_from luma chroma across (from + 1) count)

pub luma_statuses : (luma chroma across : ℕ) → statuses One (planar_line luma chroma across) ≡ line_statuses luma
luma_statuses luma chroma across = luma_from luma chroma across 0 (line_entries luma)

-- ---- chroma

-- over another queue come the entries of chroma alone
chroma_alone : (q : Queue) (luma chroma across from count : ℕ) → is_queue One q ≡ false →
    statuses q (flat_map (planar_at luma chroma across) (range_with_len from count))
    ≡ statuses q (flat_map (chroma_after chroma across) (range_with_len from count))
chroma_alone q luma chroma across from zero other = refl
chroma_alone q luma chroma across from (suc count) other =
    let here = chroma_after chroma across from in
    let rest = range_with_len (from + 1) count in
    let more = flat_map (planar_at luma chroma across) rest in
    ap (λ (one : Bool). status_if one (status_at luma from) ++ statuses q (here ++ more)) other
    ∙ statuses-append q here more
    ∙ ap (λ (list : List ℕ). statuses q here ++ list) (chroma_alone q luma chroma across (from + 1) count other)
    ∙ sym (statuses-append q here (flat_map (chroma_after chroma across) rest))

chroma_each : (q : Queue) (chroma from count : ℕ) → is_queue One q ≡ false →
    statuses q (flat_map (chroma_at chroma) (range_with_len from count)) ≡ map (status_at chroma) (range_with_len from count)
chroma_each One chroma from count other = cc
chroma_each Two chroma from zero other = refl
chroma_each Two chroma from (suc count) other =
    ap (λ (list : List ℕ). status_at chroma from ∷ list) (chroma_each Two chroma (from + 1) count other)
chroma_each Three chroma from zero other = refl
chroma_each Three chroma from (suc count) other =
    ap (λ (list : List ℕ). status_at chroma from ∷ list) (chroma_each Three chroma (from + 1) count other)

pub chroma_statuses : (q : Queue) (luma chroma across : ℕ) → is_queue One q ≡ false → 0 < across → luma ≡ chroma * across →
    statuses q (planar_line luma chroma across) ≡ line_statuses chroma
chroma_statuses q luma chroma across other some long =
    chroma_alone q luma chroma across 0 (line_entries luma) other
    ∙ ap (statuses q) (line_chroma chroma across some luma long)
    ∙ chroma_each q chroma 0 (line_entries chroma) other
