use Rattle.std.proofs.Common.{◌≡◌, ℕ, List, Bool, true, false, sym, ap, ◌∙◌, if◌then◌else◌}
use Rattle.std.specs.List.{list_all}
use Rattle.page_table.specs.Grants.{Chunk, is_page}
use Rattle.page_table.specs.Taken.{listed, pair_chunk}
use Rattle.capture_file.specs.Programs.{layout_for}
use Rattle.capture_file.specs.declared.program.Layout.TheVariants.{Paged, Chunked}
use Rattle.capture_file.proofs.Programs.{all_listed}
use Rattle.capture_file.proofs.writing.layout_of_grants.Goals as goal

layout_by : (pairs : List (ℕ × ℕ)) (grants : List Chunk) (all : Bool) → listed pairs ≡ grants →
    list_all (λ (pair : ℕ × ℕ). is_page (pair_chunk pair)) pairs ≡ all → (if all then Paged else Chunked) ≡ layout_for grants
layout_by pairs grants all same e =
    ap (λ (b : Bool). if b then Paged else Chunked) (sym e ∙ all_listed pairs ∙ ap (list_all is_page) same)

pub returns-then-are_pages : goal.returns-then-are_pages
returns-then-are_pages c =
    layout_by c.as_slice.result.now c.args.grants.now true c.as_slice.ensures.value (sym c.are_pages.ensures ∙ c.if-are_pages.true)

pub returns-else-are_pages : goal.returns-else-are_pages
returns-else-are_pages c =
    layout_by c.as_slice.result.now c.args.grants.now false c.as_slice.ensures.value (sym c.are_pages.ensures ∙ c.if-are_pages.false)
