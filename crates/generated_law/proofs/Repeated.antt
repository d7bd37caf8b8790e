-- Lines one after another, as pushes bring them to a queue.
use Rattle.std.proofs.Common.{◌≡◌, ℕ, zero, suc, ◌≤◌, List, [], ◌∷◌, ◌++◌, length, refl, sym, ap, ◌∙◌, subst, ⊎_elim}
use Rattle.std.proofs.lemmas.Bool.{cases_Bool, cond-true, cond-false}
use Rattle.std.proofs.lemmas.List.{append_assoc}
use Rattle.std.proofs.lemmas.List.Elements.{All-nil, All-cons}
use Rattle.fifo_model.specs.declared.Entry.{Entry}
use Rattle.fifo_model.specs.declared.Queue.{Queue}
use Rattle.capture_desc.specs.declared.desc.Desc.{Desc}
use Rattle.picture_model.specs.Described.{plane_row_bytes}
use Rattle.picture_model.proofs.FaultlessGeometry.{IsRight}
use Rattle.field_law.specs.Fields.{Row, Brings, carried}
use Rattle.picture_law.specs.Pictures.{AreLines, HoldBytes, has_plane, lines_of, lines_on, plane_of}
use Rattle.field_law.specs.Arrivals.{pushed_in}
use Rattle.field_stream.specs.Pushes.{Push, picture_line, repeated}
use Rattle.generated_law.specs.Drawn.{drawn_steps, number_behind}
use Rattle.generated_law.proofs.Statuses.{pushed_in-drawn, line_statuses, statuses, statuses-pushed_in, statuses_of}
use Rattle.generated_law.proofs.WholeLines.{AreBytes, carried_hold, whole_line}
use Rattle.generated_law.proofs.Rows.{row_nothing, row_statuses, row_wide}

-- so many whole lines of so many bytes
pub record AreDrawn (count long : ℕ) (entries : List Entry) : Type 0 where
  pub lines : List (List ℕ)
  pub are : AreLines count long lines
  pub hold : HoldBytes lines
  pub brings : Brings (lines_of lines) entries

pub drawn_none : (long : ℕ) (entries : List Entry) → entries ≡ [] → AreDrawn 0 long entries
drawn_none long entries none =
    record {
      lines = [];
      are = record { many = refl; long = All-nil (λ line. length line ≡ long) };
      hold = All-nil AreBytes;
      brings = none;
    }

drawn_more : (count long : ℕ) (line rest : List Entry) → 5 ≤ long → statuses_of line ≡ line_statuses long → AreDrawn count long rest →
    AreDrawn (suc count) long (line ++ rest)
drawn_more count long line rest some same more =
    let whole = whole_line long line some same in
    let many = more.are.many in
    record {
      lines = carried line ∷ more.lines;
      are = record { many = ap suc many; long = All-cons (λ line. length line ≡ long) (carried line) more.lines whole.long more.are.long };
      hold = All-cons AreBytes (carried line) more.lines (carried_hold line) more.hold;
      brings = (line, rest, refl, whole.line, more.brings);
    }

pub lines_drawn : (count long number : ℕ) (pushes : List Push) (q : Queue) → 5 ≤ long → statuses q pushes ≡ line_statuses long →
    AreDrawn count long (pushed_in (drawn_steps number (repeated count pushes)) q)
lines_drawn zero long number pushes q some same = drawn_none long [] refl
lines_drawn (suc count) long number pushes q some same =
    subst (AreDrawn (suc count) long) (sym (pushed_in-drawn number pushes (repeated count pushes) q))
    (drawn_more count long (pushed_in (drawn_steps number pushes) q)
    (pushed_in (drawn_steps (number_behind number pushes) (repeated count pushes)) q) some
    (statuses-pushed_in number pushes q ∙ same) (lines_drawn count long (number_behind number pushes) pushes q some same))

no_entries : (entries : List Entry) → statuses_of entries ≡ [] → entries ≡ []
no_entries [] none = refl
no_entries (entry ∷ rest) none = cc

pub nothing_drawn : (count number : ℕ) (pushes : List Push) (q : Queue) → statuses q pushes ≡ [] →
    pushed_in (drawn_steps number (repeated count pushes)) q ≡ []
nothing_drawn zero number pushes q none = refl
nothing_drawn (suc count) number pushes q none =
    pushed_in-drawn number pushes (repeated count pushes) q
    ∙ ap (λ (entries : List Entry). entries ++ pushed_in (drawn_steps (number_behind number pushes) (repeated count pushes)) q)
    (no_entries (pushed_in (drawn_steps number pushes) q) (statuses-pushed_in number pushes q ∙ none))
    ∙ nothing_drawn count (number_behind number pushes) pushes q none

-- lines of a picture over each queue
pub rows_drawn : (d : Desc) (count number : ℕ) (q : Queue) → IsRight d →
    AreDrawn (lines_on d q count) (plane_row_bytes d (plane_of q)) (pushed_in (drawn_steps number (repeated count (picture_line d))) q)
rows_drawn d count number q right =
    let long = plane_row_bytes d (plane_of q) in
    let entries = pushed_in (drawn_steps number (repeated count (picture_line d))) q in
    ⊎_elim
    (λ has. subst (λ (n : ℕ). AreDrawn n long entries) (sym (cond-true (has_plane d q) count 0 has))
    (lines_drawn count long number (picture_line d) q (row_wide d q right has) (row_statuses d q has)))
    (λ none. subst (λ (n : ℕ). AreDrawn n long entries) (sym (cond-false (has_plane d q) count 0 none))
    (drawn_none long entries (nothing_drawn count number (picture_line d) q (row_nothing d q none))))
    (cases_Bool (has_plane d q))
