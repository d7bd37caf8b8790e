-- Line by line a text gives what it gives as a whole.
use Rattle.std.proofs.Common.{◌≡◌, ℕ, zero, suc, ◌≤◌, ◌<◌, true, false, List, [], ◌∷◌, length, Option, Some, None, refl, sym, ap, subst}
use Rattle.std.proofs.Common.{◌∙◌, arith}
use Rattle.std.specs.Prelude.{◌==◌}
use Rattle.std.proofs.lemmas.Bool.{eqb-true}
use Rattle.risc_text.specs.declared.Line.{Line}
use Rattle.risc_text.specs.Readers.{line_at, ◌>>=◌}
use Rattle.risc_text.specs.Drafts.{Draft, drafted, gathered, taken}
use Rattle.risc_text.proofs.Spelling.{some_is}
use Rattle.risc_asm.specs.Drafts.{Continues, carried}

some_parts : (found : Option (Draft × List ℕ)) (d e : Draft) (x y : List ℕ) → found ≡ Some (d, x) → found ≡ Some (e, y) → (d ≡ e) × (x ≡ y)
some_parts found d e x y one other =
    let first : Draft × List ℕ = (d, x) in
    let second : Draft × List ℕ = (e, y) in
    let same : first ≡ second = some_is first second (sym one ∙ other) in
    (ap (λ (pair : Draft × List ℕ). pair.0) same, ap (λ (pair : Draft × List ℕ). pair.1) same)

none_is : (found : Option (Draft × List ℕ)) (new : Draft) (left : List ℕ) → found ≡ None → found ≡ Some (new, left) → ⊥
none_is found new left one other = let e = sym one ∙ other in cc

on_by : (most : ℕ) (d : Draft) (rest text left : List ℕ) (l : Line) → length rest ≤ most → gathered most d rest ≡ drafted text →
    line_at rest ≡ Some (l, left) → length left < length rest → Continues (taken d l) left text
unfolding gathered
on_by most d [] text left l enough same is shorter = absurd (omega arith)
on_by zero d (byte ∷ rest) text left l enough same is shorter = absurd (omega arith)
on_by (suc most) d (byte ∷ rest) text left l enough same is shorter = record {
  most = most;
  enough = omega arith;
  same = sym (ap (λ found. found >>= (λ (read : Line × List ℕ). gathered most (taken d read.0) read.1)) is) ∙ same;
}

pub on : (d : Draft) (rest text left : List ℕ) (l : Line) → Continues d rest text → line_at rest ≡ Some (l, left) →
    length left < length rest → Continues (taken d l) left text
on d rest text left l so_far is shorter = on_by so_far.most d rest text left l so_far.enough so_far.same is shorter

pub on_taken : (d new : Draft) (rest text left : List ℕ) → Continues d rest text → carried d (line_at rest) ≡ Some (new, left) →
    length left < length rest → Continues new left text
on_taken d new rest text left so_far is shorter = by (line_at rest) refl is
  where
    by : (found : Option (Line × List ℕ)) → line_at rest ≡ found → carried d found ≡ Some (new, left) → Continues new left text
    by (Some read) there same =
        let parts = some_parts (carried d (Some read)) (taken d read.0) new read.1 left refl same in
        let left_is = parts.1 in
        subst (λ (e : Draft). Continues e left text) parts.0
        (on d rest text left read.0 so_far (there ∙ (λ i. Some (read.0, left_is i))) shorter)
    by None there same = absurd (none_is (carried d None) new left refl same)

unread_by : (most : ℕ) (d : Draft) (rest text : List ℕ) → length rest ≤ most → gathered most d rest ≡ drafted text → line_at rest ≡ None →
    0 < length rest → drafted text ≡ None
unfolding gathered
unread_by most d [] text enough same is some = absurd (omega arith)
unread_by zero d (byte ∷ rest) text enough same is some = absurd (omega arith)
unread_by (suc most) d (byte ∷ rest) text enough same is some =
    sym same ∙ ap (λ found. found >>= (λ (read : Line × List ℕ). gathered most (taken d read.0) read.1)) is

pub unread : (d : Draft) (rest text : List ℕ) → Continues d rest text → line_at rest ≡ None → 0 < length rest → drafted text ≡ None
unread d rest text so_far is some = unread_by so_far.most d rest text so_far.enough so_far.same is some

end_by : (most : ℕ) (d : Draft) (rest text : List ℕ) → gathered most d rest ≡ drafted text → length rest ≡ 0 → drafted text ≡ Some d
unfolding gathered
end_by zero d [] text same none = sym same
end_by (suc most) d [] text same none = sym same
end_by zero d (byte ∷ rest) text same none = absurd (omega arith)
end_by (suc most) d (byte ∷ rest) text same none = absurd (omega arith)

pub end : (d : Draft) (rest text : List ℕ) → Continues d rest text → length rest ≡ 0 → drafted text ≡ Some d
end d rest text so_far none = end_by so_far.most d rest text so_far.same none

pub not_empty : (text : List ℕ) → (length text == 0) ≡ false → 0 < length text
not_empty [] is = absurd (cc)
not_empty (byte ∷ text) is = omega arith

pub is_empty : (text : List ℕ) → (length text == 0) ≡ true → length text ≡ 0
is_empty text is = eqb-true (length text) 0 is
