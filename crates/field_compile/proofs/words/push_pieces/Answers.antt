use Rattle.std.proofs.Common.{◌≡◌, ◌+◌, ◌-◌, ◌++◌, List, map, take, drop, ap, sym, subst, ◌∙◌, arith}
use Rattle.std.proofs.lemmas.List.{drop-drop, map-append, take-append-drop}
use Rattle.risc_word.specs.declared.Instr.{Instr}
use Rattle.picture_model.specs.declared.Piece.{Piece}
use Rattle.picture_model.specs.Programs.{instr_of}
use Rattle.field_compile.proofs.Appending.{IsLeft, fewer_left}
use Rattle.field_compile.proofs.words.push_pieces.Goals as goal

pub loop-at-preserved : goal.loop-at-preserved
loop-at-preserved c =
    let pieces = c.args.pieces.now in
    let each = instr_of c.args.planar in
    let at = c.loop-at.at in
    let end = c.min-end.result in
    let out = c.loop-at.out.items in
    let within : at + (end - at) ≡ end = omega arith in
    let next = take (end - at) (drop at pieces) in
    let parts : drop at pieces ≡ next ++ drop end pieces =
    sym (take-append-drop (end - at) (drop at pieces))
    ∙ ap (λ (later : List Piece). next ++ later) (drop-drop (end - at) at pieces ∙ ap (λ n. drop n pieces) within)
    in
    let both : map each (drop at pieces) ≡ map each next ++ map each (drop end pieces) =
    ap (map each) parts ∙ map-append each next (drop end pieces) in
    let added = c.in_ok-extend_from_slice.ensures.items in
    record {
      within = omega arith;
      left =
          fewer_left c.args.out.now.items out c.extend_from_slice.new.self.items (map each next) (map each (drop end pieces))
          (map each pieces)
          (subst (λ (left : List Instr). IsLeft c.args.out.now.items out left (map each pieces)) both c.loop-at.invariant.left)
          (record { added = _; split = added })
          (added ∙ ap (λ words. out ++ words) c.spell_pieces-count.ensures.words);
    }
