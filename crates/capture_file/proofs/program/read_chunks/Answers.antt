use Rattle.std.proofs.Common.{◌≡◌, ◌++◌, ◌∷◌, [], ◌∙◌, Ok, Err, arith, subst}
use Rattle.std.proofs.lemmas.Result.{err_from_is_err_and}
use Rattle.std.proofs.lemmas.List.{map_push}
use Rattle.page_table.specs.Taken.{listed, pair_chunk}
use Rattle.capture_file.specs.Programs.{chunk_field, chunks_field, without_grants}
use Rattle.capture_file.proofs.Programs.{chunks_more, chunks_end, chunks_done}
use Rattle.capture_file.proofs.Chunks.{chunks_read, totals_small, listed_length}
use Rattle.capture_file.proofs.program.read_chunks.Goals as goal

pub returns-in_err-chunk-clause-value : goal.returns-in_err-chunk-clause-value
returns-in_err-chunk-clause-value c =
    let program = without_grants c.args.program.now.start c.args.program.now.spans in
    let p = err_from_is_err_and c.from_residual.result c.from_residual.ensures.1 in
    let fails : chunk_field c.args.layout c.args.size program c.loop.before.end c.loop.before.bytes c.loop.rest.bytes.now
    ≡ Err c.in_err-chunk.field-0.0 =
    subst (λ size. chunk_field c.args.layout size program c.loop.before.end c.loop.before.bytes c.loop.rest.bytes.now
    ≡ Err c.in_err-chunk.field-0.0)
    c.loop.invariant.size c.in_err-chunk.ensures.value in
    rw (p.1, p.2)
    (chunks_end c.args.layout c.args.size program
    (listed c.loop.chunks.items) c.args.count c.loop.counter c.loop.before.end c.loop.before.bytes c.loop.rest.bytes.now
    (chunks_field c.args.layout c.args.size program c.args.count 0 0 c.args.bytes.now) c.in_err-chunk.field-0.0 c.loop-test.true fails
    c.loop.invariant.chunks)

pub loop-preserved : goal.loop-preserved
loop-preserved c =
    let program = without_grants c.args.program.now.start c.args.program.now.spans in
    let chunk = c.in_ok-chunk.chunk in
    let e : listed c.push.new.self.items ≡ listed c.loop.chunks.items ++ pair_chunk chunk ∷ [] =
    rw c.in_ok-push.ensures.items (map_push _ c.loop.chunks.items chunk) in
    let read : chunk_field c.args.layout c.args.size program c.loop.before.end c.loop.before.bytes c.loop.rest.bytes.now
    ≡ Ok (pair_chunk chunk, c.in_ok-chunk.after.bytes.now) =
    subst (λ size. chunk_field c.args.layout size program c.loop.before.end c.loop.before.bytes c.loop.rest.bytes.now
    ≡ Ok (pair_chunk chunk, c.in_ok-chunk.after.bytes.now))
    c.loop.invariant.size c.in_ok-chunk.ensures.value in
    record {
      chunks = rw (e, c.from.ensures, c.from-in-loop.ensures, c.from-in-loop-2.ensures)
          (chunks_more c.args.layout c.args.size program
          (listed c.loop.chunks.items) c.args.count c.loop.counter c.loop.before.end c.loop.before.bytes c.loop.rest.bytes.now
          (chunks_field c.args.layout c.args.size program c.args.count 0 0 c.args.bytes.now)
          (pair_chunk chunk) c.in_ok-chunk.after.bytes.now c.loop-test.true read c.loop.invariant.chunks);
      size = c.in_ok-chunk.ensures.rest.0 ∙ c.loop.invariant.size;
      inside = omega (arith, c.in_ok-chunk.ensures.rest.1);
      small = omega (arith, c.in_ok-chunk.ensures.wide, c.from-in-loop-2.ensures);
    }

pub returns-clause-value : goal.returns-clause-value
returns-clause-value c =
    let program = without_grants c.args.program.now.start c.args.program.now.spans in
    chunks_done c.args.layout c.args.size program
    (listed c.loop.chunks.items) c.args.count c.loop.counter c.loop.before.end c.loop.before.bytes c.loop.rest.bytes.now
    (chunks_field c.args.layout c.args.size program c.args.count 0 0 c.args.bytes.now) c.loop-test.false c.loop.invariant.chunks

pub returns-clause-rising : goal.returns-clause-rising
returns-clause-rising c =
    (chunks_read c.args.layout c.args.size
    (without_grants c.args.program.now.start c.args.program.now.spans) c.args.count 0 0 c.args.bytes.now
    (listed c.loop.chunks.items, c.loop.rest.bytes.now) (λ i. omega (arith, c.type_inv.bytes i)) (returns-clause-value c)).rising

pub returns-clause-len : goal.returns-clause-len
returns-clause-len c =
    listed_length c.loop.chunks.items ∙ (chunks_read c.args.layout c.args.size
    (without_grants c.args.program.now.start c.args.program.now.spans) c.args.count 0 0 c.args.bytes.now
    (listed c.loop.chunks.items, c.loop.rest.bytes.now) (λ i. omega (arith, c.type_inv.bytes i)) (returns-clause-value c)).len

pub returns-clause-small : goal.returns-clause-small
returns-clause-small c =
    totals_small c.args.layout c.args.count (listed c.loop.chunks.items) c.requires.count
    (chunks_read c.args.layout c.args.size
    (without_grants c.args.program.now.start c.args.program.now.spans) c.args.count 0 0 c.args.bytes.now
    (listed c.loop.chunks.items, c.loop.rest.bytes.now) (λ i. omega (arith, c.type_inv.bytes i)) (returns-clause-value c)).totals
