use Rattle.std.proofs.Common.{◌≡◌, ◌+◌, ◌-◌, ◌*◌, ◌≤◌, length, ap, ◌∙◌, inl, inr, arith}
use borrow.Rule.Slice.PartMut.{put_mid}
use Rattle.std.proofs.lemmas.Bool.{cases_eq}
use Rattle.code.specs.Stripe.{width}
use Rattle.encode.specs.Encoding.{in_memory}
use Rattle.encode.specs.Scratch.{cell_of, in_columns}
use Rattle.encode.proofs.Windows.{window_length, row_written, row_kept, row_end, row_next, put_after}
use Rattle.encode.proofs.cells.write_nodes.Goals as goal

pub slice_bounds-write_node-end : goal.slice_bounds-write_node-end
slice_bounds-write_node-end g c =
    let v = c.loop-v.v in
    let w = width c.args.code.now in
    let same : c.columns-width.result ≡ c.args.code.now.m + c.args.code.now.a = c.columns-width.ensures in
    let at : c.loop-v.v * c.columns-width.result ≡ c.loop-v.v * (c.args.code.now.m + c.args.code.now.a) = ap (λ t. v * t) same in
    let end : c.loop-v.v * (c.args.code.now.m + c.args.code.now.a) + (c.args.code.now.m + c.args.code.now.a) ≤ c.args.code.now.n * (c.args.code.now.m + c.args.code.now.a) = row_end v w c.args.code.now.n (omega arith) in
    omega arith

pub loop-v-preserved : goal.loop-v-preserved
loop-v-preserved g c =
    let F = g.F.Field.ops in
    let v = c.loop-v.v in
    let code = c.args.code.now in
    let w = width c.args.code.now in
    let a = c.loop-v.v * c.columns-width.result in
    let K = c.loop-v.v * c.columns-width.result + c.columns-width.result - c.loop-v.v * c.columns-width.result in
    let xs = c.loop-v.cells in
    let ys = c.write_node.new.row in
    let same : c.columns-width.result ≡ c.args.code.now.m + c.args.code.now.a = c.columns-width.ensures in
    let at : c.loop-v.v * c.columns-width.result ≡ c.loop-v.v * (c.args.code.now.m + c.args.code.now.a) = ap (λ t. v * t) same in
    let end : c.loop-v.v * (c.args.code.now.m + c.args.code.now.a) + (c.args.code.now.m + c.args.code.now.a) ≤ c.args.code.now.n * (c.args.code.now.m + c.args.code.now.a) = row_end v w c.args.code.now.n (omega arith) in
    let next : (c.loop-v.v + 1) * (c.args.code.now.m + c.args.code.now.a) ≡ c.loop-v.v * (c.args.code.now.m + c.args.code.now.a) + (c.args.code.now.m + c.args.code.now.a) = row_next v w in
    let ny : length c.write_node.new.row ≡ c.loop-v.v * c.columns-width.result + c.columns-width.result - c.loop-v.v * c.columns-width.result = c.write_node.auto.row ∙ window_length a K xs (omega arith) in (
      λ u d hu hd.
          elim (cases_eq u c.loop-v.v) [
            | inl e ↦
                let here : in_memory c.args.code.now (put_mid (c.loop-v.v * c.columns-width.result) (c.loop-v.v * c.columns-width.result + c.columns-width.result - c.loop-v.v * c.columns-width.result) c.loop-v.cells c.write_node.new.row) c.loop-v.v d ≡ cell_of F c.args.code.now (in_columns c.args.columns.now) c.loop-v.v d =
                row_written v w a K xs ys at (omega arith) d (omega arith) ∙ c.write_node.ensures d hd in
                rw e here
            | inr ne ↦ row_kept v w a K xs ys at (omega arith) u d (omega arith) hd ∙ c.loop-v.invariant.0 u d (omega arith) hd
          ],
      λ p h. put_after a K xs ys p (omega arith) ny (omega arith) ∙ c.loop-v.invariant.1 p (omega arith),
    )
