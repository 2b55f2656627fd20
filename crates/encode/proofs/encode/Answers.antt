use Rattle.std.proofs.Common.{length, arith}
use Rattle.encode.specs.Encoding.{in_memory}
use Rattle.encode.specs.Scratch.{in_columns}
use Rattle.encode.proofs.Stripes.{accepted_file, accepted_room, stripe_of}
use Rattle.encode.proofs.encode.Goals as goal

pub complete-requires : goal.complete-requires
complete-requires g c = accepted_file g.F.Field.ops c.args.code.now c.args.file.now (length c.args.cells.now) c.in_default.ensures

pub write_nodes-requires : goal.write_nodes-requires
write_nodes-requires g c = accepted_room g.F.Field.ops c.args.code.now c.args.file.now (length c.args.cells.now) c.in_default.ensures

pub returns : goal.returns
returns g c =
    let F = g.F.Field.ops in
    let L = g.met.F.Field.laws in (
      c.in_default.ensures,
      c.cell_count.ensures,
      record {
        stripe = stripe_of F L c.args.code.now c.args.file.now (in_columns c.complete.new.columns) (in_memory c.args.code.now c.write_nodes.new.cells) c.complete.ensures c.write_nodes.ensures.written;
        long = omega arith;
        kept = c.write_nodes.ensures.kept;
      },
    )
