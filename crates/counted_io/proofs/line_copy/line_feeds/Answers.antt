use Rattle.std.proofs.Common.{eqb, w8, arith}
use Rattle.std.proofs.lemmas.Simd.{bitmask_splat}
use Rattle.counted_io.proofs.line_copy.line_feeds.Goals as goal

pub returns : goal.returns
returns c = bitmask_splat w8 eqb c.args.lanes 32 10 c.fits-lanes.0 (omega arith)
