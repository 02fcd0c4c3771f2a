use Rattle.std.proofs.Common.{refl}
use Rattle.layers.specs.Writing.{after_header, in_header}
use Rattle.layers.proofs.writing.write_layer.Goals as goal

pub returns-in-Ok : goal.returns-in-Ok
returns-in-Ok g c = after_header _ c.in-Ok.ensures c.write_county.ensures

pub returns-in-Err : goal.returns-in-Err
returns-in-Err g c = in_header c.in-Err.fault refl c.in-Err.ensures refl
