use Rattle.std.proofs.Common.{Ok, Err, refl, ap}
use Rattle.http_message.specs.declared.status.Status.TheVariants as status
use Rattle.wire.specs.Answer.{plain}
use Rattle.wire.proofs.explanation.explanation.Goals as goal

pub returns-in-Ok : goal.returns-in-Ok
returns-in-Ok g c = (
  c.in_ok-text.field-0.text.items,
  Ok c.in-Ok.field-0,
  rw c.in-Ok.is at c.in_ok-text.ensures.explained,
  refl,
)

pub returns-in_ok-with_line-in-Err : goal.returns-in_ok-with_line-in-Err
returns-in_ok-with_line-in-Err g c = (
  c.in_ok-text.field-0.text.items,
  Err c.in-Err.fault,
  rw c.in-Err.is at c.in_ok-text.ensures.explained,
  ap (plain status.UnprocessableEntity) c.in_ok-with_line-in-Err.ensures,
)
