use Rattle.std.proofs.Common.{refl}
use Rattle.csv.specs.Records.{field_at}
use Rattle.addresses.proofs.row.AddressRow.new.Goals as goal

pub returns : goal.returns
unfolding field_at
returns c = rw c.new.ensures.fields refl
