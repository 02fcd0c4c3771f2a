use Rattle.std.proofs.Common.{ap, ◌∙◌}
use Rattle.addresses.specs.Address.{AddressParts, address_in}
use Rattle.addresses.specs.Listing.{addresses_left}
use Rattle.address_batch.specs.Lines.{lines_of}
use Rattle.address_batch.proofs.OutputLemmas.{output_more}
use Rattle.address_batch.proofs.batch.Batch.output.Goals as goal

pub loop-lines-preserved : goal.loop-lines-preserved
loop-lines-preserved g c =
    output_more c.args.file.now c.args.self.now.codes c.args.self.now.counties (addresses_left c.loop-lines.addresses)
    (addresses_left c.read.new.self) (address_in c.read.new.row) c.loop-lines.text.items c.as_bytes-in-loop-lines.result.now
    c.extend_from_slice.new.self.items c.loop-lines.invariant (rw c.if-branch.true at c.in_ok-read.ensures.next)
    (c.as_bytes-in-loop-lines.ensures ∙ c.in_ok-write_lines.ensures
    ∙ ap (λ (address : AddressParts). lines_of c.args.self.now.codes c.args.self.now.counties address) c.address.ensures)
    c.in_ok-extend_from_slice.ensures.items
