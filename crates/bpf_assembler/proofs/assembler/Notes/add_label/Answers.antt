use Rattle.std.proofs.Common.{Some, refl}
use Rattle.std.proofs.lemmas.Map.Text.{btree_map_updates_str}
use Rattle.bpf_assembler.specs.Statement.{Label}
use Rattle.bpf_assembler.specs.Notes.{places_in}
use Rattle.bpf_assembler.proofs.NoteLemmas.{noted-label, absent-label, faultless-label}
use Rattle.bpf_assembler.proofs.assembler.Notes.add_label.Goals as goal

pub returns-clause-noted : goal.returns-clause-noted
returns-clause-noted g c = λ before notes line.
    let name = c.args.name.now in
    let old = c.args.self.now.labels in
    let updated = btree_map_updates_str name old c.insert.new.self (Some c.args.self.now.words) c.in_ok-insert.ensures.updates in
    let absent = absent-label before name (places_in old name) (notes.labels_are name) c.if-contains_key.ensures in
    (Label name, refl, faultless-label before name absent, noted-label (places_in c.insert.new.self) name notes absent updated)
