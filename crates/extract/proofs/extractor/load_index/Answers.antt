use Rattle.std.proofs.Common.{sym, ◌∙◌}
use Rattle.std.specs.Prelude.{IsTrue}
use Rattle.tl_segments.specs.Joining.{no_lines}
use Rattle.bpf_meaning.specs.RecordAlone.{reads_record_alone}
use Rattle.extract.proofs.ExtractLemmas.{alike_alone, alike_itself}
use Rattle.extract.proofs.extractor.load_index.Goals as goal

pub returns-then-reads_record_alone-2-clause-ok : goal.returns-then-reads_record_alone-2-clause-ok
returns-then-reads_record_alone-2-clause-ok g c =
    let text_of = g.F.Format.text_of c.args.format.now in
    let code = c.args.verified.now.code in
    let checked = c.in_ok-check.ensures.ok in
    let alone : IsTrue (reads_record_alone code) = sym c.reads_record_alone.ensures ∙ c.if-reads_record_alone.true in
    record {
      own = no_lines;
      index_of = c.new.ensures;
      joined = checked.0;
      reads = checked.1;
      alike = alike_alone text_of code checked.0 alone (c.reads_record_alone-then-reads_record_alone.ensures c.if-reads_record_alone-2.true);
    }

pub returns-clause-ok : goal.returns-clause-ok
returns-clause-ok g c =
    let loads = c.in_ok-index.ensures.ok in
    record {
      own = loads.lines;
      index_of = loads.index_of;
      joined = loads.lines;
      reads = loads.reads;
      alike = alike_itself (g.F.Format.text_of c.args.format.now) c.args.verified.now.code loads.lines;
    }
