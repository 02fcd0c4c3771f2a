use Rattle.std.proofs.Common.{◌∙◌}
use Rattle.commands.proofs.CountiesLemmas.{open_counts, open_failure, open_named, refused_failure}
use Rattle.commands.proofs.ReadLemmas.{county_closed, county_from}
use Rattle.commands.proofs.counties.load_county.Goals as goal

pub returns-in-Err-clause-err : goal.returns-in-Err-clause-err
returns-in-Err-clause-err g c =
    rw c.of_county_file.ensures (open_failure g.F.Files.opens _ _ (g.F.Files.disk c.args.files.now)
    (g.F.Files.disk c.open_county.new.files) c.args.folder c.args.code
    c.in-Err.fault.file c.in-Err.fault.fault c.in-Err.ensures.fault.1.is_fault c.in-Err.ensures.opens.opens)

pub returns-in-Err-clause-counts : goal.returns-in-Err-clause-counts
returns-in-Err-clause-counts g c =
    rw c.of_county_file.ensures (open_counts c.args.folder c.args.code c.in-Err.fault.file c.in-Err.fault.fault
    c.in-Err.ensures.opens.opens c.in-Err.ensures.opens.reads)

pub returns-in-Err-clause-names : goal.returns-in-Err-clause-names
returns-in-Err-clause-names g c =
    rw c.of_county_file.ensures (open_named c.args.shapes c.args.folder c.args.code c.in-Err.fault.file c.in-Err.fault.fault c.in-Err.ensures.fault.0)

pub returns-in-Err-loaded-clause-err : goal.returns-in-Err-loaded-clause-err
returns-in-Err-loaded-clause-err g c =
    rw c.refusal.ensures (refused_failure g.F.Files.opens c.args.folder.now c.args.code.now
    (g.F.Files.disk c.args.files.now)
    (g.F.Files.disk c.open_county.new.files)
    (g.F.Files.disk c.close_county.new.files) c.in-Err-loaded.fault
    c.in-Ok.ensures.hold c.in-Ok.ensures.opens.reads c.close_county.ensures.reads c.in-Err-loaded.ensures.err)

pub returns-in-Err-loaded-clause-counts : goal.returns-in-Err-loaded-clause-counts
returns-in-Err-loaded-clause-counts g c = λ other.
    let closed = county_closed c.in-Ok.ensures.hold (county_from c.in-Ok.ensures.opens.reads c.close_county.ensures.reads)
    c.in-Err-loaded.fault c.in-Err-loaded.ensures.err in
    record { opens = c.close_county.ensures.opens ∙ c.in-Ok.ensures.opens.opens; reads = closed.stays (rw c.refusal.ensures at other) }
