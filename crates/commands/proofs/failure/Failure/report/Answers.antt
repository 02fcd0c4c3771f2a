use Rattle.std.proofs.Common.{ℕ, List, ◌++◌, append_assoc, subst, sym}
use Rattle.std.specs.Prelude.{codes}
use Rattle.commands.specs.Failure.{IsReason, ReportsText, file_line}
use Rattle.commands.proofs.failure.Failure.report.Goals as goal

pub returns-in-NotUtf8 : goal.returns-in-NotUtf8
returns-in-NotUtf8 g c = rw c.in-NotUtf8.is (c.write_pieces.ensures.0, simp append_assoc c.write_pieces.ensures.1)

pub returns-in-Output : goal.returns-in-Output
returns-in-Output g c =
    rw c.in-Output.is (c.as_str-in-Output.result.now, (c.write_pieces-in-Output.ensures.0, simp append_assoc c.write_pieces-in-Output.ensures.1))

pub returns-in-File : goal.returns-in-File
returns-in-File g c = rw c.in-File.is (
  c.as_str-in-File.result.now,
  subst (IsReason c.in-File.error) (sym c.as_str-in-File.ensures.value) c.reason-reason.ensures,
  c.report_file.ensures,
)

pub returns-in-CountyFile : goal.returns-in-CountyFile
returns-in-CountyFile g c = let reason = c.as_str-in-CountyFile in rw c.in-CountyFile.is (
  reason.result.now,
  subst (IsReason c.in-CountyFile.error) (sym reason.ensures.value) c.reason-reason-in-CountyFile.ensures,
  subst (λ (end : List ℕ).
      ReportsText (file_line (c.in-CountyFile.data.now ++ codes "/TGR" ++ c.in-CountyFile.code.now ++ end) reason.result.now)
      (g.E.CountedWrite.writer c.args.errors.now)
      (g.E.CountedWrite.writer c.report_county_file.new.errors)) c.name_end-end.ensures c.report_county_file.ensures,
)
