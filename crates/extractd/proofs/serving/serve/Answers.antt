use Rattle.std.proofs.Common.{sym, ◌∙◌}
use Rattle.extractd.proofs.serving.serve.Goals as goal

pub returns : goal.returns
returns g c = let fault = c.serve_counties-fault in record {
  fault = fault.result;
  is_status = c.status.ensures;
  no_success = λ zero. fault.ensures.status.0 (sym c.status.ensures ∙ zero);
  no_usage = λ two. fault.ensures.status.1 (sym c.status.ensures ∙ two);
  reported = c.report.ensures;
}
