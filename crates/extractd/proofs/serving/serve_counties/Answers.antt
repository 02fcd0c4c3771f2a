use Rattle.std.proofs.Common.{ap, refl}
use Rattle.std.specs.declared.alloc.Global.{Global}
use Rattle.http_service.specs.declared.logged.Logged.{Logged}
use Rattle.extractd.proofs.serving.serve_counties.Goals as goal

pub returns-in-Ok-clause-serves : goal.returns-in-Ok-clause-serves
returns-in-Ok-clause-serves g c = (
  refl,
  record {
    start = c.read_second-start.result;
    state = c.in-Ok.state;
    without_jobs = c.in-Ok.ensures.ok.0;
    loaded = c.in-Ok.ensures.ok.1;
    logged = c.new.result;
    over_state = ap (λ (logged : Logged Global g.row.L.Denot g.row.T.Denot). logged.state) c.new.ensures;
    reads_start = rw c.new.ensures c.read_second-start.ensures;
    serves_address = c.serve_address.ensures;
  },
)
