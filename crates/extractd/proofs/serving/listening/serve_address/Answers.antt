use Rattle.std.proofs.Common.{rules}
use Rattle.extractd.proofs.serving.listening.serve_address.Goals as goal

pub returns : goal.returns
returns g c =
    record {
      listener = c.in-Ok.listener;
      binds = c.in-Ok.ensures;
      local = c.in-Ok-local_address.local;
      is_local = c.in-Ok-local_address.ensures.ok;
      announces = search rules;
      serves_listener = record {
        limits = c.standard.result;
        standard = c.standard.ensures;
        new = record { acceptor = c.serve_all.new.acceptor; service = c.serve_all.new.service };
        serves_all = search rules;
      };
    }
