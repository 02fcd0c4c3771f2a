use Rattle.std.proofs.Common.{◌≡◌, List, refl, sym, ap, true, false, Some}
use Rattle.clap.specs.Walk.{Text}
use Rattle.clap.proofs.OnLiterals.{clap_on_literals}
use Rattle.std.specs.Net.Socket.{socket_port}
use Rattle.command_line.specs.Arguments.{program}
use Rattle.command_line.proofs.AddressLemmas.{any_address_is_public}
use Rattle.command_line.proofs.laws.listens.Goals as goal

pub returns-clause-default : goal.returns-clause-default
unfolding clap_on_literals program
returns-clause-default c = λ serve is.
    let port : Some 8080 ≡ Some (socket_port serve.address) = is.made.1.address.port in
    (is.made.1.address.host.spelled, cc, sym is.made.1.log)

pub returns-clause-log : goal.returns-clause-log
unfolding clap_on_literals program
returns-clause-log c = λ serve is. sym is.made.1.log

pub returns-clause-any_port : goal.returns-clause-any_port
unfolding clap_on_literals program
returns-clause-any_port c = λ serve is.
    let port : Some 0 ≡ Some (socket_port serve.address) = is.made.1.address.port in (is.made.1.address.host.spelled, cc)

pub returns-clause-two_ports : goal.returns-clause-two_ports
unfolding clap_on_literals program
returns-clause-two_ports c = λ serve is. let none = is.made.1.address.port in cc

pub returns-clause-private : goal.returns-clause-private
unfolding clap_on_literals program
returns-clause-private c = λ serve is.
    any_address_is_public _ is.made.1.address.host.spelled (is.made.1.address.host.loopback refl)

pub returns-clause-public : goal.returns-clause-public
unfolding clap_on_literals program
returns-clause-public c = λ serve folder host plain quiet counties. record {
  taken = refl;
  made = (
    refl,
    record {
      folder = ap (λ (text : Text). Some text) (sym folder);
      address = record {
        host = record { spelled = host; loopback = λ private. let bad : true ≡ false = private in cc };
        port = ap Some (sym plain.0);
        no_flow = plain.1;
        no_scope = plain.2;
      };
      log = sym quiet;
      codes = ap (λ (texts : List Text). Some texts) (sym counties);
    },
  );
}
