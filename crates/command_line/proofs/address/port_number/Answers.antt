use Rattle.std.proofs.Common.{◌≡◌, ◌≤◌, refl, rules, true}
use Rattle.std.specs.Prelude.{IfOk}
use Rattle.std.specs.List.{list_all}
use Rattle.std.specs.Char.{is_ascii_digit}
use Rattle.command_line.proofs.PortLemmas.{refused_port}
use Rattle.command_line.proofs.address.port_number.Goals as goal
use Rattle.command_line.proofs.address.port_number.Goals.{in_default-via-in-Ok+else-port-gt0, in_default-via-in_default}

pub returns-in_default : goal.returns-in_default
returns-in_default c =
    let digits : list_all is_ascii_digit c.args.text.now ≡ true = search rules in
    let zero : IfOk c.parse.result (λ port. port ≤ 0) = elim c.in_default.branch [
      | in_default-via-in-Ok+else-port-gt0 w ↦ rw w.in-Ok.is w.if-port-gt0.false
      | in_default-via-in_default w ↦ rw w.in_default.is tt
    ] in
    (refused_port c.args.text.now c.parse.result digits c.parse.ensures.value.0 zero, refl)
