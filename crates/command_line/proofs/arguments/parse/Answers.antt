use Rattle.std.proofs.Common.{Ok, Err}
use Rattle.clap.specs.Walk.{texts}
use Rattle.clap.specs.declared.parser.matches.ArgMatches.{ArgMatches}
use Rattle.command_line.proofs.RequestLemmas.{fails_by, found_rows, has_fault}
use Rattle.command_line.proofs.arguments.parse.Goals as goal

pub returns-in-Ok : goal.returns-in-Ok
returns-in-Ok c =
    let words = texts c.args.arguments.now in
    let program = c.in_ok-program_command.ensures in
    record {
      taken = fails_by _ words (Ok c.in-Ok.matches) program c.in-Ok.ensures.kinds;
      command = found_rows _ words c.in-Ok.matches program c.in-Ok.ensures.matches;
    }

pub returns-in_ok-with_escapes-in-Err : goal.returns-in_ok-with_escapes-in-Err
returns-in_ok-with_escapes-in-Err c = λ other.
    let words = texts c.args.arguments.now in
    let fails = fails_by {T = ArgMatches} _ words (Err c.in-Err.error) c.in_ok-program_command.ensures c.in-Err.ensures.kinds in
    has_fault _ c.in-Err.error fails (λ memory. other (c.from.ensures.0 (c.in_ok-with_escapes-in-Err.ensures.same memory)))
