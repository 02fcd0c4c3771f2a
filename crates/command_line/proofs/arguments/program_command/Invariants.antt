use Rattle.std.proofs.Common.{◌≡◌, take}
use Rattle.clap.specs.Simple.{app_of}
use Rattle.command_line.specs.Arguments.{every, offering}
use Rattle.command_line.proofs.arguments.program_command.Given as goal

-- the program offers the commands so far
abbrev pub invariant-loop-subcommand : goal.invariant-loop-subcommand
invariant-loop-subcommand l = app_of l.program ≡ offering (take l.subcommand-index every)
