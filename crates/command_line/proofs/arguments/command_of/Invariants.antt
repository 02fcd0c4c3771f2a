use Rattle.std.proofs.Common.{map, take}
use Rattle.command_line.specs.Arguments.{Takes, name_of, rule}
use Rattle.command_line.proofs.arguments.command_of.Given as goal

-- the command takes the arguments so far
abbrev pub invariant-loop-argument : goal.invariant-loop-argument
invariant-loop-argument l = Takes (name_of l.fn.subcommand) (map rule (take l.argument-index l.argument-items)) l.command
