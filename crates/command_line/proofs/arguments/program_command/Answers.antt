use Rattle.std.proofs.Common.{rules, ◌≡◌, ◌∙◌, ap, sym, take, get_or}
use Rattle.std.proofs.lemmas.List.{take_all, take_more}
use Rattle.command_line.specs.Arguments.{every, offering, program}
use Rattle.command_line.specs.declared.arguments.subcommand.Subcommand.TheVariants.{Select}
use Rattle.command_line.proofs.ArgumentLemmas.{offers_command}
use Rattle.command_line.proofs.arguments.program_command.Goals as goal

pub loop-subcommand-init : goal.loop-subcommand-init
loop-subcommand-init c = search rules

pub loop-subcommand-preserved : goal.loop-subcommand-preserved
loop-subcommand-preserved c =
    let index = c.loop-subcommand.subcommand-index in
    offers_command (take index every) (get_or every index Select) c.loop-subcommand.program c.in_ok-command_of.field-0 c.in_ok-program.program
    c.loop-subcommand.invariant c.in_ok-command_of.ensures c.in_ok-program.ensures
    ∙ ap offering (sym (take_more every index Select c.loop-subcommand-test.true))

pub returns : goal.returns
unfolding program
returns c =
    let index = c.loop-subcommand.subcommand-index in
    let all : take index every ≡ every = take_all index every c.loop-subcommand-test.false in
    c.loop-subcommand.invariant ∙ ap offering all
