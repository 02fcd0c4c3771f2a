use Rattle.std.proofs.Common.{rules, [], ◌≡◌, ◌∙◌, subst, take, map, ap, sym}
use Rattle.std.proofs.lemmas.List.{take_all, take_more, map-append}
use Rattle.command_line.proofs.ArgumentLemmas.{takes_arg}
use Rattle.command_line.specs.Arguments.{Takes, name_of, rule}
use Rattle.command_line.proofs.arguments.command_of.Goals as goal

pub loop-argument-init : goal.loop-argument-init
loop-argument-init c =
    let none : Takes c.name-name.result.now [] c.after_help-command.result = search rules in
    subst (λ name. Takes name [] c.after_help-command.result) c.name-name.ensures none

pub loop-argument-preserved : goal.loop-argument-preserved
loop-argument-preserved c =
    let arguments = c.declaration_of-declaration.result.arguments.now in
    let one_more = ap (map rule) (take_more arguments c.loop-argument.argument-index _ c.loop-argument-test.true) ∙ map-append rule _ _ in
    subst (λ rules. Takes (name_of c.args.subcommand) rules c.in_ok-command.command) (sym one_more)
    (takes_arg c.loop-argument.invariant c.in_ok-command.ensures c.arg.ensures.rule c.arg.ensures.local)

pub returns : goal.returns
returns c =
    let arguments = c.declaration_of-declaration.result.arguments.now in
    let all = ap (map rule) (take_all c.loop-argument.argument-index arguments c.loop-argument-test.false) ∙ c.declaration_of-declaration.ensures in
    subst (λ rules. Takes (name_of c.args.subcommand) rules c.loop-argument.command) all c.loop-argument.invariant
