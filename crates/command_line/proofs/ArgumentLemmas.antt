-- The commands of the argument parser.
use Rattle.std.proofs.Common.{◌≡◌, ◌∙◌, length, sym, arith, ◌++◌, ◌∷◌, [], List, ap, ap₂, true, false, refl, Bool}
use Rattle.std.specs.Prelude.{◌||◌, map}
use Rattle.std.proofs.lemmas.Bool.{ne_eqb}
use Rattle.std.proofs.lemmas.List.{length-append, map-append}
use Rattle.clap.specs.Built.{AddsArg, AddsSubcommand}
use Rattle.clap.specs.Walk.{Rule, Text, rule_of}
use Rattle.clap.specs.Simple.{is_simple, with_rule, with_subcommand, App, Shape, app_of}
use Rattle.clap.specs.declared.builder.arg.Arg.{Arg}
use Rattle.clap.specs.declared.builder.command.Command.{Command}
use Rattle.clap.specs.Faults.{is_simple_and_free}
use Rattle.command_line.specs.Arguments.{Takes, arguments_of, offering, program, taking, with_commands, name_of}
use Rattle.command_line.specs.declared.arguments.subcommand.Subcommand.{Subcommand}

pub program_is_simple : is_simple program ≡ true
unfolding program
program_is_simple = refl

pub program_is_simple_and_free : is_simple_and_free program ≡ true
unfolding program
program_is_simple_and_free = refl

-- a command takes the arguments that are added to it
pub takes_arg : {name : Text} {rules : List Rule} {rule : Rule} {command : Command} {arg : Arg} {made : Command} → Takes name rules command
    → AddsArg command arg made → rule_of arg ≡ rule → arg.global ≡ false → Takes name (rules ++ rule ∷ []) made
takes_arg takes adds is local = record {
  app = adds.shape local ∙ ap₂ with_rule takes.app is;
  local = adds.globals ∙ ap₂ (λ (a b : Bool). a || b) takes.local local;
}

-- a program offers the commands that are added to it
pub offers_command : (commands : List Subcommand) (command : Subcommand) (old sub made : Command) → app_of old ≡ offering commands
    → Takes (name_of command) (arguments_of command) sub → AddsSubcommand old sub made → app_of made ≡ offering (commands ++ command ∷ [])
offers_command commands command old sub made offers takes adds =
    adds.shape takes.local ∙ (ap₂ with_subcommand offers (ap (λ (a : App). a.top) takes.app)
    ∙ (more (map shape commands) (shape command) ∙ ap with_commands (sym (map-append shape commands (command ∷ [])))))
  where
    shape : Subcommand → Shape
    shape command = taking (name_of command) (arguments_of command)

    more : (shapes : List Shape) (added : Shape) → with_subcommand (with_commands shapes) added ≡ with_commands (shapes ++ added ∷ [])
    more shapes added = ap (λ (leaf : Bool). record { top = record (with_commands []).top { is_leaf = leaf }; subs = shapes ++ added ∷ [] })
        (sym (ne_eqb (length (shapes ++ added ∷ [])) 0 (λ e. absurd (omega (arith, length-append shapes (added ∷ []))))))
