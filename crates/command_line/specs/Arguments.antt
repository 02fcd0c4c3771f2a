-- The program's commands and their arguments.
use Rattle.std.specs.Prelude.{◌≡◌, true, false, List, [], ◌∷◌, ◌++◌, map, codes, Option, Some, find}
use Rattle.std.specs.Str.{bytes_eq}
use Rattle.clap.specs.Lexer.{usize_max}
use Rattle.clap.specs.Walk.{Rule, Text, is_empty}
use Rattle.clap.specs.Simple.{App, Shape, app_of, new_rule, new_shape}
use Rattle.clap.specs.declared.builder.action.ArgAction.TheVariants.{Set, SetTrue, Append}
use Rattle.clap.specs.declared.builder.command.Command.{Command}
use Rattle.clap.specs.declared.builder.command.Command.TheViews.{out-Command as fields_of}
use Rattle.command_line.specs.declared.argument.DeclaredArgument.{DeclaredArgument}
use Rattle.command_line.specs.declared.argument.ArgumentKind.{ArgumentKind}
use Rattle.command_line.specs.declared.argument.ArgumentKind.TheVariants.{Required, Optional, Flag, One, Several}
use Rattle.command_line.specs.declared.arguments.subcommand.Subcommand.{Subcommand}
use Rattle.command_line.specs.declared.arguments.subcommand.Subcommand.TheVariants.{Select, Compile, Run, Trace, Geocode, GeocodeBatch}
use Rattle.command_line.specs.declared.arguments.subcommand.Subcommand.TheVariants.{Verify, Explain, Assemble, Disassemble, Serve}

-- `VALUE`, once
abbrev pub required_value : Text → Rule
required_value name = record (new_rule name) { value_names = 1; required = true; action = Some Set }

-- `VALUE..`, one or more
abbrev pub several : Text → Rule
several name = record (required_value name) { range = Some (record { start_inclusive = 1; end_inclusive = usize_max }); action = Some Append }

-- `--NAME VALUE`, once
abbrev pub required : Text → Rule
required name = record (required_value name) { long = Some name }

-- `--NAME VALUE`, at most once
abbrev pub optional : Text → Rule
optional name = record (required name) { required = false }

-- `--NAME` without a value, at most once
abbrev pub flag : Text → Rule
flag name = record (new_rule name) { long = Some name; action = Some SetTrue }

-- what the parser takes for an argument of this name
abbrev pub rule_by_kind : Text → ArgumentKind → Rule
rule_by_kind name Required = required name
rule_by_kind name Optional = optional name
rule_by_kind name Flag = flag name
rule_by_kind name One = required_value name
rule_by_kind name Several = several name

abbrev pub rule : DeclaredArgument → Rule
rule argument = rule_by_kind argument.name.now argument.kind

-- `CODE`
abbrev pub county : Rule
county = required_value (codes "code")

-- `CODE..`
abbrev pub counties : Rule
counties = several (codes "code")

-- `--format FORMAT`, `--columns NAMES` and `--geometry GEOMETRY`, each at most once
abbrev pub layer_options : List Rule
layer_options = optional (codes "format") ∷ optional (codes "columns") ∷ optional (codes "geometry") ∷ []

-- the word that names a command
abbrev pub name_of : Subcommand → Text
name_of Select = codes "select"
name_of Compile = codes "compile"
name_of Run = codes "run"
name_of Trace = codes "trace"
name_of Geocode = codes "geocode"
name_of GeocodeBatch = codes "geocode-batch"
name_of Verify = codes "verify"
name_of Explain = codes "explain"
name_of Assemble = codes "asm"
name_of Disassemble = codes "dis"
name_of Serve = codes "serve"

-- the arguments of a command
abbrev pub arguments_of : Subcommand → List Rule
arguments_of Select =
    required (codes "where") ∷ optional (codes "filter-lang") ∷ optional (codes "score") ∷ required (codes "data") ∷ layer_options ++ counties ∷ []
arguments_of Compile = required (codes "filter") ∷ optional (codes "filter-lang") ∷ optional (codes "score") ∷ []
arguments_of Run = required (codes "program") ∷ required (codes "data") ∷ layer_options ++ county ∷ []
arguments_of Trace = required (codes "program") ∷ required (codes "data") ∷ required (codes "line") ∷ required (codes "limit") ∷ county ∷ []
arguments_of Geocode =
    required (codes "data") ∷ required (codes "number") ∷ required (codes "name") ∷ optional (codes "zip") ∷ counties ∷ []
arguments_of GeocodeBatch = required (codes "addresses") ∷ required (codes "data") ∷ flag (codes "shape") ∷ counties ∷ []
arguments_of Verify = required (codes "program") ∷ []
arguments_of Explain = required (codes "program") ∷ optional (codes "lines") ∷ []
arguments_of Assemble = required (codes "source") ∷ []
arguments_of Disassemble = required (codes "program") ∷ []
arguments_of Serve =
    required (codes "data") ∷ optional (codes "port") ∷ flag (codes "any-port") ∷ optional (codes "host") ∷ flag (codes "public") ∷ flag (codes "log")
    ∷ counties ∷ []

-- the commands in the order of the help
abbrev pub every : List Subcommand
every = Select ∷ Compile ∷ Run ∷ Trace ∷ Geocode ∷ GeocodeBatch ∷ Verify ∷ Explain ∷ Assemble ∷ Disassemble ∷ Serve ∷ []

-- the command that a word names
abbrev pub named : Text → Option Subcommand
named word = find (λ command. bytes_eq (name_of command) word) every

-- a command with this name and these arguments
abbrev pub taking : Text → List Rule → Shape
taking name rules = record (new_shape name) { rules = rules }

-- `extractd COMMAND`, with `--help` and `--version`, but without a command `help`; the words don't begin with the program's name
abbrev pub with_commands : List Shape → App
with_commands commands = record {
  top = record (new_shape (codes "extractd")) {
    is_leaf = is_empty commands;
    no_binary_name = true;
    disable_help_subcommand = true;
    has_version = true;
    subcommand_required = true;
  };
  subs = commands;
}

abbrev pub offering : List Subcommand → App
offering commands = with_commands (map (λ command. taking (name_of command) (arguments_of command)) commands)

unfoldable pub program : App
program = offering every

-- the parser's command has this name and these arguments
pub record Takes (name : Text) (rules : List Rule) (command : Command) : Type 0 where
  pub app : app_of command ≡ record { top = taking name rules; subs = [] }
  pub local : (fields_of command).has_globals ≡ false
