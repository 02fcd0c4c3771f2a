-- From the parser's matches to the request.
use Rattle.std.proofs.Common.{◌≡◌, ◌≢◌, ap, ap₂, subst, true, List, [], Option, Some, None, Result, inl, inr}
use Rattle.std.specs.Prelude.{option_map, unwrap_or}
use Rattle.clap.specs.Walk.{Row, Text}
use Rattle.clap.specs.Values.{kind_of}
use Rattle.clap.specs.Matches.{subcommand_name_of}
use Rattle.clap.specs.Simple.{App, HasMatchesOf, subcommand_of, subcommand_rows, subcommand_rows_of}
use Rattle.clap.specs.Faults.{fault_of, is_simple_and_free}
use Rattle.clap.specs.Kinds.{FailsBy, HasKind, IsAmong, Kinds}
use Rattle.clap.specs.declared.error.Error.{Error}
use Rattle.clap.specs.declared.error.kind.ErrorKind.TheVariants.{OutOfMemory}
use Rattle.clap.specs.declared.parser.matches.ArgMatches.{ArgMatches}
use Rattle.clap.specs.declared.parser.matches.ArgMatches.TheViews.{out-ArgMatches, out-SubCommand}
use Rattle.std.specs.Prelude.{Box}
use Rattle.std.specs.Box.{box_value}
use Rattle.clap.specs.declared.parser.matches.SubCommand.{SubCommand}
use Rattle.command_line.specs.Arguments.{program}
use Rattle.command_line.proofs.ArgumentLemmas.{program_is_simple, program_is_simple_and_free}

pub found_rows : (app : App) (words : List Text) (matches : ArgMatches) → app ≡ program → HasMatchesOf app words matches
    → subcommand_rows_of matches ≡ subcommand_of program words
found_rows app words matches is found = (subst (λ (app : App). HasMatchesOf app words matches) is found program_is_simple).1

pub fails_by : {T : Type 0} (app : App) (words : List Text) (result : Result T Error) → app ≡ program
    → (is_simple_and_free app ≡ true → FailsBy (fault_of app words) result) → FailsBy (fault_of program words) result
fails_by app words result is fails =
    subst (λ (app : App). is_simple_and_free app ≡ true → FailsBy (fault_of app words) result) is fails program_is_simple_and_free

-- an error that isn't out of memory is one of the faults
pub has_fault : (kinds : Kinds) (error : Error) → HasKind kinds error → (kind_of error ≡ OutOfMemory → ⊥) → kinds ≢ []
has_fault kinds error (inl is) other = absurd (other is)
has_fault kinds error (inr among) other = λ none. subst (λ (kinds : Kinds). IsAmong (kind_of error) kinds) none among

-- the name and the rows of the subcommand that the parser met
pub met : (matches : ArgMatches) (name : Text) (rows : List Row) → subcommand_name_of matches ≡ Some name
    → option_map (λ p. p.1) (subcommand_rows_of matches) ≡ Some rows → subcommand_rows_of matches ≡ Some (name, rows)
met matches name rows = go (out-ArgMatches matches).subcommand
  where
    go : {Z : Type 0} (entered : Option (Box SubCommand Z)) → option_map (λ b. (out-SubCommand (box_value b)).name.now) entered ≡ Some name
        → option_map (λ p. p.1) (subcommand_rows entered) ≡ Some rows → subcommand_rows entered ≡ Some (name, rows)
    go None named found = let bad : None ≡ Some name = named in cc
    go (Some b) named found = ap₂ (λ (n : Text) (rs : List Row). Some (n, rs)) (ap (λ (o : Option Text). unwrap_or o name) named) (ap (λ (o : Option (List Row)). unwrap_or o rows) found)
