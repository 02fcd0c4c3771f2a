-- What the parser's matches hold.
use Rattle.std.proofs.Common.{◌≡◌, ◌≢◌, ◌⊎◌, ◌≤◌, ◌<◌, ◌∙◌, inl, inr, refl, length, get_or, map, ℕ, Bool, true, false, nat_le, List, ◌&&◌}
use Rattle.std.proofs.Common.{Some, None, Result, Ok, Err}
use Rattle.std.specs.Prelude.{if◌then◌else◌}
use Rattle.std.proofs.lemmas.Bool.{le-leb}
use Rattle.std.specs.Borrow.{Bor}
use Rattle.std.specs.List.{list_all}
use Rattle.std.proofs.lemmas.List.{length-map}
use Rattle.std.proofs.lemmas.List.Folds.{list_all-map, list_all_at}
use Rattle.std.specs.Prelude.{option_map}
use Rattle.std.specs.Option.{option_or}
use Rattle.std.specs.Result.{IsErr, result_err}
use Rattle.clap.specs.Matches.{first_value, found_of, matched_of, raw_values}
use Rattle.clap.specs.Walk.{Row, Text, all_of, first_of}
use Rattle.clap.specs.declared.parser.matches.ArgMatches.{ArgMatches}
use Rattle.clap.proofs.WalkLemmas.{first_value-rows, raw_values-rows}
use Rattle.layers.specs.LayerFault.{NamesNearest, parts_of}
use Rattle.layers.specs.declared.layer_fault.LayerFault.{LayerFault}
use Rattle.layers.specs.declared.layer_fault.LayerFault.TheVariants as layer
use Rattle.command_line.specs.Values.{IsLayerFault, code_in, codes_in, is_code, layer_of, rows_in}
use Rattle.command_line.specs.declared.fault.ArgumentsFault.{ArgumentsFault}
use Rattle.command_line.specs.declared.fault.ArgumentsFault.TheVariants.{Layer, Memory}

pub first_value_in : (matches : ArgMatches) (name : Text) → first_value (found_of matches) name ≡ first_of name (rows_in matches)
first_value_in matches name = first_value-rows (found_of matches) name

pub raw_values_in : (matches : ArgMatches) (name : Text) → option_map raw_values (matched_of (found_of matches) name) ≡ all_of name (rows_in matches)
raw_values_in matches name = raw_values-rows (found_of matches) name

-- if one of two results has a fault, that is the first fault
pub either_fails : {X Y F : Type 0} (first : Result X F) (second : Result Y F) (fault : F)
    → option_or (result_err first) (result_err second) ≡ Some fault → IsErr first ⊎ IsErr second
either_fails (Err first) second fault is = inl refl
either_fails (Ok first) (Err second) fault is = inr refl
either_fails (Ok first) (Ok second) fault is = cc

-- the fault of a layer is reported, unless memory ran out
pub layer_fault_is : (rows : List Row) (of : LayerFault) (fault : ArgumentsFault)
    → (of ≡ layer.Memory → fault ≡ Memory) × (of ≢ layer.Memory → fault ≡ Layer of)
    → (of ≢ layer.Memory → layer_of rows ≡ Err (parts_of of)) → NamesNearest of → IsLayerFault rows fault
layer_fault_is rows of fault gives named nearest = λ other.
    let apart : of ≢ layer.Memory = λ is. other (gives.0 is) in (of, gives.1 apart, named apart, nearest)

is_code_missing : (text : Text) → code_in text ≡ None → is_code text ≡ false
is_code_missing text missing = go (is_code text) refl
  where
    go : (t : Bool) → is_code text ≡ t → is_code text ≡ false
    go true e = let bad : Some text ≡ None = rw e at missing in cc
    go false e = e

-- the texts of arguments
abbrev texts : List (Bor Text) → List Text
texts = map (λ text. text.now)

same_length : (given : List (Bor Text)) → length (texts given) ≡ length given
same_length given = length-map given (λ text. text.now)

same_test : (given : List (Bor Text)) → list_all is_code (texts given) ≡ list_all (λ text. is_code text.now) given
same_test given = list_all-map is_code (λ (text : Bor Text). text.now) given

-- at least one argument and at most 100,000, all of them codes
pub codes_in_texts : (given : List (Bor Text)) → 1 ≤ length given → length given ≤ 100_000 → list_all (λ text. is_code text.now) given ≡ true
    → codes_in (map (λ text. text.now) given) ≡ Some (map (λ text. text.now) given)
codes_in_texts given some few all = go _ _ _ (le-leb 1 (length (texts given)) (rw (same_length given) some))
    (le-leb (length (texts given)) 100_000 (rw (same_length given) few)) (same_test given ∙ all)
  where
    go : (some few all : Bool) → some ≡ true → few ≡ true → all ≡ true → (if some && few && all then Some (texts given) else None) ≡ Some (texts given)
    go some few all is_some are_few are_all = rw (is_some, are_few, are_all) refl

-- an argument isn't a code
pub no_codes_in_texts : (given : List (Bor Text)) (index : ℕ) (default : Bor Text) → index < length given
    → code_in (get_or given index default).now ≡ None → codes_in (map (λ text. text.now) given) ≡ None
no_codes_in_texts given index default within missing = go (nat_le 1 (length (texts given)) && nat_le (length (texts given)) 100_000) _
    (same_test given ∙ list_all_at (λ text. is_code text.now) given index default within (is_code_missing (get_or given index default).now missing))
  where
    go : (counted all : Bool) → all ≡ false → (if counted && all then Some (texts given) else None) ≡ None
    go true all e = rw e refl
    go false all e = refl
