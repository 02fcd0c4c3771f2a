-- Paths that lead to parts of a value.
use Rattle.std.proofs.Common.{◌≡◌, ℕ, Bool, true, false, List, [], ◌∷◌, ◌++◌, Some, Ok, Err, refl, ap, sym, ◌∙◌}
use Rattle.std.specs.List.{AllByRecursion}
use Rattle.std.specs.Prelude.{if◌then◌else◌, option_and_then}
use Rattle.std.proofs.lemmas.List.{append-nil, append_assoc}
use Rattle.json.specs.Json.{Json}
use Rattle.cql2_json.specs.Meets.{meets}
use Rattle.cql2_json.specs.Pointer.{step_to, value_at}
use Rattle.cql2_json.specs.Translation.{Misplaced, Piece, Translation, at, own, refused, ◌▷◌}
use Rattle.cql2_json.specs.declared.fault.ExpectedValue.{ExpectedValue}
use Rattle.cql2_json.specs.declared.pointer.Step.{Step}

-- a path, after that of a value, leads to a part of it
pub record Leads (value : Json) (prefix path : List Step) : Type 0 where
  pub rest : List Step
  pub part : Json
  pub path_is : path ≡ prefix ++ rest
  pub found : value_at rest value ≡ Some part

-- a fault's path leads to a part that isn't as expected
pub record Misses (value : Json) (prefix : List Step) (fault : Misplaced) : Type 0 where
  pub leads : Leads value prefix fault.path
  pub lacks : meets fault.needs leads.part ≡ false

-- all paths of a translation lead to parts of the value
abbrev pub Within : Json → List Step → Translation → Type 0
Within value prefix (Ok pieces) = AllByRecursion (λ piece. Leads value prefix piece.path) pieces
Within value prefix (Err fault) = Misses value prefix fault

abbrev here : (value : Json) (path : List Step) → Leads value path path
here value path = record { rest = []; part = value; path_is = sym (append-nil path); found = refl }

pub own-within : (value : Json) (path : List Step) (text : List ℕ) → Within value path (own path text)
own-within value path text = (here value path, tt)

pub refused-within : (value : Json) (path : List Step) (needs : ExpectedValue) → meets needs value ≡ false → Within value path (refused path needs)
refused-within value path needs lacks = record { leads = here value path; lacks = lacks }

all-append : (P : Piece → Type 0) (ps qs : List Piece) → AllByRecursion P ps → AllByRecursion P qs → AllByRecursion P (ps ++ qs)
all-append P [] qs first second = second
all-append P (p ∷ ps) qs first second = (first.0, all-append P ps qs first.1 second)

pub then-within : (value : Json) (path : List Step) (first second : Translation) → Within value path first → Within value path second
    → Within value path (first ▷ second)
then-within value path (Ok ps) (Ok qs) a b = all-append _ ps qs a b
then-within value path (Ok ps) (Err fault) a b = record { leads = b.leads; lacks = b.lacks }
then-within value path (Err fault) second a b = a

abbrev into : (value part : Json) (prefix path : List Step) (step : Step) → step_to step value ≡ Some part → Leads part (at prefix step) path
    → Leads value prefix path
into value part prefix path step is leads = record {
  rest = step ∷ leads.rest;
  part = leads.part;
  path_is = leads.path_is ∙ append_assoc prefix (step ∷ []) leads.rest;
  found = ap (option_and_then (value_at leads.rest)) is ∙ leads.found;
}

all-into : (value part : Json) (prefix : List Step) (step : Step) → step_to step value ≡ Some part → (pieces : List Piece)
    → AllByRecursion (λ piece. Leads part (at prefix step) piece.path) pieces → AllByRecursion (λ piece. Leads value prefix piece.path) pieces
all-into value part prefix step is [] all = tt
all-into value part prefix step is (piece ∷ pieces) all =
    (into value part prefix piece.path step is all.0, all-into value part prefix step is pieces all.1)

pub inside-within : (value part : Json) (prefix : List Step) (step : Step) (translation : Translation) → step_to step value ≡ Some part
    → Within part (at prefix step) translation → Within value prefix translation
inside-within value part prefix step (Ok pieces) is all = all-into value part prefix step is pieces all
inside-within value part prefix step (Err fault) is misses =
    record { leads = into value part prefix fault.path step is misses.leads; lacks = misses.lacks }

pub choose-within : (value : Json) (path : List Step) (b : Bool) (x y : Translation) → (b ≡ true → Within value path x)
    → (b ≡ false → Within value path y) → Within value path (if b then x else y)
choose-within value path true x y if_true if_false = if_true refl
choose-within value path false x y if_true if_false = if_false refl
