-- The action of a method on a route, looked up among the methods as the code lists them.
use Rattle.std.proofs.Common.{◌≡◌, Bool, true, false, cond, ℕ, List, [], ◌∷◌, Option, Some, refl, ap, ◌∙◌, find, map}
use Rattle.std.specs.Prelude.{option_map}
use Rattle.std.specs.Str.{bytes_eq}
use Rattle.http_message.specs.Routes.{action_of, row, verb_name}
use Rattle.http_message.specs.declared.route.Action.{Action}
use Rattle.http_message.specs.declared.route.Route.{Route}
use Rattle.http_message.specs.declared.route.Verb.{Verb}

-- the action of the first method with this name
abbrev pub among : List (Verb × Action) → List ℕ → Option Action
among methods method = option_map (λ pair. pair.1) (find (λ pair. bytes_eq (verb_name pair.0) method) methods)

abbrev pub texts : List (Verb × Action) → List (List ℕ × Action)
texts methods = map (λ pair. (verb_name pair.0, pair.1)) methods

among_is : (methods : List (Verb × Action)) (method : List ℕ)
    → among methods method ≡ option_map (λ pair. pair.1) (find (λ pair. bytes_eq pair.0 method) (texts methods))
among_is [] method = refl
among_is (pair ∷ methods) method = by_test (bytes_eq (verb_name pair.0) method) (among_is methods method)
  where
    by_test : (same : Bool) → among methods method ≡ option_map (λ pair. pair.1) (find (λ pair. bytes_eq pair.0 method) (texts methods))
        → option_map (λ pair. pair.1) (cond same (Some pair) (find (λ pair. bytes_eq (verb_name pair.0) method) methods)) ≡ option_map
        (λ pair. pair.1) (cond same (Some (verb_name pair.0, pair.1)) (find (λ pair. bytes_eq pair.0 method) (texts methods)))
    by_test true rest = refl
    by_test false rest = rest

pub among_row : (route : Route) (methods : List (Verb × Action)) (method : List ℕ) → texts methods ≡ (row route).actions
    → among methods method ≡ action_of route method
among_row route methods method same =
    among_is methods method ∙ ap (λ (methods : List (List ℕ × Action)). option_map (λ pair. pair.1)
    (find (λ pair. bytes_eq pair.0 method) methods)) same
