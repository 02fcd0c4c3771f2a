-- The routes: their paths and methods, and the action of each.
use Rattle.std.specs.Prelude.{ℕ, Bool, ◌==◌, ◌||◌, ◌&&◌, not, false, List, [], ◌∷◌, ◌++◌, length, drop, find, map, codes, Option, option_map, nat_lt, nat_eq}
use Rattle.std.specs.List.{flat_map, starts_with}
use Rattle.std.specs.Str.{bytes_eq}
use Rattle.http_message.specs.declared.route.Action.{Action}
use Rattle.http_message.specs.declared.route.Route.{Route}
use Rattle.http_message.specs.declared.route.Route.TheVariants.{Index, Health, Verify, Assemble, Disassemble, Extract, Explain, Select, Compile}
use Rattle.http_message.specs.declared.route.Route.TheVariants.{Geocode, GeocodeBatch, Metrics, Jobs, FilterJobs, OpenJobs, Job}
use Rattle.http_message.specs.declared.route.Action.TheVariants as action
use Rattle.http_message.specs.declared.route.Verb.{Verb}
use Rattle.http_message.specs.declared.route.Verb.TheVariants.{Get, Post, Delete}

-- the names of the methods (RFC 9110, section 9)
abbrev pub verb_name : Verb → List ℕ
verb_name Get = codes "GET"
verb_name Post = codes "POST"
verb_name Delete = codes "DELETE"

abbrev pub verbs : List Verb
verbs = Get ∷ Post ∷ Delete ∷ []

-- the method that a text names, if a route has it
abbrev pub verb_named : List ℕ → Option Verb
verb_named method = find (λ verb. bytes_eq (verb_name verb) method) verbs

-- A row of the table: the path, in which the name in braces stands for any one segment that isn't empty, and the methods with their actions.
pub record RowParts : Type 0 where
  pub path : List ℕ
  pub actions : List (List ℕ × Action)

-- the table
abbrev pub row : Route → RowParts
row Index = record { path = codes "/"; actions = (codes "GET", action.Index) ∷ [] }
row Health = record { path = codes "/health"; actions = (codes "GET", action.Health) ∷ [] }
row Verify = record { path = codes "/verify"; actions = (codes "POST", action.Verify) ∷ [] }
row Assemble = record { path = codes "/assemble"; actions = (codes "POST", action.Assemble) ∷ [] }
row Disassemble = record { path = codes "/disassemble"; actions = (codes "POST", action.Disassemble) ∷ [] }
row Extract = record { path = codes "/extract"; actions = (codes "POST", action.Extract) ∷ [] }
row Explain = record { path = codes "/explain"; actions = (codes "POST", action.Explain) ∷ [] }
row Select = record { path = codes "/select"; actions = (codes "POST", action.Select) ∷ [] }
row Compile = record { path = codes "/compile"; actions = (codes "POST", action.Compile) ∷ [] }
row Geocode = record { path = codes "/geocode"; actions = (codes "GET", action.Geocode) ∷ [] }
row GeocodeBatch = record { path = codes "/geocode-batch"; actions = (codes "POST", action.GeocodeBatch) ∷ [] }
row Metrics = record { path = codes "/metrics"; actions = (codes "GET", action.Metrics) ∷ [] }
row Jobs = record { path = codes "/jobs"; actions = (codes "POST", action.Submit) ∷ [] }
row FilterJobs = record { path = codes "/filter-jobs"; actions = (codes "POST", action.SubmitFilter) ∷ [] }
row OpenJobs = record { path = codes "/open-jobs"; actions = (codes "GET", action.List) ∷ [] }
row Job = record { path = codes "/jobs/{id}"; actions = (codes "GET", action.Fetch) ∷ (codes "DELETE", action.Drop) ∷ [] }

abbrev pub has_slash : List ℕ → Bool
has_slash [] = false
has_slash (byte ∷ text) = byte == 47 || has_slash text

-- one segment of a path: not empty, and without a slash
abbrev pub is_segment : List ℕ → Bool
is_segment text = nat_lt 0 (length text) && not (has_slash text)

-- a route matches a path: the name in braces matches a segment, and everything else matches itself
abbrev pub matches : Route → List ℕ → Bool
matches Job text = starts_with nat_eq text (codes "/jobs/") && is_segment (drop 6 text)
matches route text = bytes_eq (row route).path text

-- all routes, in the order in which a router tries them; the one with a parameter is last
abbrev pub routes : List Route
routes =
    Assemble ∷ Compile ∷ Disassemble ∷ Explain ∷ Extract ∷ FilterJobs ∷ GeocodeBatch ∷ Geocode ∷ Health ∷ Jobs ∷ Metrics ∷ OpenJobs ∷ Select ∷ Verify
    ∷ Index ∷ Job ∷ []

-- the route that matches a path
abbrev pub route_of : List ℕ → Option Route
route_of text = find (λ route. matches route text) routes

-- the action of a method on a route
abbrev pub action_of : Route → List ℕ → Option Action
action_of route method = option_map (λ pair. pair.1) (find (λ pair. bytes_eq pair.0 method) (row route).actions)

-- the names, separated by a comma and a blank
abbrev pub listed : List (List ℕ) → List ℕ
listed [] = []
listed (name ∷ []) = name
listed (name ∷ next ∷ names) = name ++ codes ", " ++ listed (next ∷ names)

-- the methods of a route, as in the `Allow` header (RFC 9110, section 10.2.1)
abbrev pub allow : Route → List ℕ
allow route = listed (map (λ pair. pair.0) (row route).actions)

-- a line for each route: its methods and its path
abbrev pub index : List ℕ
index = flat_map (λ route. allow route ++ codes " " ++ (row route).path ++ 10 ∷ []) routes
