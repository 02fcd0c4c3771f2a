-- The table of routes, as the router of the crate `matchit` holds it.
use Rattle.std.specs.Prelude.{◌≡◌, ℕ, List, [], ◌∷◌, ◌++◌, codes, option_map}
use Rattle.matchit.specs.Rows.{param_token, RowsOf}
use Rattle.matchit.specs.Router.{RouteOf}
use Rattle.matchit.specs.Seek.{first}
use Rattle.http_message.specs.Routes.{route_of, row}
use Rattle.http_message.specs.declared.route.Route.{Route}
use Rattle.http_message.specs.declared.route.Route.TheVariants.{Job}

-- a path, byte by byte, with a token for the name in braces
abbrev pub pattern : Route → List ℕ
pattern Job = codes "/jobs/" ++ param_token ∷ []
pattern route = (row route).path

-- where the names of a path's parameters begin and end
abbrev pub names : Route → List (ℕ × ℕ)
names Job = (7, 9) ∷ []
names route = []

abbrev pub entry : Route → List ℕ × RouteOf Route
entry route = (pattern route, record { pattern = pattern route; text = (row route).path; names = names route; value = route })

-- a router finds the route that matches each path
abbrev pub FindsRoutes : RowsOf (RouteOf Route) → Type 0
FindsRoutes rows = (path : List ℕ) → option_map (λ found. found.value) (first rows path) ≡ route_of path
