-- The decision on an input: whether it's a request, and what it requests. It depends on the complete input, not on how that was read.
use Rattle.std.specs.Prelude.{◌≡◌, ◌⊎◌, ◌<◌, ◌≤◌, ℕ, nat_le, Bool, true, false, if◌then◌else◌, List, [], length, take}
use Rattle.std.specs.Prelude.{Option, Some, None, Result, Ok, Err, IsTrue}
use Rattle.std.specs.Option.{option_and_then}
use Rattle.http_message.specs.Head.{Head, HasHead, HasNoHead, MayBecomeHead}
use Rattle.http_message.specs.Length.{body_length}
use Rattle.http_message.specs.declared.head.TheConstants.{MAX_HEAD_LENGTH}
use Rattle.http_message.specs.declared.length.LengthFault.{LengthFault}
use Rattle.http_message.specs.declared.length.LengthFault.TheVariants.{Missing, Invalid, TooLarge}
use Rattle.http_message.specs.declared.status.Status.{Status}
use Rattle.http_message.specs.declared.status.Status.TheVariants.{BadRequest, NotFound, LengthRequired, PayloadTooLarge}
use Rattle.http_message.specs.Routes.{action_of, route_of, verb_named}
use Rattle.http_message.specs.Target.{path_of, query_of}
use Rattle.http_message.specs.declared.route.Action.{Action}
use Rattle.http_message.specs.declared.route.Action.TheVariants.{Index, Health, Geocode, Metrics, Select, Compile, SubmitFilter, List as ListJobs, Fetch, Drop}
use Rattle.http_message.specs.declared.route.Route.{Route}
use Rattle.wire.specs.declared.decision.RequestRead.{RequestRead}
use Rattle.wire.specs.declared.decision.RequestRead.TheVariants.{Complete, Partial}
use Rattle.wire.specs.declared.summary.Named.{Named}

-- an accepted request: its action, the path and the query of its target, and its body
pub record RoutedParts : Type 0 where
  pub action : Action
  pub path : List ℕ
  pub query : List ℕ
  pub body : List ℕ

-- a request is refused with a status, refused because its route doesn't have its method, or accepted
pub data DecisionParts : Type 0 where
  Refuses : Status → DecisionParts
  Disallows : Route → DecisionParts
  Accepts : RoutedParts → DecisionParts

-- how much of a request was read: all of an accepted request, otherwise only what was needed to refuse it
abbrev pub request_read_of : DecisionParts → RequestRead
request_read_of (Accepts request) = Complete
request_read_of (Refuses status) = Partial
request_read_of (Disallows route) = Partial

-- the actions with a body: all those requested by POST
abbrev pub takes_body : Action → Bool
takes_body Index = false
takes_body Health = false
takes_body Geocode = false
takes_body Metrics = false
takes_body ListJobs = false
takes_body Fetch = false
takes_body Drop = false
takes_body action = true

-- the actions whose body is a filter
abbrev pub takes_filter : Action → Bool
takes_filter Select = true
takes_filter Compile = true
takes_filter SubmitFilter = true
takes_filter action = false

-- the status for a request without a usable body length
abbrev pub length_status : LengthFault → Status
length_status Missing = LengthRequired
length_status Invalid = BadRequest
length_status TooLarge = PayloadTooLarge

-- the request of a head with this body
abbrev pub routed_by : Head → Action → List ℕ → RoutedParts
routed_by head action body = record { action = action; path = path_of head.target; query = query_of head.target; body = body }

-- A body has the announced length. Bytes that follow it are ignored.
abbrev pub decide_body : Head → Action → Result ℕ LengthFault → List ℕ → DecisionParts
decide_body head action (Err fault) rest = Refuses (length_status fault)
decide_body head action (Ok count) rest =
    if nat_le count (length rest) then Accepts (routed_by head action (take count rest)) else Refuses BadRequest

-- GET and DELETE take no body, whatever length is announced
abbrev pub decide_action : Head → Route → Option Action → List ℕ → DecisionParts
decide_action head route None rest = Disallows route
decide_action head route (Some action) rest =
    if takes_body action then decide_body head action (body_length head) rest else Accepts (routed_by head action [])

-- first the route, then its method, then the body
abbrev pub decide_route : Head → Option Route → List ℕ → DecisionParts
decide_route head None rest = Refuses NotFound
decide_route head (Some route) rest = decide_action head route (action_of route head.method) rest

-- the decision on a head and the bytes after it
abbrev pub decide : Head → List ℕ → DecisionParts
decide head rest = decide_route head (route_of (path_of head.target)) rest

-- the decision on an input: refused if it has no head, otherwise the decision on its head
abbrev pub IsDecided : List ℕ → DecisionParts → Type 0
IsDecided input decision =
    (HasNoHead input × (decision ≡ Refuses BadRequest))
    ⊎ ((head : Head) × (rest : List ℕ) × HasHead input head rest × (decision ≡ decide head rest))

-- what a head names: its method and the route of its path, each if there is one
abbrev pub named_by : Head → Named
named_by head = record { verb = verb_named head.method; route = route_of (path_of head.target) }

-- what the head of an input names; nothing if it has no head
abbrev pub Names : List ℕ → Named → Type 0
Names input named =
    (HasNoHead input × (named ≡ record { verb = None; route = None }))
    ⊎ ((head : Head) × (rest : List ℕ) × HasHead input head rest × (named ≡ named_by head))

-- the input is a request with a filter
abbrev pub SendsFilter : List ℕ → Type 0
SendsFilter input = (request : RoutedParts) × IsDecided input (Accepts request) × IsTrue (takes_filter request.action)

-- the input is a request for the counts
abbrev pub RequestsCounts : List ℕ → Type 0
RequestsCounts input = (request : RoutedParts) × IsDecided input (Accepts request) × (request.action ≡ Metrics)

-- the action of a head, by its route and its method
abbrev pub requested_action : Head → Option Action
requested_action head = option_and_then (λ route. action_of route head.method) (route_of (path_of head.target))

-- The input has a head that requests an action with a body, and announces the body's length.
pub record AnnouncesBody (input : List ℕ) : Type 0 where
  pub head : Head
  pub rest : List ℕ
  pub has : HasHead input head rest
  pub action : Action
  pub requests : requested_action head ≡ Some action
  pub takes : IsTrue (takes_body action)
  pub count : ℕ
  pub announces : body_length head ≡ Ok count

-- The bytes read don't suffice for a decision: they have no head, though more bytes may complete one, or only a part of the body that their head
-- announces.
abbrev pub IsUndecided : List ℕ → Type 0
IsUndecided taken =
    (HasNoHead taken × MayBecomeHead taken × (length taken < MAX_HEAD_LENGTH))
    ⊎ ((announced : AnnouncesBody taken) × (length announced.rest < announced.count))

-- No more bytes were read than a decision needs: at most the greatest size of a head, or no more than a head and the body that it announces.
abbrev pub IsEnough : List ℕ → Type 0
IsEnough taken =
    (length taken ≤ MAX_HEAD_LENGTH)
    ⊎ ((announced : AnnouncesBody taken) × (length announced.rest ≤ announced.count))
