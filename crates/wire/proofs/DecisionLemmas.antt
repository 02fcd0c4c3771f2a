-- The bytes read of an input determine the decision on the complete input.
use Rattle.std.proofs.Common.{◌≡◌, ℕ, ◌-◌, ◌<◌, ◌≤◌, true, false, inl, inr, List, [], ◌∷◌, ◌++◌, length, take, Option, Some, None, refl}
use Rattle.std.proofs.Common.{sym, ap, ◌∙◌, subst, arith}
use Rattle.std.proofs.lemmas.Bool.{le-leb, lt-leb}
use Rattle.std.proofs.lemmas.List.{append-nil, length-append}
use Rattle.std.specs.Option.{option_and_then}
use Rattle.std.specs.Prelude.{Result, Ok, Err, if◌then◌else◌}
use Rattle.http_message.specs.declared.status.Status.TheVariants.{BadRequest, NotFound}
use Rattle.http_message.specs.Head.{Head}
use Rattle.http_message.specs.Length.{body_length}
use Rattle.http_message.specs.Reading.{EndsInBody, FailsInBody, ReadsNoHead, OutOfMemoryInBody, ReadsBody, ReadsHead, RequestParts, Takes}
use Rattle.http_message.specs.Whole.{left_of}
use Rattle.http_message.specs.declared.length.LengthFault.{LengthFault}
use Rattle.http_message.proofs.HeadLemmas.{HasHead-append, HasHead-some, HasHead-unique}
use Rattle.http_message.specs.declared.head.TheConstants.{MAX_HEAD_LENGTH}
use Rattle.http_message.proofs.TakeLemmas.{Takes-append}
use Rattle.http_message.proofs.WholeLemmas.{had_head, had_no_head, had_request, had_short_request, known_whole}
use Rattle.counted_io.proofs.KnownBytesLemmas.{Consumes-append}
use Rattle.http_message.specs.Routes.{action_of, route_of, verb_named}
use Rattle.http_message.specs.Target.{path_of}
use Rattle.http_message.specs.declared.route.Action.{Action}
use Rattle.http_message.specs.declared.route.Route.{Route}
use Rattle.http_message.specs.declared.route.Verb.{Verb}
use Rattle.counted_io.specs.ReaderWriter.{Reader}
use Rattle.wire.specs.Decision.{AnnouncesBody, DecisionParts, Refuses, Disallows, Accepts, IsDecided, IsEnough, named_by, requested_action, routed_by, decide}
use Rattle.wire.specs.Decision.{decide_action, decide_body, decide_route, length_status, takes_body}
use Rattle.wire.specs.Reading.{Decides, StopsInBody}
use Rattle.wire.specs.Serving.{FailsUndecided, ReadsEnough}
use Rattle.wire.specs.declared.summary.Named.{Named}

-- an input without a head is refused
pub decides_no_head : (old new : Reader) → ReadsNoHead old new → Decides (record { verb = None; route = None }) (Refuses BadRequest) old new
decides_no_head old new reads =
    let had = had_no_head old new reads in
    record {
      input = had.input;
      is_input = had.known;
      names = inl (had.has_none, refl);
      decided = inl (had.has_none, refl);
      read =
          record { taken = reads.taken; takes = reads.takes; some = reads.some; enough = inl reads.room };
    }

-- what a head names, by its method and its route
pub names_so : (head : Head) (verb : Option Verb) (route : Option Route) → verb ≡ verb_named head.method → route_of (path_of head.target) ≡ route
    → record { verb = verb; route = route } ≡ named_by head
names_so head verb route is_verb is_route = rw (is_verb, is_route) refl

-- the decision on a head, whatever follows it
pub decides_by_head : (request : RequestParts) (named : Named) (decision : DecisionParts) (old new : Reader) → ReadsHead request old new
    → named ≡ named_by request.head → ((rest : List ℕ) → decision ≡ decide request.head rest) → Decides named decision old new
decides_by_head request named decision old new reads is_named decided =
    let had = had_head request old new reads in
    record {
      input = had.input;
      is_input = had.known;
      names = inr (request.head, request.after_head ++ left_of new, had.has, is_named);
      decided = inr (request.head, request.after_head ++ left_of new, had.has, decided _);
      read = record {
        taken = reads.taken;
        takes = reads.takes;
        some = HasHead-some reads.taken request.head request.after_head reads.has;
        enough = inl reads.room;
      };
    }

pub decides_no_route : (request : RequestParts) (named : Named) (old new : Reader) → ReadsHead request old new → named ≡ named_by request.head
    → route_of (path_of request.head.target) ≡ None → Decides named (Refuses NotFound) old new
decides_no_route request named old new reads is_named none =
    decides_by_head request named (Refuses NotFound) old new reads is_named (λ rest. sym (ap (λ found. decide_route request.head found rest) none))

with_route : (head : Head) (route : Route) (rest : List ℕ) → route_of (path_of head.target) ≡ Some route
    → decide head rest ≡ decide_action head route (action_of route head.method) rest
with_route head route rest is_route = ap (λ found. decide_route head found rest) is_route

pub decides_no_action : (request : RequestParts) (named : Named) (route : Route) (old new : Reader) → ReadsHead request old new
    → named ≡ named_by request.head → route_of (path_of request.head.target) ≡ Some route → action_of route request.head.method ≡ None
    → Decides named (Disallows route) old new
decides_no_action request named route old new reads is_named is_route none =
    decides_by_head request named (Disallows route) old new reads is_named
    (λ rest. sym (with_route request.head route rest is_route ∙ ap (λ found. decide_action request.head route found rest) none))

-- the decision on a head with an action, by its route
by_action : (head : Head) (found : Option Route) (action : Action) (rest : List ℕ)
    → option_and_then (λ route. action_of route head.method) found ≡ Some action
    → decide_route head found rest ≡ (if takes_body action then decide_body head action (body_length head) rest else Accepts
    (routed_by head action []))
by_action head None action rest requests = cc
by_action head (Some route) action rest requests = ap (λ found. decide_action head route found rest) requests

without_body : (head : Head) (action : Action) (rest : List ℕ) → requested_action head ≡ Some action → takes_body action ≡ false
    → decide head rest ≡ Accepts (routed_by head action [])
without_body head action rest requests none = by_action head (route_of (path_of head.target)) action rest requests ∙ rw none refl

pub with_body : (head : Head) (action : Action) (rest : List ℕ) → requested_action head ≡ Some action → takes_body action ≡ true
    → decide head rest ≡ decide_body head action (body_length head) rest
with_body head action rest requests takes = by_action head (route_of (path_of head.target)) action rest requests ∙ rw takes refl

pub requested : (head : Head) (route : Route) (action : Action) → route_of (path_of head.target) ≡ Some route
    → action_of route head.method ≡ Some action → requested_action head ≡ Some action
requested head route action is_route is_action = ap (λ found. option_and_then (λ route. action_of route head.method) found) is_route ∙ is_action

pub decides_without_body : (request : RequestParts) (named : Named) (action : Action) (old new : Reader) → ReadsHead request old new
    → named ≡ named_by request.head → requested_action request.head ≡ Some action → takes_body action ≡ false
    → Decides named (Accepts (routed_by request.head action [])) old new
decides_without_body request named action old new reads is_named requests none =
    decides_by_head request named _ old new reads is_named (λ rest. sym (without_body request.head action rest requests none))

-- The head was read. It names this, requests an action with a body, and announces this length.
pub record ReadsAnnounced (request : RequestParts) (named : Named) (announced : Result ℕ LengthFault) (old new : Reader) : Type 0 where
  pub reads : ReadsHead request old new
  pub is_named : named ≡ named_by request.head
  pub action : Action
  pub requests : requested_action request.head ≡ Some action
  pub takes : takes_body action ≡ true
  pub announces : body_length request.head ≡ announced

abbrev pub announcing : {request : RequestParts} {named : Named} {old new : Reader} {action : Action} {announced : Result ℕ LengthFault}
    → ReadsHead request old new → named ≡ named_by request.head → requested_action request.head ≡ Some action → takes_body action ≡ true
    → announced ≡ body_length request.head → ReadsAnnounced request named announced old new
announcing {action = action} reads is_named requests takes is =
    record { reads = reads; is_named = is_named; action = action; requests = requests; takes = takes; announces = sym is }

-- the decision on such a head depends on the length and on the bytes that follow
by_length : (request : RequestParts) (named : Named) (announced : Result ℕ LengthFault) (old new : Reader)
    (head : ReadsAnnounced request named announced old new) (rest : List ℕ)
    → decide request.head rest ≡ decide_body request.head head.action announced rest
by_length request named announced old new head rest =
    with_body request.head head.action rest head.requests head.takes
    ∙ ap (λ announced. decide_body request.head head.action announced rest) head.announces

pub decides_no_length : (request : RequestParts) (named : Named) (fault : LengthFault) (old new : Reader)
    → ReadsAnnounced request named (Err fault) old new → Decides named (Refuses (length_status fault)) old new
decides_no_length request named fault old new head =
    decides_by_head request named _ old new head.reads head.is_named (λ rest. sym (by_length request named (Err fault) old new head rest))

module _ (request : RequestParts) (named : Named) (count : ℕ) (old now new : Reader) (head : ReadsAnnounced request named (Ok count) old now) where
  -- the announced body, if these bytes were read after the head
  abbrev announced : (more : List ℕ) → AnnouncesBody (head.reads.taken ++ more)
  announced more = record {
    head = request.head;
    rest = request.after_head ++ more;
    has = HasHead-append head.reads.taken more request.head request.after_head head.reads.has;
    action = head.action;
    requests = head.requests;
    takes = head.takes;
    count = count;
    announces = head.announces;
  }

  -- no more bytes were read after the head than the body has
  read_enough : (more : List ℕ) → Takes more now new → length more ≤ count - length request.after_head → ReadsEnough old new
  read_enough more takes fits = record {
    taken = head.reads.taken ++ more;
    takes = Takes-append head.reads.taken more old now new head.reads.takes takes;
    some = (let some = HasHead-some head.reads.taken request.head request.after_head head.reads.has in
        let long = length-append head.reads.taken more in omega arith);
    enough = enough more fits;
  }
    where
      enough : (more : List ℕ) → length more ≤ count - length request.after_head → IsEnough (head.reads.taken ++ more)
      enough [] fits = inl (subst (λ taken. length taken ≤ MAX_HEAD_LENGTH) (sym (append-nil head.reads.taken)) head.reads.room)
      enough (byte ∷ bytes) fits = inr (announced (byte ∷ bytes), (let long = length-append request.after_head (byte ∷ bytes) in omega arith))

  pub decides_with_body : (body : List ℕ) → ReadsBody request.after_head count body now new
      → Decides named (Accepts (routed_by request.head head.action body)) old new
  decides_with_body body reads =
      let had = had_request request count body old now new head.reads reads in
      record {
        input = had.had.input;
        is_input = had.had.known;
        names = inr (request.head, had.rest, had.had.has, head.is_named);
        decided = inr (
          request.head,
          had.rest,
          had.had.has,
          sym (by_length request named (Ok count) old now head had.rest ∙ whole had.rest had.whole had.is_body),
        );
        read = read_enough reads.taken reads.takes (let exact = reads.exact in omega arith);
      }
    where
      whole : (rest : List ℕ) → count ≤ length rest → body ≡ take count rest
          → decide_body request.head head.action (Ok count) rest ≡ Accepts (routed_by request.head head.action body)
      whole rest within is_body = rw is_body (rw (le-leb count (length rest) within) refl)

  pub decides_short_body : EndsInBody request.after_head count now new → Decides named (Refuses BadRequest) old new
  decides_short_body ends =
      let had = had_short_request request count old now new head.reads ends in
      record {
        input = had.had.input;
        is_input = had.had.known;
        names = inr (request.head, had.rest, had.had.has, head.is_named);
        decided = inr (
          request.head,
          had.rest,
          had.had.has,
          sym (by_length request named (Ok count) old now head had.rest ∙ cut had.rest had.short),
        );
        read = read_enough ends.taken ends.takes
            (let short = ends.short in let long = length-append request.after_head ends.taken in omega arith);
      }
    where
      cut : (rest : List ℕ) → length rest < count → decide_body request.head head.action (Ok count) rest ≡ Refuses BadRequest
      cut rest short = rw (lt-leb count (length rest) short) refl

  pub undecided_in_body : FailsInBody request.after_head count now new → FailsUndecided old new
  undecided_in_body fails = record {
    taken = head.reads.taken ++ fails.taken;
    fails = record {
      consumed = Consumes-append old.left now.left new.left head.reads.taken fails.taken head.reads.takes.consumed fails.fails.consumed;
      failed = λ same. fails.fails.failed (same ∙ sym head.reads.takes.failed);
    };
    undecided = inr (announced fails.taken, fails.short);
  }

  pub stops_in_body : OutOfMemoryInBody request.after_head count now new → StopsInBody named old new
  stops_in_body reads = record {
    input = head.reads.taken ++ left_of now;
    is_input = known_whole head.reads.taken old now head.reads.takes;
    names = inr (request.head, request.after_head ++ left_of now, (announced (left_of now)).has, head.is_named);
    announced = announced (left_of now);
    nonempty = reads.nonempty;
    read = read_enough reads.taken reads.takes reads.within;
  }

-- an input has only one decision
pub one_decision : (input : List ℕ) (decision other : DecisionParts) → IsDecided input decision → IsDecided input other → decision ≡ other
one_decision input decision other (inl none) (inl also) = none.1 ∙ sym also.1
one_decision input decision other (inl none) (inr has) = absurd (none.0 has.0 has.1 has.2)
one_decision input decision other (inr has) (inl none) = absurd (none.0 has.0 has.1 has.2)
one_decision input decision other (inr has) (inr also) =
    let same = HasHead-unique input has.0 also.0 has.1 also.1 has.2 also.2 in
    has.3 ∙ ap (λ head. decide head has.1) same.0 ∙ ap (λ rest. decide also.0 rest) same.1 ∙ sym also.3
