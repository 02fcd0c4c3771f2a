-- Counting, and what doesn't depend on the counts.
use Rattle.std.proofs.Common.{◌≡◌, ℕ, ◌+◌, inl, inr, List, [], ◌∷◌, ◌++◌, Option, refl, sym, ap, ◌∙◌, subst, add_assoc, zero-add}
use Rattle.std.specs.Prelude.{◌==◌, if◌then◌else◌}
use Rattle.http_message.specs.Reply.{ReplyParts}
use Rattle.http_message.specs.declared.reply.MediaType.{MediaType}
use Rattle.http_message.specs.declared.reply.MediaType.TheVariants.{Metrics}
use Rattle.http_message.specs.declared.status.Status.{Status}
use Rattle.http_message.specs.declared.route.Action.{Action}
use Rattle.http_message.specs.declared.route.Route.{Route}
use Rattle.http_message.specs.declared.route.Action.TheVariants as action
use Rattle.jobs.specs.Progress.{finished, running}
use Rattle.jobs.specs.Table.{Table}
use Rattle.metrics.specs.Counters.{CountersParts}
use Rattle.metrics.specs.Text.{text as counts_text}
use Rattle.wire.specs.Answer.{Answers, AnswersAction, Replies, body_reply, counts_reply}
use Rattle.wire.specs.Counting.{line_feeds, rows_among, with_counters}
use Rattle.wire.specs.Decision.{Accepts, DecisionParts, IsDecided, RequestsCounts, RoutedParts}
use Rattle.wire.specs.State.{StateParts}
use Rattle.wire.specs.declared.decision.RequestRead.{RequestRead}

pub line_feeds_append : (text more : List ℕ) → line_feeds (text ++ more) ≡ line_feeds text + line_feeds more
line_feeds_append [] more = sym (zero-add (line_feeds more))
line_feeds_append (byte ∷ text) more =
    ap (λ count. (if byte == 10 then 1 else 0) + count) (line_feeds_append text more)
    ∙ sym (add_assoc (if byte == 10 then 1 else 0) (line_feeds text) (line_feeds more))

pub same_rows : (route : Option Route) {status status' : Status} {media media' : MediaType} {lines lines' : ℕ} → status ≡ status' → media ≡ media'
    → lines ≡ lines' → rows_among route status media lines ≡ rows_among route status' media' lines'
same_rows route same_status same_media same_lines = rw (same_status, same_media, same_lines) refl

pub counts_are : (state : StateParts) (table : Table) {counters : CountersParts} {running_count finished_count : ℕ} {body : List ℕ}
    → body ≡ counts_text counters running_count finished_count → counters ≡ state.counters → running_count ≡ running table
    → finished_count ≡ finished table → table ≡ state.table → body_reply Metrics body ≡ counts_reply state
counts_are state table is same_counters is_running is_finished same_table =
    ap (body_reply Metrics) (is ∙ rw (same_counters, is_running ∙ ap running same_table, is_finished ∙ ap finished same_table) refl)

-- ---- only the reply with the counts depends on them

-- the counters stay, and with others the reply is the same
abbrev pub Keeps : (StateParts → StateParts → Type 0) → CountersParts → StateParts → StateParts → Type 0
Keeps Is counters old new = (new.counters ≡ old.counters) × Is (with_counters counters old) (with_counters counters new)

module _ (counters : CountersParts) (old new : StateParts) where
  same_counters : new ≡ old → new.counters ≡ old.counters
  same_counters same = ap (λ state. state.counters) same

  same_others : new ≡ old → with_counters counters new ≡ with_counters counters old
  same_others same = ap (λ state. with_counters counters state) same

  keeps_action : (requested : Action) (request : RoutedParts) (reply : ReplyParts) → (requested ≡ action.Metrics → ⊥)
      → AnswersAction requested old request reply new → Keeps (λ old new. AnswersAction requested old request reply new) counters old new
  keeps_action action.Metrics request reply no_counts is = absurd (no_counts refl)
  keeps_action action.Submit request reply no_counts is = (is.2, (is.0, is.1, refl))
  keeps_action action.SubmitFilter request reply no_counts is = (is.2, (is.0, is.1, refl))
  keeps_action action.Fetch request reply no_counts is = (is.2, (is.0, is.1, refl))
  keeps_action action.Drop request reply no_counts is = (is.2, (is.0, is.1, refl))
  keeps_action action.Index request reply no_counts is = (same_counters is.1, (is.0, same_others is.1))
  keeps_action action.Health request reply no_counts is = (same_counters is.1, (is.0, same_others is.1))
  keeps_action action.Verify request reply no_counts is = (same_counters is.1, (is.0, same_others is.1))
  keeps_action action.Assemble request reply no_counts is = (same_counters is.1, (is.0, same_others is.1))
  keeps_action action.Disassemble request reply no_counts is = (same_counters is.1, (is.0, same_others is.1))
  keeps_action action.Extract request reply no_counts is = (same_counters is.1, (is.0, same_others is.1))
  keeps_action action.Explain request reply no_counts is = (same_counters is.1, (is.0, same_others is.1))
  keeps_action action.Select request reply no_counts is = (same_counters is.1, (is.0, same_others is.1))
  keeps_action action.Compile request reply no_counts is = (same_counters is.1, (is.0, same_others is.1))
  keeps_action action.Geocode request reply no_counts is = (same_counters is.1, (is.0, same_others is.1))
  keeps_action action.GeocodeBatch request reply no_counts is = (same_counters is.1, (is.0, same_others is.1))
  keeps_action action.List request reply no_counts is = (same_counters is.1, (is.0, same_others is.1))

  keeps_decision : (decision : DecisionParts) (reply : ReplyParts)
      → ((request : RoutedParts) → decision ≡ Accepts request → request.action ≡ action.Metrics → ⊥) → Answers old decision reply new
      → Keeps (λ old new. Answers old decision reply new) counters old new
  keeps_decision (Accepts request) reply no_counts is = keeps_action request.action request reply (no_counts request refl) is
  keeps_decision decision reply no_counts is = (same_counters is.1, (is.0, same_others is.1))

  pub keeps_counters : (input : List ℕ) (request_read : RequestRead) (reply : ReplyParts) → (RequestsCounts input → ⊥)
      → Replies input request_read old reply new → Keeps (λ old new. Replies input request_read old reply new) counters old new
  keeps_counters input request_read reply no_counts (inl (decision, decided, read, answers)) =
      let kept = keeps_decision decision reply
      (λ request is counts. no_counts (request, subst (λ decision. IsDecided input decision) is decided, counts)) answers in
      (kept.0, inl (decision, decided, read, kept.1))
  keeps_counters input request_read reply no_counts (inr (announced, some, read, is_reply, same)) =
      (same_counters same, inr (announced, some, read, is_reply, same_others same))
