-- The rounds of a server over the program's service are replies, their counts, and turns.
use Rattle.std.proofs.Common.{◌≡◌, ℕ, zero, suc, List, [], ◌∷◌, Option, Some, None, ap, subst}
use Rattle.std.specs.Prelude.{Result, Ok, Err}
use Rattle.counted_io.specs.declared.writing.WriteFault.{WriteFault}
use Rattle.http_service.specs.Logged.{LogRules, ServesLogged, TurnsLogged}
use Rattle.http_service.specs.declared.logged.Logged.{Logged}
use Rattle.jobs.specs.declared.event.Reply.{Reply as JobReply}
use Rattle.tcp_server.specs.Acceptor.{Accepts}
use Rattle.tcp_server.specs.Repeats.{HasRepeated, Repeats}
use Rattle.tcp_server.specs.Rounds.{IsRound, Rules, Server}
use Rattle.tcp_server.specs.Tally.{ServesTallied, Tallied, TurnsTallied}
use Rattle.tcp_server.specs.declared.limits.Limits.{Limits}
use Rattle.wire.specs.Counting.{counted}
use Rattle.wire.specs.Event.{Act, AreActs, Counted, Replied, Rested, Turned}
use Rattle.wire.specs.Serving.{Connection, IsReplied, IsServed}
use Rattle.wire.specs.State.{StateParts}
use Rattle.wire.specs.Turn.{MakesTurn}
use Rattle.wire.specs.declared.decision.RequestRead.{RequestRead}
use Rattle.wire.specs.declared.fault.WireFault.{WireFault}
use Rattle.wire.specs.declared.fault.WireFault.TheVariants.{Closed, Read, Write, WriteZero}
use Rattle.wire.specs.declared.summary.Summary.{Summary}

-- the acts from one state to the other
abbrev LeadsTo : StateParts → StateParts → Type 0
LeadsTo old new = (acts : List Act) × AreActs old acts new

after_turn : (old now new : StateParts) (reply : Option JobReply) → MakesTurn old reply now → LeadsTo now new → LeadsTo old new
after_turn old now new None turn leads = (Rested ∷ leads.0, (now, turn, leads.1))
after_turn old now new (Some reply) turn leads = (Turned turn.0 reply ∷ leads.0, (now, turn.1, leads.1))

after_count : (summary : Summary) (old now new : StateParts) → now ≡ counted summary old → LeadsTo now new → LeadsTo old new
after_count summary old now new counts leads = (Counted summary ∷ leads.0, (now, counts, leads.1))

module _ (old now : Connection) (new : StateParts) (leads : LeadsTo now.state new) where
  after_reply : (request_read : RequestRead) (written : Result (Unit {0}) WriteFault) → IsReplied request_read written old now → LeadsTo old.state new
  after_reply request_read written is = (Replied is.input is.reply ∷ leads.0, (now.state, (request_read, is.replies), leads.1))

  after_serving : (result : Result RequestRead WireFault) → IsServed result old now → LeadsTo old.state new
  after_serving (Ok done) is = after_reply is.0 _ is.1
  after_serving (Err Write) is = after_reply is.0 _ is.1
  after_serving (Err WriteZero) is = after_reply is.0 _ is.1
  after_serving (Err Closed) is = subst (λ state. LeadsTo state new) is.0.state leads
  after_serving (Err Read) is = subst (λ state. LeadsTo state new) is.0.state leads

module _ {L C A W T : Type 0} (accepts : Accepts L C) (limits : Limits) (log : LogRules W T) where
  -- the rules of a server over the program's service
  abbrev rules : Rules L C (Tallied (Logged A W T))
  rules = record { accepts = accepts; serves = ServesTallied (ServesLogged log); turns = TurnsTallied TurnsLogged; limits = limits }

  all_are_acts : (count : ℕ) (old new : Server L (Tallied (Logged A W T))) → Repeats (IsRound rules) count old new
      → LeadsTo old.service.service.state new.service.service.state
  all_are_acts zero old new same = ([], ap (λ (server : Server L (Tallied (Logged A W T))). server.service.service.state) same)
  all_are_acts (suc count) old new (now, round, rounds) =
      let turn = round.makes_turn.makes_turn.has_turned in
      let served = round.serves_client.serves_client.serves_client.has_served in
      after_serving _ _ new.service.service.state
      (after_count served.summary served.answered round.served.service.state new.service.service.state served.counts
      (after_turn round.served.service.state now.service.service.state new.service.service.state turn.0 turn.1
      (all_are_acts count now new rounds)))
      served.result served.is_served

  pub rounds_are_acts : (old new : Server L (Tallied (Logged A W T))) → HasRepeated (IsRound rules) old new
      → (acts : List Act) × AreActs old.service.service.state acts new.service.service.state
  rounds_are_acts old new rounds = all_are_acts rounds.count old new rounds.steps
