-- The rounds of a server, one per connection.
use Rattle.std.specs.Prelude.{◌≡◌, None}
use Rattle.std.specs.declared.io.Error.{Error}
use Rattle.tcp_server.specs.Acceptor.{Accepts, AcceptsConnection, FailsToAccept}
use Rattle.tcp_server.specs.Closing.{Closes, Closing}
use Rattle.tcp_server.specs.Repeats.{HasRepeated}
use Rattle.tcp_server.specs.Service.{Client, Serves, ServesClient}
use Rattle.tcp_server.specs.declared.acceptor.Acceptor.{Acceptor}
use Rattle.tcp_server.specs.declared.acceptor.Connection.{Connection}
use Rattle.tcp_server.specs.declared.limits.Limits.{Limits}
use Rattle.tcp_server.specs.declared.service.Close.{Close}

-- a service, with the socket of the client that it serves
pub record Serving (H S : Type 0) : Type 0 where
  pub socket : H
  pub service : S

-- a client was served once, and then closed as the service wants
pub record ServesAndCloses {H T S : Type 0} (serves : Serves S) (closing : Closing H T) (client : Client) (limits : Limits)
    (old new : Serving H S) : Type 0 where
  pub close : Close
  pub serves_client : ServesClient serves client limits close old.service new.service
  pub closes : Closes closing close old.socket new.socket

-- how the server's listener accepts, how its service serves and makes turns, and its limits
pub record Rules (L C S : Type 0) : Type 1 where
  pub accepts : Accepts L C
  pub serves : Serves S
  pub turns : S → S → Type 0
  pub limits : Limits

-- an acceptor and a service
pub record Server (L S : Type 0) : Type 0 where
  pub acceptor : Acceptor L
  pub service : S

-- the client of a TCP connection, about whose bytes nothing is known
abbrev pub client_of : {C : Type 0} → Connection C → Client
client_of connection = record { connection = connection.number; peer = connection.peer; left = None; held = None }

-- the listener's next connection was accepted and served once, then one turn was made
pub record IsRound {L C S : Type 0} (rules : Rules L C S) (old new : Server L S) : Type 0 where
  pub connection : Connection C
  pub accepts : AcceptsConnection rules.accepts connection old.acceptor new.acceptor
  pub close : Close
  pub served : S
  pub serves_client : ServesClient rules.serves (client_of connection) rules.limits close old.service served
  pub makes_turn : rules.turns served new.service

-- no connection was accepted, and nothing was served
pub record HasEnded {L C S : Type 0} (rules : Rules L C S) (error : Error) (old new : Server L S) : Type 0 where
  pub fails : FailsToAccept rules.accepts error old.acceptor new.acceptor
  pub service : new.service ≡ old.service

-- rounds until an accept failed
pub record ServesUntilFailure {L C S : Type 0} (rules : Rules L C S) (error : Error) (old new : Server L S) : Type 0 where
  pub now : Server L S
  pub rounds : HasRepeated (IsRound rules) old now
  pub ended : HasEnded rules error now new
