-- Serving at an address.
use Rattle.std.specs.Prelude.{◌≡◌, ◌≢◌, ℕ, List, ◌++◌, codes, Option, Result, Ok, Err}
use Rattle.std.specs.Io.KnownBytes.{Appends}
use Rattle.std.specs.Net.Socket.{socket_port}
use Rattle.std.specs.Net.Text.{socket_text}
use Rattle.std.specs.declared.io.Error.{Error}
use Rattle.std.specs.declared.net.socket_addr.SocketAddr.{SocketAddr}
use Rattle.tcp_server.specs.Acceptor.{Accepts}
use Rattle.tcp_server.specs.Limits.{IsStandard}
use Rattle.tcp_server.specs.Rounds.{Server, ServesUntilFailure}
use Rattle.tcp_server.specs.Service.{Serves}
use Rattle.tcp_server.specs.Tally.{Tallied}
use Rattle.tcp_server.specs.declared.limits.Limits.{Limits}
use Rattle.extractd.specs.declared.serving.listening.ListenFault.{ListenFault}
use Rattle.extractd.specs.declared.serving.listening.ListenFault.TheVariants.{Bind, Port, Output, Accept}

-- what `bind` does: the network before it, the address, the result, and the network after it
abbrev pub Binds : Type 0 → Type 0 → Type 1
Binds N L = N → SocketAddr → Result L Error → N → Type 0

-- what `local_address` does: the listener, and the result
abbrev pub Locates : Type 0 → Type 1
Locates L = L → Result SocketAddr Error → Type 0

-- where the listener of an address listens: at the address itself, or as the system tells if it chose the port
abbrev pub IsLocalAddress : {L : Type 0} → Locates L → SocketAddr → L → SocketAddr → Type 0
IsLocalAddress locates address listener local =
    (socket_port address ≡ 0 → locates listener (Ok local)) × (socket_port address ≢ 0 → local ≡ address)

-- the line that says where the server listens
abbrev pub announcement : SocketAddr → List ℕ
announcement address = codes "listening " ++ socket_text address ++ codes "\n"

-- how a network binds and tells addresses, its listeners accept, and a service serves and makes turns
pub record ListenRules (N L C S : Type 0) : Type 1 where
  pub binds : Binds N L
  pub locates : Locates L
  pub accepts : Accepts L C
  pub serves : Serves (Tallied S)
  pub turns : Tallied S → Tallied S → Type 0

-- a network, and the bytes that the output holds, if they are known
pub record Outside (N : Type 0) : Type 0 where
  pub network : N
  pub held : Option (List ℕ)

-- the server, as it starts
abbrev pub start : {L S : Type 0} → L → S → Server L (Tallied S)
start listener service = record {
  acceptor = record { listener = listener; attempts = 0 };
  service = record { service = service; served = 0; turns = 0 };
}

-- this listener's connections were served, within the program's limits, until an accept failed
pub record ServesListener {N L C S : Type 0} (rules : ListenRules N L C S) (error : Error) (listener : L) (service : S) : Type 0 where
  pub limits : Limits
  pub standard : IsStandard limits
  pub new : Server L (Tallied S)
  pub serves_all : ServesUntilFailure (record { accepts = rules.accepts; serves = rules.serves; turns = rules.turns; limits = limits }) error
      (start listener service) new

-- the address was bound, announced and served
pub record ServesBound {N L C S : Type 0} (rules : ListenRules N L C S) (address : SocketAddr) (error : Error) (old : Outside N) (service : S)
    (new : Outside N) : Type 0 where
  pub listener : L
  pub binds : rules.binds old.network address (Ok listener) new.network
  pub local : SocketAddr
  pub is_local : IsLocalAddress rules.locates address listener local
  pub announces : Appends old.held new.held (announcement local)
  pub serves_listener : ServesListener rules error listener service

-- the address was bound, but the system didn't tell the port that it chose; nothing was announced
pub record BindsUnknownPort {N L C S : Type 0} (rules : ListenRules N L C S) (address : SocketAddr) (error : Error) (old new : Outside N) : Type 0 where
  pub listener : L
  pub binds : rules.binds old.network address (Ok listener) new.network
  pub chosen : socket_port address ≡ 0
  pub unknown : rules.locates listener (Err error)
  pub silent : new.held ≡ old.held

-- the address was bound, but nothing was served
pub record BindsInVain {N L C S : Type 0} (rules : ListenRules N L C S) (address : SocketAddr) (old new : Outside N) : Type 0 where
  pub listener : L
  pub binds : rules.binds old.network address (Ok listener) new.network

-- How serving at an address ends: it can't be bound, and then nothing is announced; or its port is unknown, or it can't be announced; or an accept fails.
abbrev pub ServesAddress : {N L C S : Type 0} → ListenRules N L C S → SocketAddr → ListenFault → Outside N → S → Outside N → Type 0
ServesAddress rules address (Bind error) old service new =
    rules.binds old.network address (Err error) new.network × (new.held ≡ old.held)
ServesAddress rules address (Port error) old service new = BindsUnknownPort rules address error old new
ServesAddress rules address (Output error) old service new = BindsInVain rules address old new
ServesAddress rules address (Accept error) old service new = ServesBound rules address error old service new
