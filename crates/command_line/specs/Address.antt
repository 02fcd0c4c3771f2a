-- Where `serve` listens.
use Rattle.std.specs.Prelude.{◌≡◌, ◌⊎◌, ℕ, Bool, true, false, List, codes, Option, Some, None, is_some, unwrap_or}
use Rattle.std.specs.Net.Addr.{IsLoopbackV4, IsLoopbackV6, MatchIp}
use Rattle.std.specs.Net.Grammar.{IsIpText}
use Rattle.std.specs.Net.Socket.{socket_flowinfo, socket_ip, socket_port, socket_scope_id}
use Rattle.std.specs.declared.net.ip_addr.IpAddr.{IpAddr}
use Rattle.std.specs.declared.net.socket_addr.SocketAddr.{SocketAddr}
use Rattle.clap.specs.Walk.{Row, Text, first_of}
use Rattle.command_line.specs.Values.{flag_of, port_in}
use Rattle.command_line.specs.declared.fault.ArgumentsFault.{ArgumentsFault}
use Rattle.command_line.specs.declared.fault.ArgumentsFault.TheVariants as fault

-- an address of this machine alone: 127.0.0.0/8 (RFC 1122, section 3.2.1.3) or ::1 (RFC 4291, section 2.5.3)
abbrev pub IsLoopback : IpAddr → Type 0
IsLoopback host = MatchIp host IsLoopbackV4 IsLoopbackV6

abbrev pub is_public : List Row → Bool
is_public rows = flag_of (codes "public") rows

-- the text of the IP address: 127.0.0.1, unless an option gives another one
abbrev pub host_of : List Row → Text
host_of rows = unwrap_or (first_of (codes "host") rows) (codes "127.0.0.1")

-- the IP address; without `--public` it is of this machine alone
pub record IsHost (rows : List Row) (host : IpAddr) : Type 0 where
  pub spelled : IsIpText (host_of rows) host
  pub loopback : is_public rows ≡ false → IsLoopback host

-- Why there is no IP address: the text spells none, or one that needs `--public`.
abbrev pub IsHostFault : List Row → ArgumentsFault → Type 0
IsHostFault rows (fault.Host text) = (text.now ≡ host_of rows) × ((host : IpAddr) → IsIpText (host_of rows) host → ⊥)
IsHostFault rows (fault.NotLoopback text) =
    (text.now ≡ host_of rows) × (is_public rows ≡ false) × (host : IpAddr) × IsIpText (host_of rows) host × (IsLoopback host → ⊥)
IsHostFault rows _ = ⊥

abbrev pub is_any_port : List Row → Bool
is_any_port rows = flag_of (codes "any-port") rows

-- the port to bind, by whether there is `--any-port`, and the value of `--port`: one of them is given; 0 takes a free port
abbrev pub chosen_port : Bool → Option Text → Option ℕ
chosen_port true None = Some 0
chosen_port false (Some text) = port_in text
chosen_port any port = None

abbrev pub port_of : List Row → Option ℕ
port_of rows = chosen_port (is_any_port rows) (first_of (codes "port") rows)

-- Why there is no port: neither option is given, or both are, or the text is no port.
abbrev pub IsPortFault : List Row → ArgumentsFault → Type 0
IsPortFault rows (fault.Missing name) = (is_any_port rows ≡ false) × (first_of (codes "port") rows ≡ None)
IsPortFault rows fault.TwoPorts = (is_any_port rows ≡ true) × (is_some (first_of (codes "port") rows) ≡ true)
IsPortFault rows (fault.Port text) =
    (is_any_port rows ≡ false) × (first_of (codes "port") rows ≡ Some text.now) × (port_in text.now ≡ None)
IsPortFault rows _ = ⊥

-- the address that the options give
pub record IsAddress (rows : List Row) (address : SocketAddr) : Type 0 where
  pub host : IsHost rows (socket_ip address)
  pub port : port_of rows ≡ Some (socket_port address)
  pub no_flow : socket_flowinfo address ≡ 0
  pub no_scope : socket_scope_id address ≡ 0

abbrev pub IsAddressFault : List Row → ArgumentsFault → Type 0
IsAddressFault rows fault = IsHostFault rows fault ⊎ IsPortFault rows fault
