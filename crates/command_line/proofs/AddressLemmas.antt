-- The IP address at which a server listens.
use Rattle.std.proofs.Common.{◌≡◌, ℕ, [], ◌∷◌, List, codes, lit<, refl, subst}
use Rattle.std.proofs.lemmas.Fmt.{decimal_digit}
use Rattle.std.proofs.NetLemmas.Theorems.{IsIpText_unique}
use Rattle.std.specs.Net.Grammar.{IsIpText}
use Rattle.std.specs.declared.net.ip_addr.IpAddr.{IpAddr}
use Rattle.std.specs.declared.net.ip_addr.IpAddr.TheVariants.{V4}
use Rattle.std.specs.declared.net.ipv4_addr.Ipv4Addr.{Ipv4Addr}
use Rattle.clap.specs.Walk.{Row}
use Rattle.command_line.specs.Address.{IsHost, IsHostFault, IsLoopback}
use Rattle.command_line.specs.declared.fault.ArgumentsFault.{ArgumentsFault}
use Rattle.command_line.specs.declared.fault.ArgumentsFault.TheVariants.{Host, NotLoopback}

-- a fault of the address means that the options give none
pub no_host : (rows : List Row) (fault : ArgumentsFault) → IsHostFault rows fault → (host : IpAddr) → IsHost rows host → ⊥
no_host rows (Host text) is host given = is.1 host given.spelled
no_host rows (NotLoopback text) is host given =
    is.4 (subst IsLoopback (IsIpText_unique _ host is.2 given.spelled is.3) (given.loopback is.1))
no_host rows fault is host given = absurd is

abbrev any_address : Ipv4Addr
any_address = record { octets = 0 ∷ 0 ∷ 0 ∷ 0 ∷ [] }

any_address_text : IsIpText (codes "0.0.0.0") (V4 any_address)
any_address_text = record {
  a = 0;
  b = 0;
  c = 0;
  d = 0;
  fit = (lit< tt, lit< tt, lit< tt, lit< tt);
  value = refl;
  spelled = rw (decimal_digit 0 (lit< tt)) refl;
}

-- 0.0.0.0 is no loopback address
pub any_address_is_public : (host : IpAddr) → IsIpText (codes "0.0.0.0") host → IsLoopback host → ⊥
any_address_is_public host spelled loopback =
    let zero : IsLoopback (V4 any_address) = subst IsLoopback (IsIpText_unique _ host (V4 any_address) spelled any_address_text) loopback in
    let bad : ◌≡◌ {A = List ℕ} (0 ∷ []) (127 ∷ []) = zero in cc
