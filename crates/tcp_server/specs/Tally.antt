-- A service that counts its work.
use Rattle.std.specs.Prelude.{◌≡◌, ℕ, refl}
use Rattle.std.specs.Coded.{Coded, code_by, coded×, coded_ℕ}
use Rattle.counted_io.specs.Counting.{next_count}
use Rattle.tcp_server.specs.Service.{ClientStreams, Serves}
use Rattle.tcp_server.specs.declared.service.Close.{Close}

-- a service, the number of connections that it served, and the number of turns that it made, both modulo 2^64
pub record Tallied (S : Type 0) : Type 0 where
  pub service : S
  pub served : ℕ
  pub turns : ℕ

abbrev pub tallied_code : {S : Type 0} → Coded S → Coded (Tallied S)
tallied_code {S} code =
    code_by (S × (ℕ × ℕ)) (coded× code (coded× coded_ℕ coded_ℕ))
    (λ t. (t.service, (t.served, t.turns))) (λ p. record { service = p.0; served = p.1.0; turns = p.1.1 }) (λ _. refl)

-- the service served a client, which counts as one
pub record ServesTallied {S : Type 0} (serves : Serves S) (old : Tallied S) (streams : ClientStreams) (close : Close) (new : Tallied S)
    (new_streams : ClientStreams) : Type 0 where
  pub serves_client : serves old.service streams close new.service new_streams
  pub served : new.served ≡ next_count old.served
  pub turns : new.turns ≡ old.turns

-- the service made a turn, which counts as one
pub record TurnsTallied {S : Type 0} (turns : S → S → Type 0) (old new : Tallied S) : Type 0 where
  pub makes_turn : turns old.service new.service
  pub served : new.served ≡ old.served
  pub turns_made : new.turns ≡ next_count old.turns
