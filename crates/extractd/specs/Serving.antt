-- Serving counties at an address.
use Rattle.std.specs.Prelude.{◌≡◌, ◌≢◌, ℕ, false, List, Option, ⊤}
use Rattle.std.specs.declared.net.socket_addr.SocketAddr.{SocketAddr}
use Rattle.counted_io.specs.ReaderWriter.{Writer}
use Rattle.commands.specs.Counties.{AreCountiesOf, HaveRefusedCounty, IsLoadFailure, IsRefusedFileOfOne}
use Rattle.commands.specs.Failure.{Reports, ReportsOutput}
use Rattle.commands.specs.Failure.{status as status_of}
use Rattle.extractd.specs.Listening.{ListenRules, Outside, ServesAddress}
use Rattle.extractd.specs.declared.serving.ServeFault.{ServeFault}
use Rattle.extractd.specs.declared.serving.ServeFault.TheVariants.{Counties, Listen}
use Rattle.extractd.specs.declared.serving.listening.ListenFault.{ListenFault}
use Rattle.extractd.specs.declared.serving.listening.ListenFault.TheVariants.{Output}
use Rattle.named_files.specs.Files.{Disk, OpenResults}
use Rattle.http_service.specs.Log.{Dates, ReadsSecond}
use Rattle.http_service.specs.declared.logged.Logged.{Logged}
use Rattle.wire.specs.State.{StateParts, counties_of, new_state}

-- the exit status: that of a county that can't be loaded, and 3 otherwise
abbrev pub serve_status : ServeFault → ℕ
serve_status (Counties failure) = status_of failure
serve_status (Listen address fault) = 3

-- the report of a fault, as far as it is known: that a county can't be loaded, or that the output can't be written
abbrev pub ReportsListenFault : ListenFault → Writer → Writer → Type 0
ReportsListenFault (Output error) errors errors' = ReportsOutput errors errors'
ReportsListenFault fault errors errors' = ⊤

abbrev pub ReportsServeFault : ServeFault → Writer → Writer → Type 0
ReportsServeFault (Counties failure) errors errors' = Reports failure errors errors'
ReportsServeFault (Listen address fault) errors errors' = ReportsListenFault fault errors errors'

-- A server ends with the status of its fault, which was reported. It is neither success nor a usage error.
pub record EndsServer (status : ℕ) (errors errors' : Writer) : Type 0 where
  pub fault : ServeFault
  pub is_status : status ≡ serve_status fault
  pub no_success : status ≢ 0
  pub no_usage : status ≢ 2
  pub reported : ReportsServeFault fault errors errors'

-- what is served: a folder, the codes of its counties, and the address; and what is known of the bytes of files
pub record Served : Type 0 where
  pub folder : List ℕ
  pub codes : List (List ℕ)
  pub address : SocketAddr
  pub known : List ℕ → Option (List ℕ)

-- the files, the network and the output
pub record Host (N : Type 0) : Type 0 where
  pub disk : Disk
  pub outside : Outside N

-- the results of opens, a clock with its readings of the date, and how its counties are served
pub record ServeRules (R N L C A W T : Type 0) : Type 1 where
  pub opens : OpenResults R
  pub dates : Dates T
  pub timer : T
  pub listens : ListenRules N L C (Logged A W T)

-- the counties were loaded, one for each code, and served at the address in a state without jobs, with a log and the second that the clock showed
pub record ServesLoaded {R N L C A W T : Type 0} (rules : ServeRules R N L C A W T) (served : Served) (fault : ListenFault) (old new : Outside N)
    : Type 0 where
  pub start : Option ℕ
  pub state : StateParts
  pub without_jobs : state ≡ new_state served.codes (counties_of state) start
  pub loaded : AreCountiesOf false served.known served.folder served.codes (counties_of state)
  pub logged : Logged A W T
  pub over_state : logged.state ≡ state
  pub reads_start : ReadsSecond rules.dates start rules.timer logged.timer
  pub serves_address : ServesAddress rules.listens served.address fault old logged new

-- how serving ends: a county can't be loaded, and then the address isn't bound; or the counties were served until a fault
abbrev pub ServesCounties : {R N L C A W T : Type 0} → ServeRules R N L C A W T → Served → ServeFault → Host N → Host N → Type 0
ServesCounties rules served (Counties failure) old new =
    IsLoadFailure rules.opens (HaveRefusedCounty false served.known served.folder served.codes) (IsRefusedFileOfOne served.folder served.codes)
    old.disk new.disk failure × (new.outside ≡ old.outside)
ServesCounties rules served (Listen address fault) old new = (address ≡ served.address) × ServesLoaded rules served fault old.outside new.outside
