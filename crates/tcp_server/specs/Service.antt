-- The effect of serving a client on a service.
use Rattle.std.specs.Prelude.{ℕ, List, Option, None}
use Rattle.std.specs.Duration.{as_nanos}
use Rattle.std.specs.declared.net.socket_addr.SocketAddr.{SocketAddr}
use Rattle.std.specs.declared.time.Instant.{Instant}
use Rattle.counted_io.specs.ReaderWriter.{Reader, Writer}
use Rattle.tcp_server.specs.declared.limits.Limits.{Limits}
use Rattle.tcp_server.specs.declared.service.Close.{Close}

-- an accepted client: the number of its connection, its address, and the bytes that it has sent and got, if they are known
pub record Client : Type 0 where
  pub connection : ℕ
  pub peer : SocketAddr
  pub left : Option (List ℕ)
  pub held : Option (List ℕ)

-- a client's reader and writer before the first call
abbrev pub fresh_reader : Client → Reader
fresh_reader client = record { left = client.left; failed = 0 }

abbrev pub fresh_writer : Client → Writer
fresh_writer client = record { held = client.held; counts = record { failed = 0; empty = 0; flushes = 0 } }

-- a reader's connection, by its number, and the address of its client; in nanoseconds the longest wait in one read and the limit on all reads; the
-- number of bytes read; and when the first read began
pub record InputTerms : Type 0 where
  pub connection : ℕ
  pub peer : SocketAddr
  pub idle : ℕ
  pub limit : ℕ
  pub received : ℕ
  pub start : Option Instant

-- a writer's connection, by its number; in nanoseconds the limit on a reply of less than a mebibyte; the number of bytes written; and when the
-- first write began
pub record OutputTerms : Type 0 where
  pub connection : ℕ
  pub limit : ℕ
  pub written : ℕ
  pub start : Option Instant

-- their terms: the limits of a request and of a reply
abbrev pub request_terms : Client → Limits → InputTerms
request_terms client limits = record {
  connection = client.connection;
  peer = client.peer;
  idle = as_nanos limits.idle;
  limit = as_nanos limits.request;
  received = 0;
  start = None;
}

abbrev pub reply_terms : Client → Limits → OutputTerms
reply_terms client limits = record { connection = client.connection; limit = as_nanos limits.reply; written = 0; start = None }

-- the reader and the writer of a client's connection
pub record ClientStreams : Type 0 where
  pub reader : Reader
  pub writer : Writer
  pub input : InputTerms
  pub output : OutputTerms

abbrev pub streams_of : Client → Limits → ClientStreams
streams_of client limits = record {
  reader = fresh_reader client;
  writer = fresh_writer client;
  input = request_terms client limits;
  output = reply_terms client limits;
}

-- the effect of serving a client on a service and on both streams, and how to close the connection
abbrev pub Serves : Type 0 → Type 1
Serves S = S → ClientStreams → Close → S → ClientStreams → Type 0

-- a service served this client once, over its own connection and within these limits, and then this was the way to close it
pub record ServesClient {S : Type 0} (serves : Serves S) (client : Client) (limits : Limits) (close : Close) (old new : S) : Type 0 where
  pub new_streams : ClientStreams
  pub serves_client : serves old (streams_of client limits) close new new_streams
