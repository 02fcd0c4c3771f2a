-- Replies (RFC 9112, sections 2, 4, 5 and 6), as the bytes to write.
use Rattle.std.specs.Prelude.{ℕ, List, [], ◌++◌, length, codes, decimal, Option, Some, None, option_map}
use Rattle.http_message.specs.Status.{number, phrase}
use Rattle.http_message.specs.declared.status.Status.{Status}
use Rattle.http_message.specs.declared.reply.MediaType.{MediaType}
use Rattle.http_message.specs.declared.reply.MediaType.TheVariants.{Plain, Octets, Csv, Features, Metrics}
use Rattle.http_message.specs.declared.reply.Reply.{Reply}

-- a reply: its status, its body's media type, the methods that are allowed if another one was used, and the body
pub record ReplyParts : Type 0 where
  pub status : Status
  pub media : MediaType
  pub allow : Option (List ℕ)
  pub body : List ℕ

-- the parts of a reply that borrows its body
abbrev pub parts_of : Reply → ReplyParts
parts_of reply = record {
  status = reply.status;
  media = reply.media;
  allow = option_map (λ methods. methods.now) reply.allow;
  body = reply.lead.items ++ reply.rest.now;
}

abbrev pub media_type : MediaType → List ℕ
media_type Plain = codes "text/plain"
media_type Octets = codes "application/octet-stream"
media_type Csv = codes "text/csv"
media_type Features = codes "application/geo+json-seq"
media_type Metrics = codes "text/plain; version=0.0.4"

-- the first line
abbrev pub status_line : Status → List ℕ
status_line status = codes "HTTP/1.1 " ++ decimal (number status) ++ codes " " ++ phrase status ++ codes "\r\n"

-- a header's line
abbrev pub header : List ℕ → List ℕ → List ℕ
header name value = name ++ codes ": " ++ value ++ codes "\r\n"

-- the methods that are allowed, if they are given
abbrev pub allow_header : Option (List ℕ) → List ℕ
allow_header None = []
allow_header (Some methods) = header (codes "Allow") methods

-- the status line, the headers, one of which gives the body's length, and an empty line
abbrev pub head : ReplyParts → List ℕ
head reply =
    status_line reply.status
    ++ header (codes "Content-Type") (media_type reply.media)
    ++ header (codes "Content-Length") (decimal (length reply.body))
    ++ header (codes "Connection") (codes "close")
    ++ allow_header reply.allow
    ++ codes "\r\n"

-- the head and the body
abbrev pub reply_text : ReplyParts → List ℕ
reply_text reply = head reply ++ reply.body
