-- Lines of the log. They begin as in the Common Log Format: the client's address, two dashes for its identity and its user, the date, the request in
-- quotation marks, the status, and the length of the reply's body. The number of bytes read and the time in microseconds follow.
use Rattle.std.specs.Prelude.{ℕ, ◌/◌, ◌%◌, List, [], ◌∷◌, ◌++◌, codes, decimal, Option, Some, None, option_map}
use Rattle.std.specs.Char.{digit_char}
use Rattle.std.specs.Net.Addr.{ipv4_octets, ipv6_segments}
use Rattle.std.specs.Net.Text.{ipv4_text}
use Rattle.std.specs.declared.net.ip_addr.IpAddr.{IpAddr}
use Rattle.std.specs.declared.net.ip_addr.IpAddr.TheVariants.{V4, V6}
use Rattle.httpdate.specs.Text.{four_digits, month_name, time_of_day, two_digits}
use Rattle.httpdate.specs.declared.date.HttpDate.{HttpDate}
use Rattle.http_message.specs.Status.{number as status_number}
use Rattle.http_message.specs.Routes.{row, verb_name}
use Rattle.http_message.specs.declared.route.Route.{Route}
use Rattle.http_message.specs.declared.route.Verb.{Verb}
use Rattle.http_service.specs.declared.entry.Entry.{Entry}
use Rattle.http_service.specs.declared.entry.EntrySubject.{EntrySubject}
use Rattle.http_service.specs.declared.entry.EntrySubject.TheVariants.{Start, FailedAccept, Request}

-- a number, or a dash if it isn't known
abbrev pub number : Option ℕ → List ℕ
number None = codes "-"
number (Some n) = decimal n

-- a group of an IPv6 address: four hexadecimal digits
abbrev pub group : ℕ → List ℕ
group n = digit_char (n / 0x1000) ∷ digit_char (n / 0x100 % 16) ∷ digit_char (n / 0x10 % 16) ∷ digit_char (n % 16) ∷ []

-- groups, each after a colon
abbrev pub groups : List ℕ → List ℕ
groups [] = []
groups (n ∷ rest) = codes ":" ++ group n ++ groups rest

-- all groups of an IPv6 address (RFC 4291, section 2.2, form 1)
abbrev pub ipv6 : List ℕ → List ℕ
ipv6 [] = []
ipv6 (n ∷ rest) = group n ++ groups rest

-- the address of the client
abbrev pub host : Option IpAddr → List ℕ
host None = codes "-"
host (Some (V4 address)) = ipv4_text (ipv4_octets address)
host (Some (V6 address)) = ipv6 (ipv6_segments address)

-- a date, in UTC: `30/Nov/2026:11:39:00 +0000`
abbrev pub date_and_time : HttpDate → List ℕ
date_and_time d =
    two_digits d.parts.day ++ codes "/" ++ month_name d.parts.mon ++ codes "/" ++ four_digits d.parts.year ++ codes ":" ++ time_of_day d.parts
    ++ codes " +0000"

abbrev pub date : Option HttpDate → List ℕ
date None = codes "-"
date (Some d) = date_and_time d

abbrev pub method : Option Verb → List ℕ
method None = codes "-"
method (Some verb) = verb_name verb

-- the path of a route, with the name in braces for the id of a job
abbrev pub path : Option Route → List ℕ
path None = codes "-"
path (Some route) = (row route).path

-- what the line is about; for a request its request line, with the version of every reply
abbrev pub subject : EntrySubject → List ℕ
subject Start = codes "start"
subject FailedAccept = codes "accept failed"
subject (Request None None) = codes "-"
subject (Request verb route) = method verb ++ codes " " ++ path route ++ codes " HTTP/1.1"

-- a number after a blank
abbrev pub field : Option ℕ → List ℕ
field value = codes " " ++ number value

abbrev pub line : Entry → List ℕ
line entry =
    host entry.peer ++ codes " - - [" ++ date entry.date ++ codes "] \"" ++ subject entry.subject ++ codes "\""
    ++ field (option_map status_number entry.status) ++ field entry.length ++ field entry.received ++ field entry.micros ++ codes "\n"
