-- The request target (RFC 9112, section 3.2), split into path and query (RFC 3986, section 3), and the job ids in paths.
use Rattle.std.specs.Prelude.{ℕ, Bool, ◌==◌, ◌^◌, ◌&&◌, nat_le, nat_lt, if◌then◌else◌, List, length, drop, codes, Option, Some, None, nat_eq}
use Rattle.std.specs.Char.{is_ascii_digit}
use Rattle.std.specs.List.{after_first, before_first, list_all, starts_with}
use Rattle.std.specs.Str.Parse.{digits_value}

abbrev pub is_question_mark : ℕ → Bool
is_question_mark byte = byte == 63

-- the part before the first question mark, or the complete target if there is none
abbrev pub path_of : List ℕ → List ℕ
path_of target = before_first is_question_mark target

-- the part after the first question mark, or nothing if there is none
abbrev pub query_of : List ℕ → List ℕ
query_of target = after_first is_question_mark target

-- an id consists of 1 to 20 digits and is a number below 2^64
abbrev pub is_id : List ℕ → Bool
is_id text = nat_le 1 (length text) && nat_le (length text) 20 && list_all is_ascii_digit text && nat_lt (digits_value 10 text) (2 ^ 64)

abbrev pub id_of : List ℕ → Option ℕ
id_of text = if is_id text then Some (digits_value 10 text) else None

-- the id after `/jobs/`
abbrev pub job_id : List ℕ → Option ℕ
job_id path = if starts_with nat_eq path (codes "/jobs/") then id_of (drop 6 path) else None
