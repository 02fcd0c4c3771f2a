-- The statuses of replies (RFC 9110, section 15), one row per status.
use Rattle.std.specs.Prelude.{ℕ, List, [], ◌∷◌, codes}
use Rattle.http_message.specs.declared.status.Status.{Status}
use Rattle.http_message.specs.declared.status.Status.TheVariants.{Ok, BadRequest, NotFound, MethodNotAllowed, LengthRequired, PayloadTooLarge, UnprocessableEntity, ServiceUnavailable}

-- all statuses, in the order of their numbers
abbrev pub statuses : List Status
statuses =
    Ok ∷ BadRequest ∷ NotFound ∷ MethodNotAllowed ∷ LengthRequired ∷ PayloadTooLarge ∷ UnprocessableEntity ∷ ServiceUnavailable ∷ []

abbrev pub number : Status → ℕ
number Ok = 200
number BadRequest = 400
number NotFound = 404
number MethodNotAllowed = 405
number LengthRequired = 411
number PayloadTooLarge = 413
number UnprocessableEntity = 422
number ServiceUnavailable = 503

abbrev pub phrase : Status → List ℕ
phrase Ok = codes "OK"
phrase BadRequest = codes "Bad Request"
phrase NotFound = codes "Not Found"
phrase MethodNotAllowed = codes "Method Not Allowed"
phrase LengthRequired = codes "Length Required"
phrase PayloadTooLarge = codes "Payload Too Large"
phrase UnprocessableEntity = codes "Unprocessable Entity"
phrase ServiceUnavailable = codes "Service Unavailable"

-- the default body of a reply with this status
abbrev pub text : Status → List ℕ
text BadRequest = codes "bad request\n"
text NotFound = codes "not found\n"
text MethodNotAllowed = codes "method not allowed\n"
text LengthRequired = codes "length required\n"
text PayloadTooLarge = codes "too large\n"
text status = []
