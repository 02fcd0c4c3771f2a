-- Heads at the start of an input: bytes that follow don't change a head, and there is at most one.
use Rattle.std.proofs.Common.{◌≡◌, ℕ, ◌<◌, List, [], ◌∷◌, ◌++◌, inl, refl, length, length-append, ap, ◌∙◌, sym, arith}
use Rattle.std.proofs.lemmas.List.{append-nil}
use Rattle.std.proofs.lemmas.List.Elements.{All-cons, All-nil}
use Rattle.std.proofs.lemmas.List.Sums.{AllPass-from_list_all}
use Rattle.std.proofs.lemmas.Str.Ascii.{IsAscii-from_all}
use Rattle.std.proofs.lemmas.Str.{IsUtf8-from_ascii}
use Rattle.httparse.specs.Grammar.{HasNoRequest, IsField, IsRequestHead, MayBecomeRequest, RequestHead}
use Rattle.httparse.specs.Grammar.{is_token_byte, is_uri_byte, lf, print_blank, print_end, print_request, print_section, print_version}
use Rattle.httparse.proofs.GrammarLemmas.{ReadsRequest-append, print_request-append, request_unique}
use Rattle.http_message.specs.Head.{Head, HasHead, head_of}

-- bytes that follow are appended to the rest
pub HasHead-append : (input more : List ℕ) (head : Head) (rest : List ℕ) → HasHead input head rest
    → HasHead (input ++ more) head (rest ++ more)
HasHead-append input more head rest has = record {
  tree = has.tree;
  reads = ReadsRequest-append input has.tree rest more has.reads;
  short = has.short;
  few = has.few;
  parts = has.parts;
}

-- an input has at most one head, followed by one rest
pub HasHead-unique : (input : List ℕ) (a b : Head) (r s : List ℕ) → HasHead input a r → HasHead input b s → (a ≡ b) × (r ≡ s)
HasHead-unique input a b r s first second =
    let same = request_unique input first.tree second.tree r s first.reads second.reads in
    (first.parts ∙ ap head_of same.0 ∙ sym second.parts, same.1)

-- an empty input has no head
pub empty-HasNoRequest : HasNoRequest []
empty-HasNoRequest tree rest reads =
    let after = tree.target ++ 32 ∷ (print_version tree.minor ++ (print_end tree.line_end ++ (print_section tree.fields tree.last ++ rest)))
    in
    let printed = reads.1 ∙ print_request-append tree rest in
    absurd (omega (
      arith,
      ap length printed,
      length-append (print_blank tree.blank) (tree.method ++ 32 ∷ after),
      length-append tree.method (32 ∷ after),
    ))

-- "GET / HTTP/1.1" and an empty line
abbrev some_head : RequestHead
some_head = record { blank = []; method = 71 ∷ 69 ∷ 84 ∷ []; target = 47 ∷ []; minor = 1; line_end = lf; fields = []; last = lf }

some_head-valid : IsRequestHead some_head
unfolding is_token_byte
some_head-valid = record {
  method = (omega arith, AllPass-from_list_all is_token_byte (71 ∷ 69 ∷ 84 ∷ []) refl);
  target = (omega arith, AllPass-from_list_all is_uri_byte (47 ∷ []) refl);
  target_text = IsUtf8-from_ascii (47 ∷ []) (IsAscii-from_all (47 ∷ []) (All-cons (λ b. b < 128) 47 [] (omega arith) (All-nil _)));
  minor = omega arith;
  fields = All-nil IsField;
}

-- an empty input may become a head
pub empty-MayBecomeRequest : MayBecomeRequest []
empty-MayBecomeRequest = inl (print_request some_head, some_head, (some_head-valid, sym (append-nil (print_request some_head))))

-- an input with a head isn't empty
pub HasHead-some : (input : List ℕ) (head : Head) (rest : List ℕ) → HasHead input head rest → 0 < length input
HasHead-some [] head rest has = absurd (empty-HasNoRequest has.tree rest has.reads)
HasHead-some (byte ∷ bytes) head rest has = omega arith
