-- Listings, visit by visit.
use Rattle.std.proofs.Common.{◌≡◌, ◌⊎◌, inl, inr, ℕ, suc, ◌+◌, ◌-◌, ◌<◌, ◌≤◌, Bool, List, [], ◌∷◌, ◌++◌, length, get_or, take, drop, refl, sym, ap}
use Rattle.std.proofs.Common.{◌∙◌, arith, rules, drop-cons, length-drop}
use Rattle.std.specs.Prelude.{Option, Some, None, is_some, nat_lt, not, cond, unwrap_or, codes, Err}
use Rattle.std.specs.List.{position, position_or_len}
use Rattle.std.proofs.lemmas.Bool.{cases_lt}
use Rattle.std.proofs.lemmas.List.{take_all, take-map, take_more, take-append-drop}
use Rattle.std.proofs.Common.{map, zero}
use Rattle.std.specs.List.{flat_map}
use Rattle.std.proofs.lemmas.List.Sums.{prefix_len-le-length}
use Rattle.bpf_insn.proofs.PlaceLemmas.{instruction_at-middle, instruction_within}
use Rattle.bpf_insn.specs.Code.{instruction_at, word_count}
use Rattle.bpf_insn.specs.declared.instruction.Insn.{Insn}
use Rattle.bpf_meaning.specs.declared.cause.Cause.{Cause}
use Rattle.bpf_assembler.proofs.WordLemmas.{position-missing}
use Rattle.bpf_verify.proofs.VerdictLemmas.{one_least}
use Rattle.bpf_verify.proofs.VisitLemmas.{visited_all-more, visits_from-more}
use Rattle.bpf_verify.specs.LiftedState.{LiftedState, Unreached, Reached}
use Rattle.bpf_verify.specs.Annotation.{Annotation, IsRefusedAt}
use Rattle.bpf_verify.specs.Transfer.{transfer}
use Rattle.bpf_verify.specs.Visit.{IsShownUpTo, Visit, visit_at, visits_from}
use Rattle.bpf_verify.specs.declared.abstract_state.AbstractState.{AbstractState}
use Rattle.listing_notes.specs.Facts.{note_text, noted, prefix_text}
use Rattle.bpf_explain.specs.Explanation.{ExplainsRefusal}
use Rattle.bpf_explain.specs.Listing.{ListingParts, empty, known_after, lines_after, lines_until, listing, refusal_line, refused_text}
use Rattle.bpf_explain.specs.Listing.{sources_text, visit_text, visited}
use Rattle.listing_lines.specs.SourceLines.{SourceLine, line_of, source_text}
use Rattle.listing_lines.specs.declared.source_lines.PlacedLine.{PlacedLine}

-- the number of lines up to a place, if none is after it
pub count-missing : {X : Type 0} (p : X → Bool) (xs : List X) → None ≡ position p xs → length xs ≡ position_or_len p xs
count-missing p xs missing =
    let least = position-missing p xs (sym missing) in
    let most = prefix_len-le-length (λ x. not (p x)) xs in
    omega arith

-- lines of the program, and lines of the definitions
pub position-map : (p : SourceLine → Bool) (lines : List PlacedLine) → position_or_len (λ line. p (line_of line)) lines ≡ position_or_len p (map line_of lines)
position-map p [] = refl
position-map p (line ∷ lines) = ap (λ (n : ℕ). cond (not (p (line_of line))) (1 + n) 0) (position-map p lines)

pub sources-map : (lines : List PlacedLine) → flat_map (λ line. source_text (line_of line)) lines ≡ sources_text (map line_of lines)
unfolding sources_text
sources-map [] = refl
sources-map (line ∷ lines) = ap (λ (text : List ℕ). source_text (line_of line) ++ text) (sources-map lines)

drop-map : (n : ℕ) (lines : List PlacedLine) → map line_of (drop n lines) ≡ drop n (map line_of lines)
drop-map zero lines = refl
drop-map (suc n) [] = refl
drop-map (suc n) (line ∷ lines) = drop-map n lines

-- the lines up to a place, and those after it
pub until-taken : (lines : List PlacedLine) (count place : ℕ) → count ≡ position_or_len (λ line. nat_lt place line.place) (map line_of lines)
    → sources_text (map line_of (take count lines)) ≡ sources_text (lines_until place (map line_of lines))
unfolding lines_until
until-taken lines count place counted =
    ap sources_text (sym (take-map line_of count lines) ∙ ap (λ (n : ℕ). take n (map line_of lines)) counted)

pub after-dropped : (lines : List PlacedLine) (count place : ℕ) → count ≡ position_or_len (λ line. nat_lt place line.place) (map line_of lines)
    → map line_of (take (length lines - count) (drop count lines)) ≡ lines_after place (map line_of lines)
unfolding lines_after
after-dropped lines count place counted =
    let long = length-drop count lines in
    ap (map line_of) (take_all (length lines - count) (drop count lines) (omega arith)) ∙ drop-map count lines
    ∙ ap (λ (n : ℕ). drop n (map line_of lines)) counted

-- two listings with the same state and instruction are equal if their other parts are
pub same-parts : {known : AbstractState} {insn : Option Insn} {text other : List ℕ} {remaining more : List SourceLine} → text ≡ other → remaining ≡ more
    → ◌≡◌ {A = ListingParts} (record { text = text; known = known; insn = insn; remaining = remaining })
    (record { text = other; known = known; insn = insn; remaining = more })
same-parts texts lines = cc

-- the listing with one more visit
abbrev pub pushed : ListingParts → ℕ → Insn → List ℕ → ListingParts
pushed old place insn note = record {
  text = old.text ++ (sources_text (lines_until place old.remaining) ++ (noted (prefix_text place insn) note ++ codes "\n"));
  known = old.known;
  insn = Some insn;
  remaining = lines_after place old.remaining;
}

with-known : (x y : ListingParts) (known now : AbstractState) → x ≡ y → known ≡ now → record x { known = known } ≡ record y { known = now }
with-known x y known now same knowns =
    ap (λ (k : AbstractState). record x { known = k }) knowns ∙ ap (λ (z : ListingParts). record z { known = now }) same

pub reached-is : (old new : ListingParts) (place : ℕ) (insn : Insn) (known copy : AbstractState)
    → new ≡ pushed old place insn (note_text old.known (Reached known) insn) → copy ≡ known
    → record new { known = copy } ≡ visited old (record { place = place; insn = insn; state = Reached known })
unfolding visit_text
reached-is old new place insn known copy pushes same =
    with-known new (pushed old place insn (note_text old.known (Reached known) insn)) copy known pushes same

-- the instruction at a place comes right after those before the place

pub index-within : (code : List Insn) (index place : ℕ) (insn : Insn) → place ≡ word_count (take index code) → instruction_at code place ≡ Some insn
    → index < length code
index-within code index place insn at insn_is =
    inside (cases_lt index (length code)) (instruction_within code place (ap is_some insn_is))
  where
    inside : (index < length code) ⊎ (length code ≤ index) → place < word_count code → index < length code
    inside (inl within) below = within
    inside (inr beyond) below =
        let whole : word_count (take index code) ≡ word_count code = ap word_count (take_all index code beyond) in absurd (omega arith)

take-one : (code : List Insn) (index place : ℕ) (insn : Insn) → place ≡ word_count (take index code) → instruction_at code place ≡ Some insn
    → take (index + 1) code ≡ take index code ++ insn ∷ []
take-one code index place insn at insn_is =
    let within = index-within code index place insn at insn_is in
    let y : Insn = get_or code index insn in
    let parts : take index code ++ y ∷ drop (suc index) code ≡ code =
    ap (λ (xs : List Insn). take index code ++ xs) (sym (drop-cons code index insn within)) ∙ take-append-drop index code in
    let there : instruction_at code place ≡ Some y =
    ap (instruction_at code) at ∙ ap (λ (c : List Insn). instruction_at c (word_count (take index code))) (sym parts)
    ∙ instruction_at-middle (take index code) y (drop (suc index) code) in
    let same : y ≡ insn = ap (λ (o : Option Insn). unwrap_or o insn) (sym there ∙ insn_is) in
    take_more code index insn within ∙ ap (λ (x : Insn). take index code ++ x ∷ []) same

-- the visits up to the instruction at a place: those before it, and its own
pub visits-last : (annotation : Annotation) (code : List Insn) (index place : ℕ) (insn : Insn) → place ≡ word_count (take index code)
    → instruction_at code place ≡ Some insn
    → visits_from annotation 0 (take (index + 1) code) ≡ visits_from annotation 0 (take index code) ++ visit_at annotation place insn ∷ []
visits-last annotation code index place insn at insn_is =
    let there : 0 + word_count (take index code) ≡ place = omega (arith, at) in
    ap (visits_from annotation 0) (take-one code index place insn at insn_is) ∙ visits_from-more annotation 0 (take index code) insn
    ∙ ap (λ (p : ℕ). visits_from annotation 0 (take index code) ++ visit_at annotation p insn ∷ []) there

-- an instruction whose check fails is reached
reached-state : (state : LiftedState) (insn : Insn) (cause : Cause) → transfer state insn ≡ Err cause → (known : AbstractState) × (state ≡ Reached known)
reached-state Unreached insn cause fails = absurd (search rules)
reached-state (Reached known) insn cause fails = (known, refl)

refused-last : (before : ListingParts) (visit : Visit) (known : AbstractState) (cause : Cause) → visit.state ≡ Reached known
    → refused_text (visited before visit) cause ≡ (visited before visit).text ++ refusal_line known cause visit.insn
refused-last before visit known cause is =
    ap (λ (state : LiftedState). (visited before visit).text ++ refusal_line (known_after before.known state) cause visit.insn) is

pub refuses : (code : List Insn) (lines : List SourceLine) (new : ListingParts) (place : ℕ) (cause : Cause)
    → IsRefusedAt code place cause → IsShownUpTo visited code place (empty lines) new → ExplainsRefusal code lines place cause (refused_text new cause)
refuses code lines new place cause refused shown =
    let a : Annotation = shown.annotation in
    let insn : Insn = refused.insn in
    let same : refused.annotation place ≡ a place = one_least code place refused.annotation a refused.is_least shown.is_least place (omega arith) in
    let fails : transfer (a place) insn ≡ Err cause = ap (λ (state : LiftedState). transfer state insn) (sym same) ∙ refused.fails in
    let reached = reached-state (a place) insn cause fails in
    let before : ListingParts = listing lines (visits_from a 0 (take shown.index code)) in
    let all : listing lines (visits_from a 0 (take (shown.index + 1) code)) ≡ visited before (visit_at a place insn) =
    ap (listing lines) (visits-last a code shown.index place insn shown.at refused.is_insn) ∙ sym (visited_all-more visited (empty lines) (visits_from a 0 (take shown.index code)) (visit_at a place insn)) in
    let new_is : new ≡ listing lines (visits_from a 0 (take (shown.index + 1) code)) = shown.shown in
    record {
      annotation = a;
      is_least = shown.is_least;
      index = shown.index;
      at = shown.at;
      insn = insn;
      insn_is = refused.is_insn;
      known = reached.0;
      state = reached.1;
      fails = fails;
      is = ap (λ (l : ListingParts). refused_text l cause) (new_is ∙ all)
          ∙ refused-last before (visit_at a place insn) reached.0 cause reached.1
          ∙ ap (λ (l : ListingParts). l.text ++ refusal_line reached.0 cause insn) (sym all);
    }
