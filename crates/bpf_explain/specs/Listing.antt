-- A program's listing, visit by visit, and its last line.
use Rattle.std.specs.Prelude.{ℕ, nat_lt, List, [], ◌++◌, drop, codes, Option, Some, None}
use Rattle.std.specs.List.{before_first, flat_map, position_or_len}
use Rattle.bpf_insn.specs.declared.instruction.Insn.{Insn}
use Rattle.bpf_meaning.specs.declared.cause.Cause.{Cause}
use Rattle.bpf_verify.specs.LiftedState.{LiftedState, Unreached, Reached, unknown}
use Rattle.bpf_verify.specs.Visit.{Visit, visited_all}
use Rattle.bpf_verify.specs.declared.abstract_state.AbstractState.{AbstractState}
use Rattle.listing_notes.specs.Facts.{instruction_line}
use Rattle.bpf_explain.specs.Access.{text_if}
use Rattle.bpf_explain.specs.Failure.{failure_text}
use Rattle.listing_lines.specs.SourceLines.{SourceLine, source_text}

-- a listing so far: its text, what was known before the last instruction that was reached, the last instruction, and the remaining source lines
pub record ListingParts : Type 0 where
  pub text : List ℕ
  pub known : AbstractState
  pub insn : Option Insn
  pub remaining : List SourceLine

-- at first nothing is known
abbrev pub empty : List SourceLine → ListingParts
empty lines = record { text = []; known = unknown; insn = None; remaining = lines }

-- the source lines up to a place, and those after it
unfoldable pub lines_until : ℕ → List SourceLine → List SourceLine
lines_until place lines = before_first (λ line. nat_lt place line.place) lines

unfoldable pub lines_after : ℕ → List SourceLine → List SourceLine
lines_after place lines = drop (position_or_len (λ line. nat_lt place line.place) lines) lines

unfoldable pub sources_text : List SourceLine → List ℕ
sources_text lines = flat_map source_text lines

-- what was known last, after a visit in this state
abbrev pub known_after : AbstractState → LiftedState → AbstractState
known_after last Unreached = last
known_after last (Reached known) = known

-- the lines of a visit: the source lines up to its place, and the instruction's
unfoldable pub visit_text : ListingParts → Visit → List ℕ
visit_text listing visit =
    sources_text (lines_until visit.place listing.remaining) ++ instruction_line listing.known visit.place visit.insn visit.state

-- the listing with one more visit
abbrev pub visited : ListingParts → Visit → ListingParts
visited listing visit = record {
  text = listing.text ++ visit_text listing visit;
  known = known_after listing.known visit.state;
  insn = Some visit.insn;
  remaining = lines_after visit.place listing.remaining;
}

-- the listing of visits
abbrev pub listing : List SourceLine → List Visit → ListingParts
listing lines visits = visited_all visited (empty lines) visits

-- the text of a listing whose program is accepted
abbrev pub accepted_text : ListingParts → List ℕ
accepted_text listing = listing.text ++ (sources_text listing.remaining ++ codes "accepted\n")

-- the line of a refusal
abbrev pub refusal_line : AbstractState → Cause → Insn → List ℕ
refusal_line known cause insn = codes "refused: " ++ failure_text known insn cause ++ codes "\n"

-- the text of a listing whose last instruction is refused
abbrev pub refused_text : ListingParts → Cause → List ℕ
refused_text listing cause = listing.text ++ text_if (refusal_line listing.known cause) listing.insn
