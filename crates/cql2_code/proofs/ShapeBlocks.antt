-- The blocks that ask whether a segment's line is marked are sound.
use Rattle.std.proofs.Common.{◌≡◌, ℕ, ◌+◌, pos, Bool, true, false, is_some, List, [], ◌∷◌, ◌++◌, if◌then◌else◌, refl, ap, ◌∙◌, subst, arith}
use Rattle.std.proofs.Common.{lit≤, lit<}
use Rattle.std.proofs.lemmas.Bool.{false≢true}
use Rattle.bpf_insn.specs.Code.{word_count}
use Rattle.bpf_insn.specs.declared.instruction.Insn.{Insn}
use Rattle.bpf_insn.specs.declared.instruction.Insn.TheVariants.{MoveSignExtended}
use Rattle.bpf_insn.specs.declared.instruction.SignExtension.TheVariants.{Bits32To64}
use Rattle.bpf_insn.specs.declared.instruction.Source.TheVariants.{Immediate}
use Rattle.bpf_insn.proofs.PlaceLemmas.{word_count-append, word_count-cons}
use Rattle.bpf_kinds.proofs.ResultLemmas.{extend-proper}
use Rattle.bpf_kinds.specs.Interval.{single}
use Rattle.bpf_kinds.specs.Kind as kind
use Rattle.bpf_kinds.specs.Results.{extend}
use Rattle.bpf_kinds.specs.declared.kind.Kind.TheVariants.{Nothing, Number}
use Rattle.bpf_verify.proofs.StateLaws.{reflexive}
use Rattle.tl_segments.specs.Segment.{IsSegment}
use Rattle.cql2.specs.Geometry.{Edge}
use Rattle.cql2.specs.declared.filter.Comparison.{Comparison}
use Rattle.cql2.specs.declared.filter.Comparison.TheVariants.{Equal, NotEqual}
use Rattle.cql2.specs.declared.geometry.Bounds.{Bounds}
use Rattle.cql2.specs.declared.geometry.Shape.{Shape}
use Rattle.cql2.proofs.Sides.{IsShort}
use Rattle.cql2_code.specs.Layout.{copy, from_argument_1, from_result, into_argument_1, into_saved, into_result, move, skip_if, wide_load}
use Rattle.cql2_code.specs.Question.{coordinate_id}
use Rattle.cql2_code.specs.ShapeCode.{end_latitude, end_longitude, from_first, into_end_latitude, into_first, into_second, into_side, line_code}
use Rattle.cql2_code.specs.ShapeCode.{Marking, asks_marks, line_of, lead_code, mark_comparison, marks_code, marks_shape, shape_code}
use Rattle.cql2_code.specs.WithinCode.{ends_in, marks_within}
use Rattle.cql2_code.specs.declared.line.Extent.{Extent}
use Rattle.cql2_code.proofs.AbstractState.{answered, any_number, drawn, knowing, nothing, rests_after, resting, setting_2, setting_3, setting_4, state_before}
use Rattle.cql2_code.proofs.Accepted.{skip_good, skip_needs}
use Rattle.cql2_code.proofs.Blocks.{IsSoundBlock, Keeps, Settled}
use Rattle.cql2_code.proofs.Codes.{second_placed}
use Rattle.cql2_code.proofs.Columns.{coordinate_small}
use Rattle.cql2_code.proofs.Drawn.{Continues, Draws, any_is, continues_at, draws_both, holding, nine_numbers, nine_within, numbers_within}
use Rattle.cql2_code.proofs.Good.{AreGoodAt, Rests, all_good, good-append, good_passes, is_immediate, needs_at}
use Rattle.cql2_code.proofs.Leads.{Arrives, IsAt, exit_of}
use Rattle.cql2_code.proofs.LineRuns.{fourth, line_runs, line_short, start_hand}
use Rattle.cql2_code.proofs.Passes.{AllPass, Passes, passes_coordinate, passes_move_1, passes_wide_load_1}
use Rattle.cql2_code.proofs.Runs.{led, skip_leads}
use Rattle.cql2_code.proofs.ShapeDraws.{lead_draws, shape_draws, within_draws}
use Rattle.cql2_code.proofs.ShapeHands.{Hand, Moves, copies_argument_1_to_first, copies_first_to_result, filled, lead_runs}
use Rattle.cql2_code.proofs.ShapeInsns as insns
use Rattle.cql2_code.proofs.ShapeInsns.{full, full_proper, proper_is}
use Rattle.cql2_code.proofs.ShapeMarks.{marked_if}
use Rattle.cql2_code.proofs.ShapeMet.{mark_of, marks_are, shape_turns}
use Rattle.cql2_code.proofs.Steps.{Begins, Runs, Scratch, Setting, and_on, and_then}
use Rattle.cql2_code.proofs.Steps.{begins_at, branches_on_immediate, has_front, no_more, one_more, running, steps_on}
use Rattle.cql2_code.proofs.WithinMarks.{within_marks}

-- the code that reads the line passes

keeping : Passes true (copy (into_saved 0) from_result) (resting true)
keeping = record {
  after = knowing true (record nothing { v0 = any_number });
  passes = refl;
  straight = refl;
  within = rests_after true (record nothing { v0 = any_number });
}

keeping_second : Passes true (copy (into_saved 1) from_result) (resting true)
keeping_second = record {
  after = knowing true (record nothing { v0 = any_number });
  passes = refl;
  straight = refl;
  within = rests_after true (record nothing { v0 = any_number });
}

keeping_third : Passes true (copy (into_saved 2) from_result) (resting true)
keeping_third = record {
  after = knowing true (record nothing { v0 = any_number });
  passes = refl;
  straight = refl;
  within = rests_after true (record nothing { v0 = any_number });
}

zero_is : kind.IsWithin (Number (single 0)) any_number
zero_is = record { low = omega arith; high = omega arith }

sets_5 : Passes true (copy into_end_latitude from_result) (setting_3 true)
sets_5 = record { after = setting_3 true; passes = refl; straight = refl; within = reflexive (setting_3 true) }

sets_3 : Passes true (wide_load into_first 0) (setting_4 true)
sets_3 = record {
  after = holding (record nine_numbers { k2 = Nothing; k3 = Number (single 0); k4 = Nothing });
  passes = refl;
  straight = refl;
  within = nine_within _ (record nine_numbers { k2 = Nothing; k4 = Nothing }) (record {
    k0 = any_is;
    k1 = any_is;
    k2 = tt;
    k3 = zero_is;
    k4 = tt;
    k5 = any_is;
    k7 = any_is;
    k8 = any_is;
    k9 = any_is;
  });
}

sets_4 : Passes true (move into_second (pos 0)) (setting_2 true)
sets_4 = record {
  after = holding (record nine_numbers { k2 = Nothing; k4 = Number (single 0) });
  passes = refl;
  straight = refl;
  within = nine_within _ (record nine_numbers { k2 = Nothing }) (record {
    k0 = any_is;
    k1 = any_is;
    k2 = tt;
    k3 = any_is;
    k4 = zero_is;
    k5 = any_is;
    k7 = any_is;
    k8 = any_is;
    k9 = any_is;
  });
}

sets_2 : Passes true (MoveSignExtended Bits32To64 into_side from_result) (drawn true)
sets_2 = record {
  after = holding (record nine_numbers { k2 = Number (extend Bits32To64 full) });
  passes = refl;
  straight = refl;
  within = numbers_within _ (record {
    k0 = any_is;
    k1 = any_is;
    k2 = proper_is _ (extend-proper Bits32To64 full full_proper);
    k3 = any_is;
    k4 = any_is;
    k5 = any_is;
    k7 = any_is;
    k8 = any_is;
    k9 = any_is;
  });
}

last_passes : AllPass true (wide_load into_argument_1 0 ∷ copy into_end_latitude from_result ∷ wide_load into_first 0
    ∷ move into_second (pos 0) ∷ MoveSignExtended Bits32To64 into_side from_result ∷ []) (drawn true)
last_passes = (passes_wide_load_1 true 0 (lit< tt), (sets_5, (sets_3, (sets_4, (sets_2, tt)))))

module _ (extent : Extent) where
  line_passes : AllPass true (line_code extent) (drawn true)
  line_passes = (
    passes_move_1 true 0 3 (lit≤ tt),
    (
      passes_coordinate true,
      (
        keeping,
        (
          passes_move_1 true 1 3 (lit≤ tt),
          (
            passes_coordinate true,
            (
              keeping_second,
              (
                passes_move_1 true (coordinate_id (end_longitude extent)) 3 (coordinate_small (end_longitude extent)),
                (
                  passes_coordinate true,
                  (
                    keeping_third,
                    (
                      passes_move_1 true (coordinate_id (end_latitude extent)) 3 (coordinate_small (end_latitude extent)),
                      (passes_coordinate true, last_passes),
                    ),
                  ),
                ),
              ),
            ),
          ),
        ),
      ),
    ),
  )

-- the marks end up in register 0

takes_marks : Passes true (copy into_result from_first) (answered true)
takes_marks = record {
  after = drawn true;
  passes = refl;
  straight = refl;
  within = nine_within nine_numbers (record nine_numbers { k1 = Nothing; k2 = Nothing; k3 = Nothing; k4 = Nothing; k5 = Nothing }) (record {
    k0 = any_is;
    k1 = tt;
    k2 = tt;
    k3 = tt;
    k4 = tt;
    k5 = tt;
    k7 = any_is;
    k8 = any_is;
    k9 = any_is;
  });
}

-- a code leaves marks in register 1 that say whether the line is marked
pub record Sets (on : Setting) (base : Scratch) (line : Edge) (code : List Insn) (hand : Hand) (is_marked : Bool) : Type 0 where
  pub to : Hand
  pub runs : Moves on base line code hand to
  pub mark_is : to.mark ≡ mark_of false false is_marked

-- a marking's code passes the verifier's checks, and marks the lines that it is to mark
pub record IsSoundMarking (marking : Marking) : Type 0 where
  pub draws : Draws marking.code
  pub sets : (on : Setting) (base : Scratch) (line : Edge) → IsShort line → (hand : Hand) → hand.mark ≡ 0
      → Sets on base line marking.code hand (marking.is_marked line)

module _ (extent : Extent) (marking : Marking) (sound : IsSoundMarking marking) where
  marks_draws : Draws (marks_code marking)
  marks_draws = draws_both marking.code (copy into_first from_argument_1 ∷ []) sound.draws insns.copies_argument_1_to_first

  comparison_good : (code : List Insn) (comparison : Comparison) (skip place : ℕ)
      → (let insns = copy into_result from_first ∷ skip_if comparison (Immediate (pos 0)) skip in
      Settled true code place insns skip → AreGoodAt true code place insns)
  comparison_good code comparison skip place placed =
      let skips = skip_if comparison (Immediate (pos 0)) skip in
      let after = second_placed (Rests true code) code place (copy into_result from_first ∷ []) skips skip placed in
      let needs = needs_at true code (place + 1) skips (resting true) after.has after.end.needs
      ∙ skip_needs true comparison (Immediate (pos 0)) skip in (
        good_passes true code place (copy into_result from_first) (answered true) placed.has.0 needs takes_marks,
        skip_good true code (place + 1) comparison (Immediate (pos 0)) skip (is_immediate (pos 0)) after,
      )

  block_good : (code : List Insn) (falls : Bool) (skip place : ℕ)
      → (let insns = line_code extent ++ (marks_code marking ++ mark_comparison falls skip) in
      Settled true code place insns skip → AreGoodAt true code place insns)
  block_good code falls skip place placed =
      let back = mark_comparison falls skip in
      let comparison = if falls then Equal else NotEqual in
      let there = place + word_count (line_code extent) in
      let end = there + word_count (marks_code marking) in
      let after = second_placed (Rests true code) code place (line_code extent) (marks_code marking ++ back) skip placed in
      let last = second_placed (Rests true code) code there (marks_code marking) back skip after in
      let more : Continues code end = record { begins = ap is_some last.has.0; needs = ap (state_before true) last.has.0 } in
      let has = has_front code there (marks_code marking) back after.has in
      let needs = (continues_at code there (marks_code marking) has marks_draws more).needs in
      good-append true code place (line_code extent) (marks_code marking ++ back)
      (all_good true code place (line_code extent) (drawn true) (has_front code place (line_code extent) (marks_code marking ++ back) placed.has) needs
      (line_passes extent))
      (good-append true code there (marks_code marking) back (marks_draws.good code there has more) (comparison_good code comparison skip end last))

  -- the exit by the marks
  exit_is : (falls met : Bool) (end skip : ℕ)
      → led (if falls then Equal else NotEqual) (mark_of false false met) 0 skip end ≡ exit_of falls met end skip
  exit_is true true end skip = refl
  exit_is true false end skip = refl
  exit_is false true end skip = refl
  exit_is false false end skip = refl

  module _ (on : Setting) (falls : Bool) (skip place : ℕ) (segment : IsSegment on.segment)
      (placed : IsAt on.code place (line_code extent ++ (marks_code marking ++ mark_comparison falls skip)) skip) (from : Scratch) where
    abbrev comparison : Comparison
    comparison = if falls then Equal else NotEqual

    abbrev skips : List Insn
    skips = skip_if comparison (Immediate (pos 0)) skip

    abbrev there : ℕ
    there = place + word_count (line_code extent)

    abbrev end : ℕ
    end = there + word_count (marks_code marking)

    abbrev base : Scratch
    base = fourth extent on from

    at_there : IsAt on.code there (marks_code marking ++ mark_comparison falls skip) skip
    at_there = second_placed (Begins on.code) on.code place (line_code extent) (marks_code marking ++ mark_comparison falls skip) skip placed

    at_end : IsAt on.code end (mark_comparison falls skip) skip
    at_end = second_placed (Begins on.code) on.code there (marks_code marking) (mark_comparison falls skip) skip at_there

    at_skips : IsAt on.code (end + 1) skips skip
    at_skips = second_placed (Begins on.code) on.code end (copy into_result from_first ∷ []) skips skip at_end

    -- the marks that the code leaves
    record Marked : Type 0 where
      hand : Hand
      runs : Runs on (marks_code marking) (filled (fourth extent on from) (line_of extent on.segment) (start_hand extent on from))
          (filled (fourth extent on from) (line_of extent on.segment) hand)
      first : hand.first ≡ mark_of false false (marking.is_marked (line_of extent on.segment))

    marked : Marked
    marked =
        let line = line_of extent on.segment in
        let there = sound.sets on (fourth extent on from) line (line_short extent on.segment) (start_hand extent on from) refl in
        record {
          hand = record there.to { first = there.to.mark };
          runs = and_then there.runs (one_more (copies_argument_1_to_first on (fourth extent on from) line there.to) no_more);
          first = there.mark_is;
        }

    -- the comparison of the marks leads to the exit for the answer
    compares_marks : (hand : Hand) → hand.first ≡ mark_of false false (marking.is_marked (line_of extent on.segment))
        → Arrives on (running on (filled base (line_of extent on.segment) hand) end)
        (exit_of falls (marking.is_marked (line_of extent on.segment)) (end + 1 + word_count skips) skip)
    compares_marks hand is =
        let line = line_of extent on.segment in
        let taken : Scratch = filled base line (record hand { lead = hand.first }) in
        let further = skip_leads on taken (Immediate (pos 0)) hand.first 0 (branches_on_immediate on taken hand.first (pos 0)) comparison skip (end + 1)
        at_skips in
        let exit = ap (λ (n : ℕ). led comparison n 0 skip (end + 1 + word_count skips)) is
        ∙ exit_is falls (marking.is_marked line) (end + 1 + word_count skips) skip in
        let there = subst (Arrives on (running on taken (end + 1))) exit further in
        let next = begins_at on.code (end + 1) skips at_skips.has at_skips.end in
        record {
          scratch = there.scratch;
          reaches = steps_on on _ (running on taken (end + 1)) _
              ((copies_first_to_result on base line hand).step end at_end.has.0 next) there.reaches;
        }

    whole : end + 1 + word_count skips ≡ place + word_count (line_code extent ++ (marks_code marking ++ mark_comparison falls skip))
    whole =
        let first = word_count-append (line_code extent) (marks_code marking ++ mark_comparison falls skip) in
        let second = word_count-append (marks_code marking) (mark_comparison falls skip) in
        let third = word_count-cons (copy into_result from_first) skips in
        omega arith

    block_leads : Arrives on (running on from place) (exit_of falls (marking.is_marked (line_of extent on.segment))
        (place + word_count (line_code extent ++ (marks_code marking ++ mark_comparison falls skip))) skip)
    block_leads =
        let last = subst (λ (p : ℕ). Arrives on (running on (filled base (line_of extent on.segment) marked.hand) end)
        (exit_of falls (marking.is_marked (line_of extent on.segment)) p skip)) whole (compares_marks marked.hand marked.first) in
        let begins_end = ap is_some at_end.has.0 in
        let has = has_front on.code there (marks_code marking) (mark_comparison falls skip) at_there.has in
        let begins_there = begins_at on.code there (marks_code marking) has begins_end in
        record {
          scratch = last.scratch;
          reaches = and_on on _ (running on (filled base (line_of extent on.segment) (start_hand extent on from)) there) _
              ((line_runs extent on from).reaches place
              (has_front on.code place (line_code extent) (marks_code marking ++ mark_comparison falls skip) placed.has) begins_there)
              (and_on on _ (running on (filled base (line_of extent on.segment) marked.hand) end) _ (marked.runs.reaches there has begins_end) last.reaches);
        }

  -- the block is sound
  pub marks_sound : IsSoundBlock (asks_marks extent marking)
  marks_sound = record {
    needs = λ keeps falls skip. refl;
    good = λ keeps code falls skip place saved placed. by_keeps keeps code falls skip place saved placed;
    leads = λ on falls skip place segment placed from. block_leads on falls skip place segment placed from;
  }
    where
      by_keeps : (keeps : Bool) (code : List Insn) (falls : Bool) (skip place : ℕ) → Keeps keeps ((asks_marks extent marking).code falls skip)
          → Settled keeps code place ((asks_marks extent marking).code falls skip) skip
          → AreGoodAt keeps code place ((asks_marks extent marking).code falls skip)
      by_keeps true code falls skip place saved placed = block_good code falls skip place placed
      by_keeps false code falls skip place saved placed = absurd (false≢true (saved refl))

-- a shape's marking, and that of a box
pub shape_sound : {A : Type 0} (shape : Shape A) → IsSoundMarking (marks_shape shape)
shape_sound shape = record {
  draws = draws_both lead_code (shape_code shape) lead_draws (shape_draws shape);
  sets = λ on base line short hand held.
      let lead = lead_runs on base line short hand in
      let there = shape_turns on base line short shape _ refl held in
      record { to = there.to; runs = and_then lead.runs there.runs; mark_is = there.mark_is };
}

pub within_sound : (extent : Extent) (bounds : Bounds) → IsSoundMarking (marks_within extent bounds)
within_sound extent bounds = record {
  draws = within_draws extent bounds;
  sets = λ on base line short hand held.
      let there = within_marks on base line short bounds hand extent in
      let met = ends_in extent bounds line in
      record { to = there.to; runs = there.runs; mark_is = there.mark_is ∙ ap (marked_if met) held ∙ marks_are false false false met };
}
