-- Where a job continues among segments, and the rows that a turn adds.
use Rattle.std.specs.List.{Contains}
use Rattle.std.proofs.Common.{◌≡◌, ℕ, suc, ◌+◌, ◌-◌, ◌*◌, ◌^◌, ◌<◌, ◌≤◌, nat_lt, true, List, [], ◌∷◌, ◌++◌, length, take, drop, min}
use Rattle.std.proofs.Common.{Option, Some, slice_index_or, drop-drop, refl, sym, ap, ◌∙◌, subst, append_assoc, arith}
use Rattle.std.proofs.lemmas.Bool.Decides.{nat_tests}
use Rattle.std.proofs.lemmas.List.{append-nil, drop_all, drop-append-le, drop_more, get_or-take, length-append, length-drop, length-take}
use Rattle.std.proofs.lemmas.List.{take-append-drop, take_all, take_at, take_min, take_more}
use Rattle.std.proofs.lemmas.Grind.{flat_map-append}
use Rattle.std.proofs.Math.Seq.{drop-append-add, drop-append_seam, take-add}
use Rattle.bpf_insn.specs.declared.instruction.Insn.{Insn}
use Rattle.bpf_meaning.specs.Extract.{IsExtract, row_of}
use Rattle.tl_segments.specs.County.{CountyParts}
use Rattle.tl_segments.specs.Segment.{SegmentParts}
use Rattle.std.specs.Io.KnownBytes.{Appends}
use Rattle.counted_io.specs.ReaderWriter.{Writer}
use Rattle.counted_io.specs.declared.writing.WriteFault.{WriteFault}
use Rattle.extract.proofs.SegmentLemmas.{stopped_appends}
use Rattle.extract.specs.Extracting.{StopsAtSegment, WritesSelected}
use Rattle.bpf_meaning.proofs.ExtractLemmas.{extract_append}
use Rattle.jobs.specs.Inside.{IsCursorIn, left_at, segments_after}
use Rattle.jobs.specs.Segments.{Advances, NeedsRow, segments_of}
use Rattle.jobs.specs.declared.cursor.Cursor.{Cursor}
use Rattle.jobs.specs.declared.turn.TheConstants.{SEGMENTS_PER_TURN}

-- the list from an element on
pub drop_item : {X : Type 0} (xs : List X) (i : ℕ) (d x : X) → i < length xs → x ≡ slice_index_or xs i d → drop i xs ≡ x ∷ drop (i + 1) xs
drop_item xs i d x inside is = drop_more xs i d inside ∙ ap (λ found. found ∷ drop (i + 1) xs) (sym is)

-- the list from an element that was looked up
pub drop_found : {X : Type 0} (xs : List X) (i : ℕ) (d x : X) → true ≡ nat_lt i (length xs) → x ≡ slice_index_or xs i d
    → drop i xs ≡ x ∷ drop (i + 1) xs
drop_found xs i d x inside is = drop_item xs i d x (grind (arith, nat_tests)) is

-- at the start of counties, all their segments are left
pub after_none : (counties : List CountyParts) → segments_after 0 counties ≡ segments_of counties
after_none [] = refl
after_none (county ∷ counties) = refl

-- a cursor in the first county leaves all segments of the other counties
pub after_within : (segment : ℕ) (county : CountyParts) (counties : List CountyParts) → segment ≤ length county.segments
    → segments_after segment (county ∷ counties) ≡ drop segment (segments_of (county ∷ counties))
after_within segment county counties within = sym (drop-append-le segment county.segments (segments_of counties) within)

module _ (counties : List CountyParts) (done at segment : ℕ) (county : CountyParts)
    (here : drop at counties ≡ county ∷ drop (at + 1) counties) where
  -- the next segments up to `end`, and those left after them
  pub left_taken : (end new_done : ℕ) → segment ≤ end → left_at counties (record { done = done; county = at; segment = segment })
      ≡ take (end - segment) (drop segment county.segments) ++ left_at counties (record { done = new_done; county = at; segment = end })
  left_taken end new_done after =
      let rest = drop segment county.segments in
      let others = segments_of (drop (at + 1) counties) in
      ap (λ counties. segments_after segment counties) here
      ∙ ap (λ (front : List SegmentParts). front ++ others) (sym (take-append-drop (end - segment) rest))
      ∙ append_assoc (take (end - segment) rest) (drop (end - segment) rest) others
      ∙ ap (λ (front : List SegmentParts). take (end - segment) rest ++ (front ++ others))
      (drop-drop (end - segment) segment county.segments
      ∙ ap (λ n. drop n county.segments) {x = segment + (end - segment)} {y = end} (omega arith))
      ∙ ap (λ counties. take (end - segment) rest ++ segments_after end counties) (sym here)

  -- a county with no segments left is skipped
  pub left_skipped : length county.segments ≤ segment → left_at counties (record { done = done; county = at; segment = segment }) ≡ left_at
      counties (record { done = done; county = at + 1; segment = 0 })
  left_skipped none =
      ap (λ counties. segments_after segment counties) here
      ∙ ap (λ (front : List SegmentParts). front ++ segments_of (drop (at + 1) counties)) (drop_all segment county.segments none)
      ∙ sym (after_none (drop (at + 1) counties))

-- the segments of one more county, each of which has fewer than 2^32
pub segments_more : (counties : List CountyParts) (i : ℕ) (county : CountyParts) (total : ℕ) → i < length counties
    → county ≡ slice_index_or counties i county → (total ≡ length (segments_of (take i counties))) × (total ≤ i * 2 ^ 32)
    → length county.segments < 2 ^ 32 → (total + length county.segments ≡ length (segments_of (take (i + 1) counties)))
    × (total + length county.segments ≤ (i + 1) * 2 ^ 32)
segments_more counties i county total inside is so_far few =
    let front : take (i + 1) counties ≡ take i counties ++ county ∷ [] =
    take_more counties i county inside ∙ ap (λ found. take i counties ++ found ∷ []) (sym is) in
    let count : length (segments_of (take (i + 1) counties)) ≡ length (segments_of (take i counties)) + length county.segments =
    ap (λ counties. length (segments_of counties)) front
    ∙ ap (λ (xs : List SegmentParts). length xs) (flat_map-append (λ (county : CountyParts). county.segments) (take i counties) (county ∷ []))
    ∙ length-append (segments_of (take i counties)) (county.segments ++ [])
    ∙ ap (λ (xs : List SegmentParts). length (segments_of (take i counties)) + length xs) (append-nil county.segments) in
    let total_is = so_far.0 in
    let below = so_far.1 in
    ((omega (arith, count)), omega arith)

-- After all segments of the first `number` counties, which are done, `left` more segments of the other counties are done.
pub record IsLeftAfter (counties : List CountyParts) (done number left : ℕ) : Type 0 where
  pub few : left ≤ length (segments_of (drop number counties))
  pub rest : drop done (segments_of counties) ≡ drop left (segments_of (drop number counties))

pub all_left : (counties : List CountyParts) (done : ℕ) → done ≤ length (segments_of counties) → IsLeftAfter counties done 0 done
all_left counties done within = record { few = within; rest = refl }

module _ (counties : List CountyParts) (done number left : ℕ) (county : CountyParts)
    (left_here : drop number counties ≡ county ∷ drop (number + 1) counties) (so_far : IsLeftAfter counties done number left) where
  -- a county whose segments are all done
  pub left_after_county : length county.segments ≤ left → IsLeftAfter counties done (number + 1) (left - length county.segments)
  left_after_county whole =
      let others = segments_of (drop (number + 1) counties) in
      let count : length (segments_of (drop number counties)) ≡ length county.segments + length others =
      ap (λ counties. length (segments_of counties)) left_here ∙ length-append county.segments others in
      record {
        few = (let few = so_far.few in omega (arith, count));
        rest =
            so_far.rest
            ∙ ap (λ counties. drop left (segments_of counties)) left_here
            ∙ ap (λ n. drop n (county.segments ++ others)) {x = left} {y = length county.segments + (left - length county.segments)}
            (omega arith)
            ∙ drop-append-add county.segments others (left - length county.segments);
      }

  -- a county with segments that aren't done
  pub cursor_here : length (segments_of counties) < 2 ^ 64 → done ≤ length (segments_of counties) → left < length county.segments
      → IsCursorIn counties (record { done = done; county = number; segment = left })
  cursor_here few within some = record {
    within = within;
    few = few;
    left =
        ap (λ counties. segments_after left counties) left_here
        ∙ after_within left county (drop (number + 1) counties) (omega arith)
        ∙ ap (λ counties. drop left (segments_of counties)) (sym left_here)
        ∙ sym so_far.rest;
  }

-- all counties are done
pub cursor_end : (counties : List CountyParts) (done number left : ℕ) → IsLeftAfter counties done number left → number ≡ length counties
    → length (segments_of counties) < 2 ^ 64 → done ≤ length (segments_of counties)
    → IsCursorIn counties (record { done = done; county = length counties; segment = 0 })
cursor_end counties done number left so_far last few within =
    let none : drop number counties ≡ [] = drop_all number counties (omega (arith, last)) in
    record {
      within = within;
      few = few;
      left =
          ap (λ counties. segments_after 0 counties) (drop_all (length counties) counties (omega arith))
          ∙ sym (drop_all left [] (omega arith))
          ∙ ap (λ counties. drop left (segments_of counties)) (sym none)
          ∙ sym so_far.rest;
    }

-- the cursor after further segments
module _ (counties : List CountyParts) (old new : Cursor) (next : List SegmentParts) (is : IsCursorIn counties old)
    (left : left_at counties old ≡ next ++ left_at counties new) where
  pub done_within : old.done + length next ≤ length (segments_of counties)
  done_within =
      let count : length (segments_of counties) - old.done ≡ length next + length (left_at counties new) =
      sym (length-drop old.done (segments_of counties))
      ∙ ap (λ (xs : List SegmentParts). length xs) (sym is.left ∙ left)
      ∙ length-append next (left_at counties new) in
      let within = is.within in omega (arith, count)

  pub cursor_moved : new.done ≡ old.done + length next → IsCursorIn counties new
  cursor_moved done = record {
    within = omega (arith, done, done_within);
    few = is.few;
    left =
        sym (drop-append_seam next (left_at counties new))
        ∙ ap (λ (xs : List SegmentParts). drop (length next) xs) (sym left ∙ is.left)
        ∙ drop-drop (length next) old.done (segments_of counties)
        ∙ ap (λ n. drop n (segments_of counties)) {x = old.done + length next} {y = new.done} (omega (arith, done));
  }

-- an element at an index below `n` is among the first `n`
next_among : {X : Type 0} (front : List X) (x : X) (back : List X) (n : ℕ) → length front < n → Contains (take n (front ++ x ∷ back)) x
next_among {X = X} front x back n within =
    let whole : length (front ++ x ∷ back) ≡ length front + suc (length back) = length-append front (x ∷ back) in
    let long : length (take n (front ++ x ∷ back)) ≡ min n (length (front ++ x ∷ back)) = length-take n (front ++ x ∷ back) in (
      length front,
      (omega (arith, whole, long)),
      get_or-take n (front ++ x ∷ back) (length front) x within ∙ at_end front,
    )
  where
    at_end : (front : List X) → slice_index_or (front ++ x ∷ back) (length front) x ≡ x
    at_end [] = refl
    at_end (first ∷ front) = at_end front

-- known bytes that grew by a text
grown : (old new : Option (List ℕ)) (rows new_rows text : List ℕ) → old ≡ Some rows → new ≡ Some new_rows → Appends old new text
    → new_rows ≡ rows ++ text
grown old new rows new_rows text held held' appends =
    subst (λ new. Appends (Some rows) new text) held' (subst (λ old. Appends old new text) held appends)

-- Segments from a cursor were processed, and the rows that the code selects from them were appended. `left` more belong to the turn.
pub record IsTurnedSoFar (code : List Insn) (counties : List CountyParts) (from now : Cursor) (left : ℕ) (rows new_rows : List ℕ) : Type 0 where
  pub seen : List SegmentParts
  pub rest : drop from.done (segments_of counties) ≡ seen ++ left_at counties now
  pub counted : length seen + left ≡ SEGMENTS_PER_TURN
  pub done : now.done ≡ from.done + length seen
  pub text : List ℕ
  pub chosen : ℕ
  pub is_extract : IsExtract code seen text chosen
  pub appended : new_rows ≡ rows ++ text

pub none_turned : (code : List Insn) (counties : List CountyParts) (from : Cursor) (rows : List ℕ) → IsCursorIn counties from
    → IsTurnedSoFar code counties from from SEGMENTS_PER_TURN rows rows
none_turned code counties from rows is = record {
  seen = [];
  rest = sym is.left;
  counted = refl;
  done = omega arith;
  text = [];
  chosen = 0;
  is_extract = (refl, refl);
  appended = sym (append-nil rows);
}

module _ (code : List Insn) (counties : List CountyParts) (from now : Cursor) (left : ℕ) (rows new_rows : List ℕ)
    (so_far : IsTurnedSoFar code counties from now left rows new_rows) where
  module _ (next : Cursor) (segments : List SegmentParts) (follow : left_at counties now ≡ segments ++ left_at counties next)
      (few : length segments ≤ left) (out out' : Writer) (held : out.held ≡ Some new_rows) (next_rows : List ℕ)
      (held' : out'.held ≡ Some next_rows) where
    pub turned_more : next.done ≡ now.done + length segments → WritesSelected row_of code segments out out'
        → IsTurnedSoFar code counties from next (left - length segments) rows next_rows
    turned_more done written = record {
      seen = so_far.seen ++ segments;
      rest = so_far.rest ∙ ap (λ left. so_far.seen ++ left) follow ∙ sym (append_assoc so_far.seen segments (left_at counties next));
      counted = (let counted = so_far.counted in omega (arith, few, length-append so_far.seen segments));
      done = (let before = so_far.done in omega (arith, done, length-append so_far.seen segments));
      text = so_far.text ++ written.text;
      chosen = so_far.chosen + written.count;
      is_extract = extract_append row_of code so_far.seen segments so_far.text written.text so_far.chosen written.count so_far.is_extract
          written.is_extract;
      appended = grown out.held out'.held new_rows next_rows written.text held held' written.written
          ∙ ap (λ rows. rows ++ written.text) so_far.appended ∙ append_assoc rows so_far.text written.text;
    }

    -- an allocation fails for a row: its segment belongs to the turn, and no row that was there changes
    module _ {fault : WriteFault} (stops : StopsAtSegment row_of code segments fault out out') where
      pub turn_needs_row : NeedsRow code (segments_of counties) from.done
      turn_needs_row =
          let seen = so_far.seen ++ stops.front in
          let back = stops.back ++ left_at counties next in
          let all : drop from.done (segments_of counties) ≡ seen ++ stops.segment ∷ back =
          so_far.rest
          ∙ ap (λ left. so_far.seen ++ left)
          (follow ∙ ap (λ (segments : List SegmentParts). segments ++ left_at counties next) stops.are_all
          ∙ append_assoc stops.front (stops.segment ∷ stops.back) (left_at counties next))
          ∙ sym (append_assoc so_far.seen stops.front (stops.segment ∷ back)) in
          let count : length segments ≡ length stops.front + suc (length stops.back) =
          ap (λ (xs : List SegmentParts). length xs) stops.are_all ∙ length-append stops.front (stops.segment ∷ stops.back) in (
            stops.segment,
            subst (λ left. Contains (take SEGMENTS_PER_TURN left) stops.segment) (sym all)
                (next_among seen stops.segment back SEGMENTS_PER_TURN
                (let counted = so_far.counted in omega (arith, few, count, length-append so_far.seen stops.front))),
            (stops.cut_short.1, stops.cut_short.0, stops.cut_short.2, stops.cut_short.3),
          )

      pub rows_stay : take (length rows) next_rows ≡ rows
      rows_stay =
          let more = stopped_appends out out' stops in
          ap (λ rows'. take (length rows) rows')
          (grown out.held out'.held new_rows next_rows more.0 held held' more.1
          ∙ ap (λ rows. rows ++ more.0) so_far.appended ∙ append_assoc rows so_far.text more.0)
          ∙ take_at rows (so_far.text ++ more.0) (length rows) refl

  -- the number of segments that were left
  left_count : length (segments_of counties) - from.done ≡ length so_far.seen + length (left_at counties now)
  left_count =
      sym (length-drop from.done (segments_of counties))
      ∙ ap (λ (xs : List SegmentParts). length xs) so_far.rest
      ∙ length-append so_far.seen (left_at counties now)

  -- the segments that were processed are those of a turn
  turned : now.done ≡ min (length (segments_of counties)) (from.done + SEGMENTS_PER_TURN)
      → take SEGMENTS_PER_TURN (so_far.seen ++ left_at counties now) ≡ so_far.seen
      → Advances code (segments_of counties) from.done rows now.done new_rows
  turned moved seen = record {
    moved = moved;
    text = so_far.text;
    chosen = so_far.chosen;
    is_extract = subst (λ segments. IsExtract code segments so_far.text so_far.chosen)
        (sym (ap (λ left. take SEGMENTS_PER_TURN left) so_far.rest ∙ seen)) so_far.is_extract;
    appended = so_far.appended;
  }

  -- a complete turn
  pub turn_whole : from.done ≤ length (segments_of counties) → left ≡ 0
      → Advances code (segments_of counties) from.done rows now.done new_rows
  turn_whole within none =
      let count = left_count in
      let done = so_far.done in
      let counted = so_far.counted in
      turned (grind (arith)) (take_at so_far.seen (left_at counties now) SEGMENTS_PER_TURN (omega arith))

  -- a turn over all segments that were left
  pub turn_of_rest : from.done ≤ length (segments_of counties) → left_at counties now ≡ []
      → Advances code (segments_of counties) from.done rows now.done new_rows
  turn_of_rest within none =
      let count = left_count in
      let ended = ap (λ (xs : List SegmentParts). length xs) none in
      let done = so_far.done in
      let counted = so_far.counted in
      turned (grind (arith)) (rw (none, append-nil) (take_all SEGMENTS_PER_TURN so_far.seen (omega arith)))

-- the extract of the segments done, with those of a turn added
pub extract_turned : {code : List Insn} {segments : List SegmentParts} {done new_done : ℕ} {rows new_rows : List ℕ} (chosen : ℕ)
    → IsExtract code (take done segments) rows chosen → (advances : Advances code segments done rows new_done new_rows)
    → IsExtract code (take new_done segments) new_rows (chosen + advances.chosen)
extract_turned {code} {segments} {done} {rows} chosen is advances =
    rw advances.appended
    (subst (λ segments. IsExtract code segments (rows ++ advances.text) (chosen + advances.chosen))
    (sym (take-add done SEGMENTS_PER_TURN segments) ∙ sym (take_min' (done + SEGMENTS_PER_TURN) segments)
    ∙ ap (λ n. take n segments) (sym advances.moved))
    (extract_append row_of code (take done segments) (take SEGMENTS_PER_TURN (drop done segments)) rows advances.text chosen advances.chosen is
    advances.is_extract))
  where
    take_min' : (n : ℕ) (xs : List SegmentParts) → take (min (length xs) n) xs ≡ take n xs
    take_min' n xs = ap (λ n. take n xs) (grind (arith)) ∙ take_min n xs
