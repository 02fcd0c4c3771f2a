-- Lines joined by their numbers: what one more line adds.
use Rattle.std.proofs.Common.{◌≡◌, ℕ, ◌+◌, ◌<◌, ◌≤◌, nat_eq, Bool, true, false, cond, if◌then◌else◌, List, [], ◌∷◌, ◌++◌, length, map}
use Rattle.std.proofs.Common.{Option, Some, None, unwrap_or, option_map, Result, Ok, Err, IfOk, refl, sym, ap, ◌∙◌}
use Rattle.std.proofs.Common.{length-append, arith}
use Rattle.std.specs.declared.alloc.AllocError.{AllocError}
use Rattle.std.specs.List.{find}
use Rattle.std.specs.Option.{option_or, option_eq}
use Rattle.std.proofs.lemmas.Bool.{eq-eqb}
use Rattle.std.proofs.lemmas.Bool.Decides.{nat_tests}
use Rattle.std.proofs.lemmas.List.{map-append, append-nil, length-map}
use Rattle.std.proofs.lemmas.List.Elements.{filter-append}
use Rattle.std.proofs.lemmas.List.Folds.{find-append}
use Rattle.tl_segments.specs.Joining.{JoinedLines, number_in, has_number, lines_with, segment_of, segments_of, IsWithinLineLimit}
use Rattle.tl_segments.specs.Joining.{IsWithinLimits}
use Rattle.tl_segments.specs.TableContents.{AddsAt, AddsNameAt, CountsAt, HoldsCounts, HoldsNames, count_at, feature_full_name, full_name_in}
use Rattle.tl_segments.specs.TableContents.{MatchAddition, list_at, name_at}
use Rattle.tl_segments.specs.Adding.{IsAdded}
use Rattle.tl_segments.specs.Shape.{HasDistinctSequences}
use Rattle.tl_segments.specs.declared.county_file.Addition.{Addition}
use Rattle.tl_segments.specs.declared.county_file.Addition.TheVariants.{Added, OverLimit, Repeated}
use Rattle.tl_segments.specs.declared.validation_tables.LinesPerTlid.{LinesPerTlid}
use Rattle.tl_segments.specs.declared.fault.CountyFile.{CountyFile}
use Rattle.tl_segments.specs.declared.fault.CountyFile.TheVariants.{Rt2, Rt4, Rt5, Rt6}
use Rattle.tl_segments.specs.declared.feature_names.FeatureNames.{FeatureNames}
use Rattle.tl_segments.specs.declared.multi_map.MultiMap.{MultiMap}
use Rattle.tl_segments.specs.declared.limits.TheConstants.{MAX_LINES_PER_TLID}

-- whether a line has a given number, decided by the number that it has
has_number_by : (file : CountyFile) (line : List ℕ) (number q : ℕ) → number_in file line ≡ Some number
    → has_number file q line ≡ nat_eq number q
has_number_by file line number q is = ap (λ found. option_eq nat_eq found (Some q)) is

-- the lines with a number, after one more line with this number
pub lines_with-push : (file : CountyFile) (lines : List (List ℕ)) (line : List ℕ) (number q : ℕ) → number_in file line ≡ Some number
    → lines_with file q (lines ++ line ∷ []) ≡ lines_with file q lines ++ cond (nat_eq number q) (line ∷ []) []
lines_with-push file lines line number q is =
    filter-append (has_number file q) lines (line ∷ []) ∙ ap (λ b. lines_with file q lines ++ cond b (line ∷ []) [])
    (has_number_by file line number q is)

holds_by : {V : Type 0} (f : List ℕ → V) (found : List (List ℕ)) (line : List ℕ) (list : List V) (has : Bool) → list ≡ map f found
    → (if has then list ++ f line ∷ [] else list) ≡ map f (found ++ cond has (line ∷ []) [])
holds_by f found line list true e = ap (λ s. s ++ f line ∷ []) e ∙ sym (map-append f found (line ∷ []))
holds_by f found line list false e = e ∙ ap (λ s. map f s) (sym (append-nil found))

-- a table of lists that keeps lines keeps one more line
pub holds-push : {V A : Type 0} (file : CountyFile) (f : List ℕ → V) {old new : MultiMap V A} (lines : List (List ℕ)) (line : List ℕ)
    {number : ℕ} → number_in file line ≡ Some number → ((q : ℕ) → list_at old q ≡ map f (lines_with file q lines))
    → AddsAt old new number (f line) → (q : ℕ) → list_at new q ≡ map f (lines_with file q (lines ++ line ∷ []))
holds-push file f lines line {number} is holds adds = λ q.
    adds.lists q ∙ holds_by f (lines_with file q lines) line _ (nat_eq number q) (holds q)
    ∙ ap (λ s. map f s) (sym (lines_with-push file lines line number q is))

length_by : (found : List (List ℕ)) (line : List ℕ) (has : Bool) → length (found ++ cond has (line ∷ []) []) ≡ length found + cond has 1 0
length_by found line true = length-append found (line ∷ [])
length_by found line false = length-append found []

-- the count of lines with a number, after one more line
length_with-push : (file : CountyFile) (lines : List (List ℕ)) (line : List ℕ) (number q : ℕ) → number_in file line ≡ Some number
    → length (lines_with file q (lines ++ line ∷ [])) ≡ length (lines_with file q lines) + cond (nat_eq number q) 1 0
length_with-push file lines line number q is =
    ap length (lines_with-push file lines line number q is) ∙ length_by (lines_with file q lines) line (nat_eq number q)

few_by : (count : ℕ → ℕ) (number q limit : ℕ) → count q ≤ limit → count number < limit → count q + cond (nat_eq number q) 1 0 ≤ limit
few_by count number q limit few room = grind (arith, nat_tests)

-- lines within the limit stay within it if the number of the added line had room
pub few-push : (file : CountyFile) (lines : List (List ℕ)) (line : List ℕ) (number : ℕ) → number_in file line ≡ Some number
    → IsWithinLineLimit file lines → length (lines_with file number lines) < MAX_LINES_PER_TLID → IsWithinLineLimit file (lines ++ line ∷ [])
few-push file lines line number is few room q =
    rw (length_with-push file lines line number q is) (few_by (λ n. length (lines_with file n lines)) number q MAX_LINES_PER_TLID (few q) room)

-- and exceed it if the number had none
pub not_few-push : (file : CountyFile) (lines : List (List ℕ)) (line : List ℕ) (number : ℕ) → number_in file line ≡ Some number
    → MAX_LINES_PER_TLID ≤ length (lines_with file number lines) → ¬ IsWithinLineLimit file (lines ++ line ∷ [])
not_few-push file lines line number is full few =
    let more : length (lines_with file number (lines ++ line ∷ [])) ≡ length (lines_with file number lines) + 1 =
    length_with-push file lines line number number is ∙ ap (λ b. length (lines_with file number lines) + cond b 1 0)
    (eq-eqb number number refl) in
    let most = few number in
    omega arith

name_by : {V : Type 0} (field : List ℕ → V) (before : Option (List ℕ)) (line : List ℕ) (has : Bool)
    → option_map field (option_or before (cond has (Some line) None)) ≡ (if has then Some
    (unwrap_or (option_map field before) (field line)) else option_map field before)
name_by field None line true = refl
name_by field None line false = refl
name_by field (Some before) line true = refl
name_by field (Some before) line false = refl

-- a table of names that keeps type 5 lines keeps one more line
pub names-push : {A : Type 0} (old new : FeatureNames A) (lines : List (List ℕ)) (line : List ℕ) (feat : ℕ) → number_in Rt5 line ≡ Some feat
    → HoldsNames old lines → AddsNameAt old new feat (full_name_in line) → HoldsNames new (lines ++ line ∷ [])
names-push old new lines line feat is holds adds = λ q.
    let added : name_at new q ≡ (if nat_eq feat q then Some (unwrap_or (feature_full_name lines q) (full_name_in line)) else
    feature_full_name lines q) = adds q
    ∙ ap (λ name. if nat_eq feat q then Some (unwrap_or name (full_name_in line)) else name) (holds q) in
    let found : find (has_number Rt5 q) (lines ++ line ∷ []) ≡ option_or (find (has_number Rt5 q) lines)
    (cond (nat_eq feat q) (Some line) None) = find-append (has_number Rt5 q) lines (line ∷ [])
    ∙ ap (λ b. option_or (find (has_number Rt5 q) lines) (cond b (Some line) None)) (has_number_by Rt5 line feat q is) in
    added ∙ sym (name_by full_name_in (find (has_number Rt5 q) lines) line (nat_eq feat q))
    ∙ ap (λ line. option_map full_name_in line) (sym found)

-- the segments after one more line
pub segments_push : (joined : JoinedLines) (lines : List (List ℕ)) (line : List ℕ)
    → segments_of joined (lines ++ line ∷ []) ≡ segments_of joined lines ++ segment_of joined line ∷ []
segments_push joined lines line = map-append (segment_of joined) lines (line ∷ [])

-- counts of lines that include one more line
pub counts-push : {T A : Type 0} (file : CountyFile) {old new : LinesPerTlid T A} (lines : List (List ℕ)) (line : List ℕ) {number : ℕ}
    → number_in file line ≡ Some number → HoldsCounts file old lines → CountsAt old new number → HoldsCounts file new (lines ++ line ∷ [])
counts-push file lines line {number} is holds adds q =
    adds.counts q ∙ ap (λ n. n + cond (nat_eq number q) 1 0) (holds q) ∙ sym (length_with-push file lines line number q is)

-- a line with this number follows lines that are within the limits, in a file that has a limit and may repeat sequence numbers
pub record Follows (file : CountyFile) (lines : List (List ℕ)) (line : List ℕ) (number : ℕ) : Type 0 where
  pub numbered : number_in file line ≡ Some number
  pub within : IsWithinLimits file lines
  pub limited : (lines : List (List ℕ)) → IsWithinLimits file lines → IsWithinLineLimit file lines
  pub distinct : (lines : List (List ℕ)) → HasDistinctSequences file lines

with_room : (file : CountyFile) (lines : List (List ℕ)) (line : List ℕ) (number : ℕ) → Follows file lines line number
    → length (lines_with file number lines) < MAX_LINES_PER_TLID → IsWithinLimits file (lines ++ line ∷ [])
with_room Rt2 lines line number follows room = few-push Rt2 lines line number follows.numbered follows.within room
with_room Rt4 lines line number follows room = few-push Rt4 lines line number follows.numbered follows.within room
with_room Rt6 lines line number follows room = few-push Rt6 lines line number follows.numbered follows.within room
with_room otherwise lines line number follows room = tt

module _ {file : CountyFile} {lines : List (List ℕ)} {line : List ℕ} {number : ℕ} (follows : Follows file lines line number) where
  -- the line is added if its number has room; otherwise the lines with it exceed the limits
  added_by : {Adds : Type 0} (holds : List (List ℕ) → Type 0) (count : ℕ) → count ≡ length (lines_with file number lines)
      → (Adds → (count < MAX_LINES_PER_TLID) × holds (lines ++ line ∷ [])) → (result : Result Addition AllocError)
      → IfOk result (λ addition. MatchAddition addition Adds (MAX_LINES_PER_TLID ≤ count) ⊥) → IfOk result (IsAdded file lines line holds)
  added_by holds count is more (Ok Added) adds =
      let room = (more adds).0 in
      (with_room file lines line number follows (omega (arith, is, room)), follows.distinct (lines ++ line ∷ []), (more adds).1)
  added_by holds count is more (Ok OverLimit) full =
      λ within. not_few-push file lines line number follows.numbered (omega (arith, is, full)) (follows.limited (lines ++ line ∷ []) within)
  added_by holds count is more (Ok Repeated) none = absurd none
  added_by holds count is more (Err error) full = tt

  pub list_added : {V A : Type 0} (f : List ℕ → V) (old new : MultiMap V A) → ((q : ℕ) → list_at old q ≡ map f (lines_with file q lines))
      → (result : Result Addition AllocError)
      → IfOk result (λ addition. MatchAddition addition (AddsAt old new number (f line)) (MAX_LINES_PER_TLID ≤ length (list_at old number)) ⊥)
      → IfOk result (IsAdded file lines line (λ lines. (q : ℕ) → list_at new q ≡ map f (lines_with file q lines)))
  list_added f old new holds =
      added_by (λ lines. (q : ℕ) → list_at new q ≡ map f (lines_with file q lines)) (length (list_at old number))
      (ap length (holds number) ∙ length-map (lines_with file number lines) f)
      (λ adds. (adds.room, holds-push file f lines line follows.numbered holds adds))

  pub count_added : {T A : Type 0} (old new : LinesPerTlid T A) → HoldsCounts file old lines → (result : Result Addition AllocError)
      → IfOk result (λ addition. MatchAddition addition (CountsAt old new number) (MAX_LINES_PER_TLID ≤ count_at old number) ⊥)
      → IfOk result (IsAdded file lines line (HoldsCounts file new))
  count_added old new holds =
      added_by (HoldsCounts file new) (count_at old number) (holds number)
      (λ adds. (adds.room, counts-push file lines line follows.numbered holds adds))
