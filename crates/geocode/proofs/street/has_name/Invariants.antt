use Rattle.std.proofs.Common.{◌≡◌, false, take}
use Rattle.std.specs.List.{list_any}
use Rattle.tl_segments.specs.Name.{name_equals}
use Rattle.tl_segments.specs.Segment.{names_of}
use Rattle.geocode.proofs.street.has_name.Given as goal

abbrev pub invariant-loop-n : goal.invariant-loop-n
invariant-loop-n g l = list_any (λ named. name_equals named l.name) (take l.n (names_of l.segment)) ≡ false
