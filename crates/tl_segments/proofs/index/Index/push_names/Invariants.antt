use Rattle.std.proofs.Common.{◌≡◌, ◌*◌, ◌≤◌, length, take}
use Rattle.std.specs.List.{flat_map}
use Rattle.tl_segments.specs.FullName.{with_names}
use Rattle.tl_segments.specs.TableContents.{names_among}
use Rattle.tl_segments.proofs.index.Index.push_names.Given as goal

abbrev pub invariant-loop-features : goal.invariant-loop-features
invariant-loop-features g l = record {
  names : l.segment ≡ with_names l.initial.segment (flat_map (names_among l.self.names) (take l.features-index l.lines));
  few : length l.segment.names ≤ 5 * l.features-index;
}
