use Rattle.std.proofs.Common.{◌≡◌, ◌+◌, ◌≤◌, length, take}
use Rattle.tl_segments.specs.FullName.{with_names}
use Rattle.tl_segments.specs.TableContents.{names_among}
use Rattle.tl_segments.proofs.index.Index.push_names_among.Given as goal

abbrev pub invariant-loop-feat : goal.invariant-loop-feat
invariant-loop-feat g l = record {
  names : l.segment ≡ with_names l.initial.segment (names_among l.self.names (take l.feat-index l.features));
  few : length l.segment.names ≤ length l.initial.segment.names + l.feat-index;
}
