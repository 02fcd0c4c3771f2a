-- Lists of names and ranges shared by the segments of a TLID.
use Rattle.std.specs.Prelude.{◌≡◌, ℕ, nat_eq, List, Some, IfSome}
use Rattle.std.specs.BTreeMap.{get}
use Rattle.std.specs.Ordering.{nat_cmp}
use Rattle.tl_segments.specs.FullName.{contents}
use Rattle.tl_segments.specs.Indexing.{IsIndexOf}
use Rattle.tl_segments.specs.JoinedLists.{AreValidLists}
use Rattle.tl_segments.specs.Joining.{JoinedLines, number_in, segment_of}
use Rattle.tl_segments.specs.declared.fault.CountyFile.TheVariants.{Rt1}
use Rattle.tl_segments.specs.declared.index.Index.{Index}
use Rattle.tl_segments.specs.declared.joined.JoinedLists.{JoinedLists}
use Rattle.tl_segments.specs.declared.shared_lists.SharedLists.{SharedLists}

-- these are the names and ranges that the index joins to each type 1 line with this TLID
pub record IsJoinedTo {A : Type 0} (index : Index A) (tlid : ℕ) (joined : JoinedLists A) : Type 0 where
  pub valid : AreValidLists joined
  pub made : (lines : JoinedLines) → IsIndexOf index lines → (bytes : List ℕ) → number_in Rt1 bytes ≡ Some tlid
      → contents bytes joined.names.items joined.ranges.items ≡ segment_of lines bytes

-- the lists stored for each TLID are those that the index joins to its type 1 lines
abbrev pub HoldsShared : {A : Type 0} → Index A → SharedLists A → Type 0
HoldsShared index shared = (tlid : ℕ) → IfSome (get nat_cmp shared.lists tlid) (λ joined. IsJoinedTo index tlid joined.value)
