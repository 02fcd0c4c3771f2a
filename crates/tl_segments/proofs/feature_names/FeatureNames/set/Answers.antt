use Rattle.std.proofs.Common.{rules, ◌≡◌, ℕ, None, nat_le, slice_get, if◌then◌else◌, [], ◌∷◌, ◌++◌, ap, ◌∙◌, ◌+◌, ◌-◌, length}
use Rattle.std.proofs.Common.{arith}
use Rattle.std.proofs.lemmas.Grind.{common_steps}
use Rattle.std.specs.BTreeMap.{get}
use Rattle.std.specs.Ordering.{nat_cmp}
use Rattle.std.specs.Option.{option_or}
use Rattle.tl_segments.specs.FullName.{full_name_of}
use Rattle.tl_segments.specs.TableContents.{name_at}
use Rattle.tl_segments.proofs.TableLemmas.{AreNames, follows-push}
use Rattle.tl_segments.proofs.feature_names.FeatureNames.set.Goals as goal
use Rattle.tl_segments.proofs.feature_names.FeatureNames.set.Goals.{then-is_empty, else-is_empty}

pub returns-then-eq : goal.returns-then-eq
returns-then-eq g c =
    let old = c.args.self.now in
    let now = c.if-is_empty.self in
    let before : (q : ℕ) → name_at now q ≡ name_at old q = λ q. elim c.if-is_empty.branch [
      | then-is_empty w ↦ grind (arith, common_steps)
      | else-is_empty w ↦ ap (λ table. name_at table q) w.self-is
    ] in
    let none : name_at old c.args.feat ≡ None = search rules in
    let next : c.args.feat ≡ now.first + length now.following.items = grind (arith, common_steps) in
    let name = full_name_of c.args.name in
    let pushed : c.push.new.self.items ≡ now.following.items ++ name ∷ [] =
    c.in_ok-push.ensures.items ∙ ap (λ name. now.following.items ++ name ∷ []) c.of.ensures.value in
    let names : AreNames now.following.items now.first (get nat_cmp now.others) (name_at old) = record { are = before } in
    let follows = follows-push now.following.items name now.first names c.args.feat none next in
    record {
      ok = λ q. ap (λ names. option_or (if nat_le now.first q then slice_get names (q - now.first) else None)
          (get nat_cmp now.others q)) pushed ∙ follows q;
    }
