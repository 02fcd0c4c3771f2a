-- Lists of values by ascending ids: what is found in them after a change, and the same in terms of the ordered map.
use Rattle.std.proofs.Common.{◌≡◌, ◌≢◌, ℕ, ◌<◌, ◌≤◌, nat_eq, cond, inl, inr, List, [], ◌∷◌, ◌++◌, Some, None, Bool, true, false, refl, sym}
use Rattle.std.proofs.Common.{ap, ◌∙◌, arith}
use Rattle.std.proofs.Math.Path.{fun_ext}
use Rattle.std.specs.Prelude.{◌⊎◌, map}
use Rattle.std.specs.BTreeMap.{insert_entry, is_at}
use Rattle.std.specs.List.{AllByRecursion, Contains, IsDistinct}
use Rattle.std.specs.Map.{keys_of, lookup, remove_entry, set_value}
use Rattle.std.specs.Option.{option_map}
use Rattle.std.specs.Ordering.{match_ordering, nat_cmp}
use Rattle.std.specs.Cmp.{nat_cmp_is}
use Rattle.std.specs.declared.cmp.Ordering.TheVariants.{Greater}
use Rattle.std.proofs.lemmas.Bool.Decides.{nat_tests}
use Rattle.std.proofs.lemmas.Cmp.{nat_eq_equiv}
use Rattle.std.proofs.lemmas.List.{map-append}
use Rattle.std.proofs.lemmas.Map.{lookup-remove_entry, lookup-set_value}
use Rattle.std.proofs.lemmas.Map.Made.{lookup-map_values}
use Rattle.std.proofs.lemmas.Map.Views.{lookup-from_Contains}
use Rattle.jobs.specs.Inside.{Ascend}

-- a comparison of ids tests for equality
pub same_test : (id other : ℕ) → is_at (nat_cmp id) other ≡ nat_eq id other
same_test id other = grind (arith, nat_tests)

pub Ascend-lower : {X : Type 0} (low lower : ℕ) (es : List (ℕ × X)) (high : ℕ) → lower ≤ low → Ascend low es high → Ascend lower es high
Ascend-lower low lower [] high below ascend = tt
Ascend-lower low lower (e ∷ es) high below ascend = ((let first = ascend.0 in omega arith), ascend.1, ascend.2)

pub Ascend-push : {X : Type 0} (low : ℕ) (es : List (ℕ × X)) (high id : ℕ) (value : X) → low < id → high < id → Ascend low es high
    → Ascend low (es ++ (id, value) ∷ []) id
Ascend-push low [] high id value below above ascend = (below, (omega arith), tt)
Ascend-push low (e ∷ es) high id value below above ascend = (
  ascend.0,
  (let within = ascend.1 in omega arith),
  Ascend-push e.0 es high id value (let within = ascend.1 in omega arith) above
      ascend.2,
)

pub Ascend-set : {X : Type 0} (test : ℕ → Bool) (low : ℕ) (es : List (ℕ × X)) (high : ℕ) (value : X) → Ascend low es high
    → Ascend low (set_value test es value) high
Ascend-set test low [] high value ascend = tt
Ascend-set test low (e ∷ es) high value ascend = let others = Ascend-set test e.0 es high value ascend.2 in grind (arith, ascend, others)

pub Ascend-remove : {X : Type 0} (test : ℕ → Bool) (low : ℕ) (es : List (ℕ × X)) (high : ℕ) → Ascend low es high
    → Ascend low (remove_entry test es) high
Ascend-remove test low [] high ascend = tt
Ascend-remove test low (e ∷ es) high ascend =
    let skipped = Ascend-lower e.0 low es high (let first = ascend.0 in omega arith) ascend.2 in
    let others = Ascend-remove test e.0 es high ascend.2 in grind (arith, ascend, skipped, others)

-- an id that is found is within the bounds
pub found_within : {X : Type 0} (low : ℕ) (es : List (ℕ × X)) (high id : ℕ) (value : X) → Ascend low es high
    → lookup (nat_eq id) es ≡ Some value → (low < id) × (id ≤ high)
found_within low [] high id value ascend found = cc
found_within {X} low (e ∷ es) high id value ascend found = by (found_within e.0 es high id value ascend.2) (nat_eq id e.0) refl found
  where
    by : (lookup (nat_eq id) es ≡ Some value → (e.0 < id) × (id ≤ high)) → (here : Bool) → nat_eq id e.0 ≡ here
        → cond here (Some e.1) (lookup (nat_eq id) es) ≡ Some value → (low < id) × (id ≤ high)
    by others true is found = let first = ascend.0 in let within = ascend.1 in ((grind (arith, nat_tests)), grind (arith, nat_tests))
    by others false is found =
        let there = others found in
        let first = ascend.0 in
        ((let above = there.0 in omega arith), there.1)

-- what is found after a value was appended
pub found_pushed : {X : Type 0} (es : List (ℕ × X)) (id : ℕ) (value : X) (q : ℕ) (found : X)
    → lookup (nat_eq q) (es ++ (id, value) ∷ []) ≡ Some found → (lookup (nat_eq q) es ≡ Some found) ⊎ ((q ≡ id) × (found ≡ value))
found_pushed {X} [] id value q found is = by (nat_eq q id) refl is
  where
    by : (here : Bool) → nat_eq q id ≡ here → cond here (Some value) None ≡ Some found → (None ≡ Some found) ⊎ ((q ≡ id) × (found ≡ value))
    by true is there = inr ((grind (arith, nat_tests)), cc)
    by false is there = cc
found_pushed (e ∷ es) id value q found is = grind (arith, nat_tests, found_pushed es id value q found)

-- ascending ids are distinct
distinct : {X : Type 0} (low : ℕ) (es : List (ℕ × X)) (high : ℕ) → Ascend low es high → IsDistinct nat_eq (keys_of es)
unfolding IsDistinct
distinct low [] high ascend = tt
distinct low (e ∷ es) high ascend = (above e.0 e.0 es high (omega arith) ascend.2, distinct e.0 es high ascend.2)
  where
    above : {X : Type 0} (id low : ℕ) (es : List (ℕ × X)) (high : ℕ) → id ≤ low → Ascend low es high
        → AllByRecursion (λ other. nat_eq id other ≡ false) (keys_of es)
    above id low [] high least ascend = tt
    above id low (e ∷ es) high least ascend =
        let first = ascend.0 in ((grind (arith, nat_tests)), above id e.0 es high (omega arith) ascend.2)

same_key : (id x y : ℕ) → nat_eq id x ≡ true → nat_eq id y ≡ nat_eq x y
same_key id x y same = let is : id ≡ x = grind (arith, nat_tests) in ap (λ id. nat_eq id y) is

-- what is found after a value was changed
pub found_changed : {X : Type 0} (es : List (ℕ × X)) (id : ℕ) (old value : X) (q : ℕ) (found : X) → lookup (nat_eq id) es ≡ Some old
    → lookup (nat_eq q) (set_value (nat_eq id) es value) ≡ Some found → ((q ≢ id) × (lookup (nat_eq q) es ≡ Some found))
    ⊎ ((q ≡ id) × (found ≡ value))
found_changed es id old value q found there is =
    by (nat_eq id q) refl (sym (lookup-set_value nat_eq_equiv (nat_eq id) (same_key id) q value es (rw there refl)) ∙ is)
  where
    by : (same : Bool) → nat_eq id q ≡ same → cond same (Some value) (lookup (nat_eq q) es) ≡ Some found
        → ((q ≢ id) × (lookup (nat_eq q) es ≡ Some found)) ⊎ ((q ≡ id) × (found ≡ value))
    by true same is = inr ((grind (arith, nat_tests)), cc)
    by false other is = inl ((grind (arith, nat_tests)), is)

-- what is found after an id was removed was also found before
pub found_removed : {X : Type 0} (es : List (ℕ × X)) (high id q : ℕ) (found : X) → Ascend 0 es high
    → lookup (nat_eq q) (remove_entry (nat_eq id) es) ≡ Some found → lookup (nat_eq q) es ≡ Some found
found_removed {X} es high id q found ascend is =
    by (nat_eq id q) (sym (lookup-remove_entry nat_eq_equiv (nat_eq id) (same_key id) q es (distinct 0 es high ascend)) ∙ is)
  where
    by : (same : Bool) → cond same None (lookup (nat_eq q) es) ≡ Some found → lookup (nat_eq q) es ≡ Some found
    by true none = cc
    by false there = there

-- an entry is found by its id
pub found_among : {X : Type 0} (es : List (ℕ × X)) (high id : ℕ) (value : X) → Ascend 0 es high → Contains es (id, value)
    → lookup (nat_eq id) es ≡ Some value
found_among es high id value ascend among = lookup-from_Contains nat_eq_equiv id value es (distinct 0 es high ascend) among

-- an id above all others is inserted at the end
pub insert_entry-last : {X : Type 0} (low : ℕ) (es : List (ℕ × X)) (high id : ℕ) (value : X) → Ascend low es high → high < id
    → insert_entry nat_cmp es id value ≡ es ++ (id, value) ∷ []
insert_entry-last low [] high id value ascend above = refl
insert_entry-last {X} low (e ∷ es) high id value ascend above =
    let within = ascend.1 in
    let after : Greater ≡ nat_cmp id e.0 = nat_cmp_is id e.0 Greater (omega arith) in
    let others = insert_entry-last e.0 es high id value ascend.2 above in
    ap (λ order. match_ordering order ((id, value) ∷ e ∷ es) ((e.0, value) ∷ es) (e ∷ insert_entry nat_cmp es id value)) (sym after)
    ∙ ap (λ (es : List (ℕ × X)). e ∷ es) others

-- ids before an entry are less than its id
pub less_before : {X : Type 0} (low : ℕ) (front : List (ℕ × X)) (entry : ℕ × X) (back : List (ℕ × X)) (high : ℕ)
    → Ascend low (front ++ entry ∷ back) high → (low < entry.0) × AllByRecursion (λ (before : ℕ × X). before.0 < entry.0) front
less_before low [] entry back high ascend = (ascend.0, tt)
less_before low (first ∷ front) entry back high ascend =
    let others = less_before first.0 front entry back high ascend.2 in
    let above = others.0 in
    ((let first = ascend.0 in omega arith), (above, others.1))

-- the entries of a map, with the visible part of each value
module _ {X Y : Type 0} (seen : X → Y) where
  abbrev pub entries_seen : List (ℕ × X) → List (ℕ × Y)
  entries_seen es = map (λ e. (e.0, seen e.1)) es

  pub Ascend-seen : (low : ℕ) (es : List (ℕ × X)) (high : ℕ) → Ascend low es high → Ascend low (entries_seen es) high
  Ascend-seen low [] high ascend = tt
  Ascend-seen low (e ∷ es) high ascend = (ascend.0, ascend.1, Ascend-seen e.0 es high ascend.2)

  pub lookup-seen : (id : ℕ) (es : List (ℕ × X)) → lookup (nat_eq id) (entries_seen es) ≡ option_map seen (lookup (is_at (nat_cmp id)) es)
  lookup-seen id es =
      lookup-map_values seen (nat_eq id) es ∙ ap (λ test. option_map seen (lookup test es)) (sym (fun_ext (same_test id)))

  entries_seen-set_value : (test : ℕ → Bool) (es : List (ℕ × X)) (value : X)
      → entries_seen (set_value test es value) ≡ set_value test (entries_seen es) (seen value)
  entries_seen-set_value test [] value = refl
  entries_seen-set_value test (e ∷ es) value = grind (arith, entries_seen-set_value test es value)

  pub set_value-seen : (id : ℕ) (es : List (ℕ × X)) (value : X)
      → entries_seen (set_value (is_at (nat_cmp id)) es value) ≡ set_value (nat_eq id) (entries_seen es) (seen value)
  set_value-seen id es value =
      ap (λ test. entries_seen (set_value test es value)) (fun_ext (same_test id)) ∙ entries_seen-set_value (nat_eq id) es value

  entries_seen-remove_entry : (test : ℕ → Bool) (es : List (ℕ × X)) → entries_seen (remove_entry test es) ≡ remove_entry test (entries_seen es)
  entries_seen-remove_entry test [] = refl
  entries_seen-remove_entry test (e ∷ es) = grind (arith, entries_seen-remove_entry test es)

  pub remove_entry-seen : (id : ℕ) (es : List (ℕ × X)) → entries_seen (remove_entry (is_at (nat_cmp id)) es) ≡ remove_entry (nat_eq id)
      (entries_seen es)
  remove_entry-seen id es =
      ap (λ test. entries_seen (remove_entry test es)) (fun_ext (same_test id)) ∙ entries_seen-remove_entry (nat_eq id) es

  pub insert_entry-seen : (low : ℕ) (es : List (ℕ × X)) (high id : ℕ) (value : X) → Ascend low es high → high < id
      → entries_seen (insert_entry nat_cmp es id value) ≡ entries_seen es ++ (id, seen value) ∷ []
  insert_entry-seen low es high id value ascend above =
      ap entries_seen (insert_entry-last low es high id value ascend above)
      ∙ map-append (λ (e : ℕ × X). (e.0, seen e.1)) es ((id, value) ∷ [])
