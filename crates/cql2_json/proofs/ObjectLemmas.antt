-- Writing objects.
use Rattle.std.proofs.Common.{◌≡◌, ◌<◌, ◌≤◌, List, length, get_or, Result, Err, sym, subst}
use Rattle.std.specs.Borrow.{Bor}
use Rattle.std.specs.Prelude.{ℕ}
use Rattle.json.specs.Value.{members_view}
use Rattle.json.specs.declared.value.Value.{Value}
use Rattle.cql2_json.specs.Members.{pair_of_names}
use Rattle.cql2_json.specs.Translation.{object_text}
use Rattle.cql2_json.specs.Writer.{IsWithin, Writes}
use Rattle.cql2_json.specs.declared.fault.ExpectedValue.TheVariants as needed
use Rattle.cql2_json.specs.declared.fault.Flaw.{Flaw}
use Rattle.cql2_json.specs.declared.fault.Flaw.TheVariants.{Expected}
use Rattle.cql2_json.specs.declared.members.Pair.{Pair}
use Rattle.cql2_json.specs.declared.writer.Writer.{Writer}
use Rattle.cql2_json.proofs.TranslationLemmas.{object-empty, object-many, object-pair, pair_text}
use Rattle.cql2_json.proofs.WriterLemmas.{refuses}

-- the two members of an object, by their names
pub record TwoMembers {A : Type 0} (ms xs : List (Bor (List ℕ) × Value A)) (pair : Pair) : Type 0 where
  pub first : Bor (List ℕ) × Value A
  pub second : Bor (List ℕ) × Value A
  pub same : xs ≡ ms
  pub some : 2 ≤ length xs
  pub few : length xs < 3
  pub first_is : first ≡ get_or xs 0 first
  pub second_is : second ≡ get_or xs 1 second
  pub named : pair ≡ pair_of_names first.0.now second.0.now

pub writes-pair : {A : Type 0} (ms xs : List (Bor (List ℕ) × Value A)) (pair : Pair) (old end : Writer A) (result : Result (Unit {0}) Flaw)
    (two : TwoMembers ms xs pair) → Writes old (pair_text pair two.first two.second old.path.items) end result
    → Writes old (object_text (members_view ms) old.path.items) end result
writes-pair ms xs pair old end result two w =
    let path = old.path.items in
    let named = subst (λ p. Writes old (pair_text p two.first two.second path) end result) two.named w in
    let shape = object-pair xs two.first two.second path two.some two.few two.first_is two.second_is in
    let there = subst (λ t. Writes old t end result) (sym shape) named in
    subst (λ members. Writes old (object_text (members_view members) path) end result) two.same there

pub refuses-none : {A : Type 0} (ms xs : List (Bor (List ℕ) × Value A)) (old : Writer A) → IsWithin old → xs ≡ ms → length xs < 1
    → Writes old (object_text (members_view ms) old.path.items) old (Err (Expected needed.Object))
refuses-none ms xs old within same few =
    subst (λ members. Writes old (object_text (members_view members) old.path.items) old (Err (Expected needed.Object))) same
    (refuses old needed.Object _ within (object-empty xs old.path.items few))

pub refuses-many : {A : Type 0} (ms xs : List (Bor (List ℕ) × Value A)) (old : Writer A) → IsWithin old → xs ≡ ms → 3 ≤ length xs
    → Writes old (object_text (members_view ms) old.path.items) old (Err (Expected needed.Object))
refuses-many ms xs old within same many =
    subst (λ members. Writes old (object_text (members_view members) old.path.items) old (Err (Expected needed.Object))) same
    (refuses old needed.Object _ within (object-many xs old.path.items many))
