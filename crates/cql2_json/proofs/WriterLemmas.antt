-- Writing one text after another.
use Rattle.std.proofs.Common.{◌≡◌, ℕ, Bool, true, false, Vec, ◌+◌, ◌-◌, ◌≤◌, List, [], ◌∷◌, ◌++◌, length, Some, Result, Ok, Err, refl, ap, sym, ◌∙◌}
use Rattle.std.proofs.Common.{subst, arith}
use Rattle.std.specs.Prelude.{nat_lt, if◌then◌else◌}
use Rattle.std.proofs.lemmas.Bool.Decides.{nat_tests}
use Rattle.std.proofs.lemmas.List.{append_assoc, append-nil, length-append}
use Rattle.std.proofs.lemmas.List.Concat.{flat_map-append}
use Rattle.cql2_json.specs.Translation.{Piece, Translation, joined, joined_text, path_at, refused, written, at, ◌▷◌}
use Rattle.cql2_json.specs.Writer.{Appends, IsWithin, Writes}
use Rattle.cql2_json.specs.declared.fault.ExpectedValue.{ExpectedValue}
use Rattle.cql2_json.specs.declared.fault.Flaw.{Flaw}
use Rattle.cql2_json.specs.declared.fault.Flaw.TheVariants.{Expected, TooLong, Memory}
use Rattle.cql2_json.specs.declared.pointer.Step.{Step}
use Rattle.cql2_json.specs.declared.writer.Writer.{Writer}

either-way : {X : Type 0} (b : Bool) (x y z p : X) → (y ≡ p → z ≡ p) → (if b then x else y) ≡ p → (if b then x else z) ≡ p
either-way true x y z p f is = is
either-way false x y z p f is = f is

otherwise : {X : Type 0} (b : Bool) (x y : X) → b ≡ false → (if b then x else y) ≡ y
otherwise true x y wrong = let never : ⊥ = cc in absurd never
otherwise false x y _ = refl

-- a place in the first pieces, and one after them
pub path_at-front : (ps qs : List Piece) (n : ℕ) (p : List Step) → path_at ps n ≡ Some p → path_at (ps ++ qs) n ≡ Some p
path_at-front [] qs n p is = absurd cc
path_at-front (one ∷ ps) qs n p is =
    either-way (nat_lt n (length one.text)) (Some one.path) (path_at ps (n - length one.text)) (path_at (ps ++ qs) (n - length one.text)) (Some p)
    (path_at-front ps qs (n - length one.text) p) is

pub path_at-past : (ps qs : List Piece) (n : ℕ) → length (joined ps) ≤ n → path_at (ps ++ qs) n ≡ path_at qs (n - length (joined ps))
path_at-past [] qs n past = ap (path_at qs) (omega arith)
path_at-past (one ∷ ps) qs n past =
    let size : length (joined (one ∷ ps)) ≡ length one.text + length (joined ps) = length-append one.text (joined ps) in
    let after : nat_lt n (length one.text) ≡ false = grind (arith, nat_tests) in
    let rest : length (joined ps) ≤ n - length one.text = omega arith in
    let same : n - length one.text - length (joined ps) ≡ n - length (joined (one ∷ ps)) = omega arith in
    otherwise (nat_lt n (length one.text)) (Some one.path) (path_at (ps ++ qs) (n - length one.text)) after
    ∙ path_at-past ps qs (n - length one.text) rest ∙ ap (path_at qs) same

pub joined-append : (ps qs : List Piece) → joined (ps ++ qs) ≡ joined ps ++ joined qs
joined-append ps qs = flat_map-append _ ps qs

-- the value at the path is refused
pub refuses : {A : Type 0} (old : Writer A) (needs : ExpectedValue) (translation : Translation) → IsWithin old
    → translation ≡ refused old.path.items needs → Writes old translation old (Err (Expected needs))
refuses old needs translation within is = subst (λ t. Writes old t old (Err (Expected needs))) (sym is) (refl, refl, omega arith)

pub appends-then : {A : Type 0} (old mid new : Writer A) (first second : List ℕ) → Appends old mid first → Appends mid new second
    → Appends old new (first ++ second)
appends-then old mid new first second a b = record {
  text_is = b.text_is ∙ ap (λ text. text ++ second) a.text_is ∙ append_assoc old.text.items first second;
  path_kept = b.path_kept ∙ a.path_kept;
  limit_kept = b.limit_kept ∙ a.limit_kept;
  within = b.within;
}

-- the limit is passed after the first pieces
passed-after : {A : Type 0} (old mid new : Writer A) (ps qs : List Piece) → Appends old mid (joined ps)
    → path_at qs (mid.limit - length mid.text.items) ≡ Some new.path.items
    → path_at (ps ++ qs) (old.limit - length old.text.items) ≡ Some new.path.items
passed-after old mid new ps qs a b =
    let size : length mid.text.items ≡ length old.text.items + length (joined ps) = ap length a.text_is ∙ length-append old.text.items (joined ps) in
    let kept = a.limit_kept in
    let within = a.within in
    let past : length (joined ps) ≤ old.limit - length old.text.items = omega arith in
    let same : old.limit - length old.text.items - length (joined ps) ≡ mid.limit - length mid.text.items = omega arith in
    path_at-past ps qs (old.limit - length old.text.items) past ∙ ap (path_at qs) same ∙ b

pub writes-then : {A : Type 0} (old mid new : Writer A) (first second : Translation) (result : Result (Unit {0}) Flaw)
    → Writes old first mid (Ok tt) → Writes mid second new result → Writes old (first ▷ second) new result
writes-then old mid new (Ok ps) (Ok qs) (Ok done) a b = rw (joined-append ps qs) (appends-then old mid new _ _ a b)
writes-then old mid new (Ok ps) (Ok qs) (Err (Expected needs)) a b = b
writes-then old mid new (Ok ps) (Ok qs) (Err TooLong) a b = passed-after old mid new ps qs a b
writes-then old mid new (Ok ps) (Ok qs) (Err Memory) a b = tt
writes-then old mid new (Ok ps) (Err fault) (Ok done) a b = b
writes-then old mid new (Ok ps) (Err fault) (Err (Expected needs)) a b =
    let size : length mid.text.items ≡ length old.text.items + length (joined ps) = ap length a.text_is ∙ length-append old.text.items (joined ps) in
    let all : length (joined (ps ++ fault.before)) ≡ length (joined ps) + length (joined fault.before) =
    ap length (joined-append ps fault.before) ∙ length-append (joined ps) (joined fault.before) in
    let kept = a.limit_kept in
    let short = b.2 in
    (b.0, b.1, omega arith)
writes-then old mid new (Ok ps) (Err fault) (Err TooLong) a b = passed-after old mid new ps fault.before a b
writes-then old mid new (Ok ps) (Err fault) (Err Memory) a b = tt
writes-then old mid new (Err fault) second result a b = absurd a

pub stops-first : {A : Type 0} (old new : Writer A) (first second : Translation) (flaw : Flaw)
    → Writes old first new (Err flaw) → Writes old (first ▷ second) new (Err flaw)
stops-first old new (Ok ps) (Ok qs) (Expected needs) a = a
stops-first old new (Ok ps) (Ok qs) TooLong a = path_at-front ps qs _ _ a
stops-first old new (Ok ps) (Ok qs) Memory a = tt
stops-first old new (Ok ps) (Err fault) (Expected needs) a = absurd a
stops-first old new (Ok ps) (Err fault) TooLong a = path_at-front ps fault.before _ _ a
stops-first old new (Ok ps) (Err fault) Memory a = tt
stops-first old new (Err fault) second flaw a = a

pub path-kept : {A : Type 0} (old new : Writer A) (translation : Translation) → Writes old translation new (Ok tt)
    → new.path.items ≡ old.path.items
path-kept old new (Ok ps) a = a.path_kept
path-kept old new (Err fault) a = absurd a

pub within-kept : {A : Type 0} (old new : Writer A) (translation : Translation) → Writes old translation new (Ok tt) → IsWithin new
within-kept old new (Ok ps) a = a.within
within-kept old new (Err fault) a = absurd a

-- a value in the one at the path, with the writers after the step into it, after its text and after the step back
pub record Inside {A : Type 0} (old left : Writer A) (step : Step) : Type 0 where
  pub entered : Writer A
  pub new : Writer A
  pub path_entered : entered.path.items ≡ at old.path.items step
  pub text_entered : (entered.text ≡ old.text) × (entered.limit ≡ old.limit)
  pub path_left : (path : List Step) (last : Step) → new.path.items ≡ path ++ last ∷ [] → left.path.items ≡ path
  pub text_left : (left.text ≡ new.text) × (left.limit ≡ new.limit)

same-text : {A : Type 0} (old left : Writer A) (step : Step) (translation : Translation) (inside : Inside old left step)
    → Writes inside.entered translation inside.new (Ok tt) → Writes old translation left (Ok tt)
same-text {A} old left step (Ok ps) inside a =
    let left_items : left.text.items ≡ inside.new.text.items = ap (λ (v : Vec ℕ A). v.items) inside.text_left.0 in
    let old_items : inside.entered.text.items ≡ old.text.items = ap (λ (v : Vec ℕ A). v.items) inside.text_entered.0 in
    let size = ap length left_items in
    let limit : left.limit ≡ inside.new.limit = inside.text_left.1 in
    let within = a.within in record {
      text_is = left_items ∙ a.text_is ∙ ap (λ items. items ++ joined ps) old_items;
      path_kept = inside.path_left old.path.items step (a.path_kept ∙ inside.path_entered);
      limit_kept = limit ∙ a.limit_kept ∙ inside.text_entered.1;
      within = omega arith;
    }
same-text old left step (Err fault) inside a = absurd a

pub writes-inside : {A : Type 0} (old left : Writer A) (step : Step) (translation : List Step → Translation) (inside : Inside old left step)
    → Writes inside.entered (translation inside.entered.path.items) inside.new (Ok tt) → Writes old (translation (at old.path.items step)) left (Ok tt)
writes-inside old left step translation inside a =
    subst (λ p. Writes old (translation p) left (Ok tt)) inside.path_entered
    (same-text old left step (translation inside.entered.path.items) inside a)

pub out_of_memory : {A : Type 0} (old new : Writer A) (translation : Translation) → Writes old translation new (Err Memory)
out_of_memory old new (Ok ps) = tt
out_of_memory old new (Err fault) = tt

pub writes-nothing : {A : Type 0} (writer : Writer A) → IsWithin writer → Writes writer (Ok []) writer (Ok tt)
writes-nothing writer within = record { text_is = sym (append-nil writer.text.items); path_kept = refl; limit_kept = refl; within = within }

-- what an empty writer has after a value
pub text-written : {A : Type 0} (old new : Writer A) (translation : Translation) → old.text.items ≡ [] → Writes old translation new (Ok tt)
    → joined_text translation ≡ Some new.text.items
text-written old new (Ok ps) empty a = ap Some (sym (a.text_is ∙ ap (λ items. items ++ joined ps) empty))
text-written old new (Err fault) empty a = absurd a
