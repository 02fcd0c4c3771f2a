use Rattle.std.proofs.Common.{◌≡◌, ℕ, ◌+◌, ◌<◌, List, ◌∷◌, [], ◌++◌, map, set, take, drop, subst, sym, ap, ◌∙◌, refl, arith}
use Rattle.std.proofs.lemmas.List.{length-set}
use Rattle.std.proofs.lemmas.Result.{err_from_is_err_and}
use Rattle.std.specs.Borrow.{Bor}
use Rattle.std.specs.List.{IsDistinct}
use Rattle.cql2.specs.declared.column.Column.{Column}
use Rattle.cql2.specs.declared.column.TheConstants.{MAX_COLUMNS}
use Rattle.layers.proofs.ColumnLemmas.{columns_named-some, column_added, fault_stops, names_left, put_column, room, still_distinct}
use Rattle.layers.specs.Columns.{columns_after, columns_named, is_same}
use Rattle.layers.proofs.columns.Columns.named.Goals as goal

pub loop-count-init : goal.loop-count-init
unfolding IsDistinct
loop-count-init c =
    let text_of : Bor (List ℕ) → List ℕ = λ name. name.now in
    record {
      length = refl;
      few = omega arith;
      so_far = columns_named-some text_of c.args.names.now (sym c.is_empty.ensures ∙ c.if-is_empty.false);
      distinct = tt;
    }

pub returns-in_err-columns : goal.returns-in_err-columns
returns-in_err-columns c =
    let text_of : Bor (List ℕ) → List ℕ = λ name. name.now in
    let texts = map text_of c.args.names.now in
    let count = c.loop-count.count in
    let failed = err_from_is_err_and c.from_residual.result c.from_residual.ensures.1 in
    let left = names_left c.args.names.now count _ c.as_bytes.result.now c.loop-count-test.true c.as_bytes.ensures.value in
    rw (failed.1, failed.2)
    (sym (fault_stops (take count c.loop-count.columns) (drop count texts) (drop (count + 1) texts) c.as_bytes.result.now c.column_named.result
    (columns_named texts) c.loop-count.invariant.so_far left c.column_named.ensures c.in_err-columns.field-0.0 c.in_err-columns.ensures.value))

pub bounds-columns-count : goal.bounds-columns-count
bounds-columns-count c =
    room c.loop-count.columns c.loop-count.count c.in_ok-columns.field-0 c.loop-count.invariant.length c.loop-count.invariant.few
    c.loop-count.invariant.distinct c.in_ok-columns.ensures.new

pub loop-count-preserved : goal.loop-count-preserved
loop-count-preserved c =
    let text_of : Bor (List ℕ) → List ℕ = λ name. name.now in
    let texts = map text_of c.args.names.now in
    let count = c.loop-count.count in
    let columns = c.loop-count.columns in
    let column = c.in_ok-columns.field-0 in
    let before = take count columns in
    let left = names_left c.args.names.now count _ c.as_bytes.result.now c.loop-count-test.true c.as_bytes.ensures.value in
    let inside : count < MAX_COLUMNS =
    room columns count column c.loop-count.invariant.length c.loop-count.invariant.few c.loop-count.invariant.distinct c.in_ok-columns.ensures.new in
    let put : before ++ column ∷ [] ≡ take (count + 1) (set columns count column) =
    sym (put_column columns count column c.loop-count.invariant.length inside) in
    let added = column_added before (drop count texts) (drop (count + 1) texts) c.as_bytes.result.now c.column_named.result (columns_named texts)
    c.loop-count.invariant.so_far left c.column_named.ensures column c.in_ok-columns.ensures.value in
    record {
      length = length-set columns count column ∙ c.loop-count.invariant.length;
      few = omega arith;
      so_far = sym (ap (λ (now : List Column). columns_after now (drop (count + 1) texts)) put) ∙ added;
      distinct = subst (λ (now : List Column). IsDistinct is_same now) put
          (still_distinct before column c.loop-count.invariant.distinct c.in_ok-columns.ensures.new);
    }
