use Rattle.std.proofs.Common.{◌≡◌, ◌≤◌, length, false, Ok, Err, refl, sym, ◌∙◌, subst, arith, rules}
use Rattle.json.specs.Value.{value_view, items_view}
use Rattle.cql2_json.specs.Form.{admits, closing, count_of, item_kind}
use Rattle.cql2_json.specs.Translation.{items_text, own, refused, translation}
use Rattle.cql2_json.specs.Writer.{IsWithin, Writes}
use Rattle.cql2_json.specs.declared.fault.ExpectedValue.TheVariants as needed
use Rattle.cql2_json.specs.declared.fault.Flaw.TheVariants.{Expected}
use Rattle.cql2_json.specs.declared.members.Pair.TheVariants.{OpArgs, ArgsOp, TypeCoordinates, CoordinatesType, Other}
use Rattle.cql2_json.proofs.ArrayLemmas.{Enclosed, WritesItems, array-stops-inside, array-stops-open, array-writes}
use Rattle.cql2_json.proofs.ArrayLemmas.{Turn, WritesTurn, stops-at-separator, stops-at-value, turn_text, writes-on}
use Rattle.cql2_json.proofs.ObjectLemmas.{TwoMembers, refuses-many, refuses-none, writes-pair}
use Rattle.cql2_json.proofs.TranslationLemmas.{array-refused, items-end}
use Rattle.cql2_json.proofs.WriterLemmas.{Inside, path-kept, refuses, within-kept, writes-inside, writes-nothing}
use Rattle.cql2_json.proofs.writer.Writer.+value.Goals as goal

pub part-returns : goal.part-returns
part-returns g t c =
    let inside : Inside c.args.self.now c.leave.new.self c.args.step = record {
      entered = c.enter.new.self;
      new = c.value.new.self;
      path_entered = c.in_ok-enter.ensures.ok;
      text_entered = c.in_ok-enter.ensures.text;
      path_left = c.leave.ensures.path;
      text_left = c.leave.ensures.text;
    } in
    writes-inside _ _ _ (translation (value_view c.args.value.now) c.args.kind) inside c.in_ok-value.ensures

pub array-returns-then-not-admits : goal.array-returns-then-not-admits
array-returns-then-not-admits g t c =
    let values = c.args.values.now.items in
    let refused : admits (count_of c.args.form) (length values) ≡ false = cc in
    let within : IsWithin c.args.self.now = c.requires in
    rw c.count-then-not-admits.ensures
    (refuses c.args.self.now (needed.Array (count_of c.args.form)) _ within (array-refused values c.args.form c.args.self.now.path.items refused))

pub array-returns-in_err-put : goal.array-returns-in_err-put
array-returns-in_err-put g t c =
    let array : Enclosed _ =
    record { values = c.args.values.now.items; form = c.args.form; text = c.as_bytes.result.now; admitted = cc; opened = cc } in
    let stop = array-stops-open array c.args.self.now c.put.new.self _ c.in_err-put.ensures in
    search rules

pub array-returns-in_err-items : goal.array-returns-in_err-items
array-returns-in_err-items g t c =
    let array : Enclosed _ =
    record { values = c.args.values.now.items; form = c.args.form; text = c.as_bytes.result.now; admitted = cc; opened = cc } in
    let stop = array-stops-inside array c.args.self.now c.put.new.self c.items.new.self _ c.in_ok-put.ensures c.in_err-items.ensures in
    search rules

pub array-returns : goal.array-returns
array-returns g t c =
    let array : Enclosed _ =
    record { values = c.args.values.now.items; form = c.args.form; text = c.as_bytes.result.now; admitted = cc; opened = cc } in
    let written : WritesItems array c.args.self.now c.items.new.self =
    record { mid = c.put.new.self; opening_written = c.in_ok-put.ensures; items_written = c.in_ok-items.ensures } in
    let closes : c.as_bytes-2.result.now ≡ closing c.args.form = cc in
    array-writes array c.args.self.now c.items.new.self c.put-2.new.self _ written
    (subst (λ text. Writes c.items.new.self (own c.items.new.self.path.items text) c.put-2.new.self c.put-2.result) closes c.put-2.ensures)

pub array-put-requires-2 : goal.array-put-requires-2
array-put-requires-2 g t c =
    within-kept c.put.new.self c.items.new.self (items_text (items_view c.args.values.now.items) c.args.form c.put.new.self.path.items 0) c.in_ok-items.ensures

pub items-returns-in_err-put : goal.items-returns-in_err-put
items-returns-in_err-put g t c =
    let l = c.loop-value in
    let values = c.deref-value-items.result.now in
    let turn : Turn _ = record {
      values = values;
      form = c.args.form;
      place = l.value-index;
      index = l.index;
      value = c.value-item.result;
      text = c.as_bytes.result.now;
      kind = item_kind c.args.form l.index;
      counted = l.invariant.counted;
      inside = omega arith;
      is = c.value-item.is;
      separated = cc;
      kind_is = refl;
    } in
    let here = stops-at-separator turn l.self c.put.new.self _ c.in_err-put.ensures in
    let all = l.invariant.left c.put.new.self (Err c.in_err-put.field-0.0) here in
    let stop = subst (λ xs. Writes c.args.self.now (items_text (items_view xs) c.args.form c.args.self.now.path.items 0) c.put.new.self
    (Err c.in_err-put.field-0.0)) c.deref-value-items.ensures.value all in
    search rules

pub items-returns-in_err-part : goal.items-returns-in_err-part
items-returns-in_err-part g t c =
    let l = c.loop-value in
    let values = c.deref-value-items.result.now in
    let turn : Turn _ = record {
      values = values;
      form = c.args.form;
      place = l.value-index;
      index = l.index;
      value = c.value-item.result;
      text = c.as_bytes.result.now;
      kind = c.item.result;
      counted = l.invariant.counted;
      inside = omega arith;
      is = c.value-item.is;
      separated = cc;
      kind_is = c.item.ensures;
    } in
    let here = stops-at-value turn l.self c.put.new.self c.part.new.self _ c.in_ok-put.ensures c.in_err-part.ensures in
    let all = l.invariant.left c.part.new.self (Err c.in_err-part.field-0.0) here in
    let stop = subst (λ xs. Writes c.args.self.now (items_text (items_view xs) c.args.form c.args.self.now.path.items 0) c.part.new.self
    (Err c.in_err-part.field-0.0)) c.deref-value-items.ensures.value all in
    search rules

pub items-loop-value-preserved : goal.items-loop-value-preserved
items-loop-value-preserved g t c =
    let l = c.loop-value in
    let values = c.deref-value-items.result.now in
    let turn : Turn _ = record {
      values = values;
      form = c.args.form;
      place = l.value-index;
      index = l.index;
      value = c.value-item.result;
      text = c.as_bytes.result.now;
      kind = c.item.result;
      counted = l.invariant.counted;
      inside = omega arith;
      is = c.value-item.is;
      separated = cc;
      kind_is = c.item.ensures;
    } in
    let written : WritesTurn turn l.self c.part.new.self =
    record { mid = c.put.new.self; separator_written = c.in_ok-put.ensures; value_written = c.in_ok-part.ensures } in
    let inner = turn_text turn c.put.new.self.path.items in
    let after_separator : c.put.new.self.path.items ≡ l.self.path.items =
    path-kept l.self c.put.new.self (own l.self.path.items turn.text) written.separator_written in
    let after_value : c.part.new.self.path.items ≡ c.put.new.self.path.items = path-kept c.put.new.self c.part.new.self inner written.value_written in
    record {
      within = within-kept c.put.new.self c.part.new.self inner written.value_written;
      counted = omega (arith, l.invariant.counted);
      path = after_value ∙ after_separator ∙ l.invariant.path;
      left = λ end result rest. l.invariant.left end result (writes-on turn l.self c.part.new.self end result written rest);
    }

pub items-returns : goal.items-returns
items-returns g t c =
    let l = c.loop-value in
    let values = c.deref-value-items.result.now in
    let past : length values ≤ l.value-index = omega arith in
    let none = items-end values l.value-index c.args.form l.self.path.items past in
    let here = subst (λ t. Writes l.self t l.self (Ok tt)) (sym none) (writes-nothing l.self l.invariant.within) in
    let all = l.invariant.left l.self (Ok tt) here in
    subst (λ xs. Writes c.args.self.now (items_text (items_view xs) c.args.form c.args.self.now.path.items 0) l.self (Ok tt))
    c.deref-value-items.ensures.value all

pub object-returns-in-OpArgs : goal.object-returns-in-OpArgs
object-returns-in-OpArgs g t c =
    let two : TwoMembers c.args.members.now.items c.as_slice.result.now OpArgs = record {
      first = c.first-item.result;
      second = c.second-item.result;
      same = c.as_slice.ensures.value;
      some = c.in-len2.len_at_least;
      few = c.in-len2.len_below;
      first_is = c.first-item.is;
      second_is = c.second-item.is;
      named = c.in-OpArgs.ensures;
    } in
    writes-pair _ _ _ c.args.self.now c.operation.new.self c.operation.result two c.operation.ensures

pub object-returns-in-ArgsOp : goal.object-returns-in-ArgsOp
object-returns-in-ArgsOp g t c =
    let two : TwoMembers c.args.members.now.items c.as_slice.result.now ArgsOp = record {
      first = c.first-item.result;
      second = c.second-item.result;
      same = c.as_slice.ensures.value;
      some = c.in-len2.len_at_least;
      few = c.in-len2.len_below;
      first_is = c.first-item.is;
      second_is = c.second-item.is;
      named = c.in-ArgsOp.ensures;
    } in
    writes-pair _ _ _ c.args.self.now c.operation-in-ArgsOp.new.self c.operation-in-ArgsOp.result two c.operation-in-ArgsOp.ensures

pub object-returns-in-TypeCoordinates : goal.object-returns-in-TypeCoordinates
object-returns-in-TypeCoordinates g t c =
    let two : TwoMembers c.args.members.now.items c.as_slice.result.now TypeCoordinates = record {
      first = c.first-item.result;
      second = c.second-item.result;
      same = c.as_slice.ensures.value;
      some = c.in-len2.len_at_least;
      few = c.in-len2.len_below;
      first_is = c.first-item.is;
      second_is = c.second-item.is;
      named = c.in-TypeCoordinates.ensures;
    } in
    writes-pair _ _ _ c.args.self.now c.geometry.new.self c.geometry.result two c.geometry.ensures

pub object-returns-in-CoordinatesType : goal.object-returns-in-CoordinatesType
object-returns-in-CoordinatesType g t c =
    let two : TwoMembers c.args.members.now.items c.as_slice.result.now CoordinatesType = record {
      first = c.first-item.result;
      second = c.second-item.result;
      same = c.as_slice.ensures.value;
      some = c.in-len2.len_at_least;
      few = c.in-len2.len_below;
      first_is = c.first-item.is;
      second_is = c.second-item.is;
      named = c.in-CoordinatesType.ensures;
    } in
    writes-pair _ _ _ c.args.self.now c.geometry-in-CoordinatesType.new.self c.geometry-in-CoordinatesType.result two c.geometry-in-CoordinatesType.ensures

pub object-returns-in-Other : goal.object-returns-in-Other
object-returns-in-Other g t c =
    let two : TwoMembers c.args.members.now.items c.as_slice.result.now Other = record {
      first = c.first-item.result;
      second = c.second-item.result;
      same = c.as_slice.ensures.value;
      some = c.in-len2.len_at_least;
      few = c.in-len2.len_below;
      first_is = c.first-item.is;
      second_is = c.second-item.is;
      named = c.in-Other.ensures;
    } in
    writes-pair _ _ _ c.args.self.now c.args.self.now (Err (Expected needed.Object)) two
    (refuses c.args.self.now needed.Object (refused c.args.self.now.path.items needed.Object) c.requires refl)

pub object-returns-in_default : goal.object-returns-in_default
object-returns-in_default g t c = refuses-none _ c.as_slice.result.now c.args.self.now c.requires c.as_slice.ensures.value c.in_default.len_below

pub object-returns-in_default-2 : goal.object-returns-in_default-2
object-returns-in_default-2 g t c = refuses-many _ c.as_slice.result.now c.args.self.now c.requires c.as_slice.ensures.value c.in_default.len_at_least
