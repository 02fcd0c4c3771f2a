use Rattle.std.proofs.Common.{◌≡◌, [], Ok, Some, subst}
use Rattle.json.specs.Value.{value_view}
use Rattle.cql2_json.specs.Translation.{text_of, translation}
use Rattle.cql2_json.specs.Writer.{Writes}
use Rattle.cql2_json.specs.declared.form.ValueKind.TheVariants.{Expression}
use Rattle.cql2_json.specs.declared.writer.Writer.{Writer}
use Rattle.cql2_json.proofs.CleanLemmas.{one-line}
use Rattle.cql2_json.proofs.WriterLemmas.{text-written}
use Rattle.cql2_json.proofs.translation.text_of_value.Goals as goal

pub returns-in-Ok-clause-one_line : goal.returns-in-Ok-clause-one_line
returns-in-Ok-clause-one_line g c =
    let value = value_view c.args.value.now in
    let old : Writer _ = record { text = c.new.result; path = c.new-2.result; limit = c.args.limit } in
    let written : Writes old (translation value Expression c.new-2.result.items) c.value.new.self (Ok tt) = c.in-Ok.ensures in
    let at_root = subst (λ path. Writes old (translation value Expression path) c.value.new.self (Ok tt)) c.new-2.ensures.items written in
    let text_is : text_of value ≡ Some c.value.new.self.text.items =
    text-written old c.value.new.self (translation value Expression []) c.new.ensures.items at_root in
    one-line value c.value.new.self.text.items c.requires text_is
