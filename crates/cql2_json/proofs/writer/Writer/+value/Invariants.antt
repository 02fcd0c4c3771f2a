use Rattle.std.proofs.Common.{◌≡◌, drop, Result}
use Rattle.json.specs.Value.{items_view}
use Rattle.cql2_json.specs.Translation.{items_text}
use Rattle.cql2_json.specs.Writer.{IsWithin, Writes}
use Rattle.cql2_json.specs.declared.fault.Flaw.{Flaw}
use Rattle.cql2_json.specs.declared.writer.Writer.{Writer}
use Rattle.cql2_json.proofs.writer.Writer.+value.Given as goal

-- whatever the values that are left write ends the text of all
abbrev pub invariant-items-loop-value : goal.invariant-items-loop-value
invariant-items-loop-value g l = record {
  within : IsWithin l.self;
  counted : l.index ≡ l.value-index;
  path : l.self.path.items ≡ l.initial.self.path.items;
  left : (end : Writer _) (result : Result (Unit {0}) Flaw)
      → Writes l.self (items_text (items_view (drop l.value-index l.value-items)) l.form l.self.path.items l.value-index) end result
      → Writes l.initial.self (items_text (items_view l.value-items) l.form l.initial.self.path.items 0) end result;
}
