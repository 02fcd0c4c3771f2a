use Rattle.std.proofs.Common.{[], ap, ◌∙◌}
use Rattle.std.specs.Prelude.{unwrap_or}
use Rattle.cql2_json.specs.Pointer.{pointer_text}
use Rattle.cql2_json.specs.Translation.{path_at}
use Rattle.cql2_json.proofs.FaultLemmas.{root}
use Rattle.cql2_json.proofs.translation.pointer_at.Goals as goal

pub returns-in-Ok : goal.returns-in-Ok
returns-in-Ok g c =
    λ short utf8 value pieces is ok.
    c.new.ensures.items ∙ root c.args.json.now c.offset_of.result c.in-Ok.field-0 value pieces is ok c.in-Ok.ensures.value
    ∙ ap (λ offset. pointer_text (unwrap_or (path_at pieces offset) [])) c.offset_of.ensures
