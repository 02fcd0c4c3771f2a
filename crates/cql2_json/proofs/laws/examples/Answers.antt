use Rattle.std.proofs.Common.{refl}
use Rattle.json.proofs.OnLiterals.{json_on_literals}
use Rattle.cql2_json.specs.Translation.{items_text, members_text, object_text, translation}
use Rattle.cql2_json.proofs.laws.examples.Goals as goal

pub returns-clause-combined : goal.returns-clause-combined
unfolding json_on_literals translation items_text object_text members_text
returns-clause-combined c = refl

pub returns-clause-quoted : goal.returns-clause-quoted
unfolding json_on_literals translation items_text object_text members_text
returns-clause-quoted c = refl

pub returns-clause-spatial : goal.returns-clause-spatial
unfolding json_on_literals translation items_text object_text members_text
returns-clause-spatial c = refl

pub returns-clause-misplaced : goal.returns-clause-misplaced
unfolding json_on_literals translation items_text object_text members_text
returns-clause-misplaced c = refl
