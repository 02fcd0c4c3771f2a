use Rattle.std.proofs.Common.{◌≡◌, ◌≤◌, ◌∙◌, ap, sym, length, rules, map, take, true, List, Some, Bor, ℕ}
use Rattle.std.specs.List.{list_all}
use Rattle.std.proofs.lemmas.List.{take_all}
use Rattle.command_line.specs.Values.{is_code}
use Rattle.command_line.proofs.ValueLemmas.{codes_in_texts, no_codes_in_texts}
use Rattle.command_line.proofs.options.counties.Goals as goal

pub returns-in_err-five_digits-clause-read : goal.returns-in_err-five_digits-clause-read
returns-in_err-five_digits-clause-read c =
    let none = no_codes_in_texts c.args.given.now c.loop-code.code-index _ c.loop-code-test.true c.in_err-five_digits.ensures.0 in
    search rules

pub returns-clause-read : goal.returns-clause-read
returns-clause-read c =
    let given = c.args.given.now in
    let all : take c.loop-code.code-index given ≡ given = take_all c.loop-code.code-index given c.loop-code-test.false in
    let codes : list_all (λ code. is_code code.now) given ≡ true = rw all at c.loop-code.invariant.1 in
    let some : 1 ≤ length given = search rules in
    let few : length given ≤ 100_000 = search rules in
    codes_in_texts given some few codes
    ∙ ap (λ (items : List (Bor (List ℕ))). Some (map (λ code. code.now) items)) (sym (c.loop-code.invariant.0 ∙ all))
