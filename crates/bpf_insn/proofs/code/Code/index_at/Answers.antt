use Rattle.std.proofs.Common.{◌≡◌, ℕ, ◌<◌, ◌∙◌, sym, ap, subst, length, List, Option, IfSome}
use Rattle.std.specs.Prelude.{slice_get}
use Rattle.std.specs.Option.{option_flatten}
use Rattle.bpf_insn.specs.Code.{index_at}
use Rattle.bpf_insn.specs.Table.{indexes_from}
use Rattle.bpf_insn.specs.declared.instruction.Insn.{Insn}
use Rattle.bpf_insn.proofs.PlaceLemmas.{read_finds, indexes_find, index_within}
use Rattle.bpf_insn.proofs.code.Code.index_at.Goals as goal

-- what is read from the table of indexes
read_index : (items : List (Option ℕ)) (built code : List Insn) (place : ℕ) (read : Option ℕ) → items ≡ indexes_from 0 built → built ≡ code
    → read ≡ option_flatten (slice_get items place) → read ≡ index_at code place
read_index items built code place read table same is = is ∙ indexes_find items built place table ∙ ap
    (λ (code : List Insn). index_at code place) same

pub returns-in_err-index-clause-value : goal.returns-in_err-index-clause-value
returns-in_err-index-clause-value g c =
    let lookup = c.get.ensures.lookup in
    c.from_residual.ensures ∙ sym c.in_err-index.was
    ∙ read_index c.deref.result.now _ c.args.self.now c.args.place _ (c.deref.ensures.value ∙ c.self-inside.invariant.1)
    (ap (λ s. s.built) c.self-inside.view_is ∙ c.self.view_is)
    (c.flatten.ensures ∙ ap option_flatten (c.copied.ensures ∙ read_finds c.get.result c.deref.result.now c.args.place _ lookup.1 lookup.3))

pub returns-clause-value : goal.returns-clause-value
returns-clause-value g c =
    let lookup = c.get.ensures.lookup in
    sym c.in_ok-index.was
    ∙ read_index c.deref.result.now _ c.args.self.now c.args.place _ (c.deref.ensures.value ∙ c.self-inside.invariant.1)
    (ap (λ s. s.built) c.self-inside.view_is ∙ c.self.view_is)
    (c.flatten.ensures ∙ ap option_flatten (c.copied.ensures ∙ read_finds c.get.result c.deref.result.now c.args.place _ lookup.1 lookup.3))

pub returns-clause-within : goal.returns-clause-within
returns-clause-within g c =
    subst (λ (o : Option ℕ). IfSome o (λ index. index < length c.args.self.now)) (sym (returns-clause-value g c))
    (index_within c.args.self.now c.args.place)
